-- What make answers: exactly the plans that agree. Assumes nothing.
use Rattle.std.specs.Prelude.{ℕ, ◌+◌, Bool, cond, ◌&&◌, ◌||◌, List, Ok, Err, codes, Result, ◌==◌, nat_le, nat_lt}
use Rattle.film.specs.Refusals.{Answer, given, refused, refuse}
use Rattle.plans.specs.Plans.{PlanNumbers, Sample, samples_of}
use Rattle.plans.specs.Faults.{plan_refusal}
use Rattle.plans.specs.declared.fault.PlanFault.{PlanFault}
use Rattle.plans.specs.declared.plan.Plan.{Plan}

-- a plan's five numbers
abbrev pub numbers_of : Plan → PlanNumbers
numbers_of p = record { n1 = p.n1; ac1 = p.ac1; re1 = p.re1; n2 = p.n2; ac2 = p.ac2 }

-- and its samples
abbrev pub plan_samples : Plan → List Sample
plan_samples p = samples_of (numbers_of p)

-- what make's result says
abbrev pub plan_reading : Result Plan PlanFault → Answer PlanNumbers
plan_reading (Ok p) = given (numbers_of p)
plan_reading (Err fault) = refused (plan_refusal fault)

-- the accept and reject numbers go together, with a second sample or without one
abbrev pub agreeing : (ac1 re1 n2 ac2 : ℕ) → Bool
agreeing ac1 re1 n2 ac2 = cond (n2 == 0) (re1 == ac1 + 1 && ac2 == ac1) (nat_le (ac1 + 2) re1 && nat_le re1 (ac2 + 1))

-- the plan with these numbers, or the first of the three refusals
abbrev pub made : (n1 ac1 re1 n2 ac2 : ℕ) → Answer PlanNumbers
made n1 ac1 re1 n2 ac2 =
    cond (n1 == 0 || nat_lt 32768 (n1 + n2)) (refuse 31 1 (codes "P"))
    (cond (nat_lt 255 ac2) (refuse 32 5 (codes "P"))
    (cond (agreeing ac1 re1 n2 ac2) (given (record { n1 = n1; ac1 = ac1; re1 = re1; n2 = n2; ac2 = ac2 })) (refuse 33 3 (codes "P"))))
