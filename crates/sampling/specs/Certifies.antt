-- What certify answers, and what it leaves in the rows. Assumes nothing.
use Rattle.std.specs.Prelude.{◌≡◌, ℕ, ◌*◌, ◌≤◌, Bool, true, false, cond, ◌||◌, List, ◌++◌, length, Ok, Err, codes, Result, ◌==◌, nat_le, nat_lt}
use Rattle.film.specs.Refusals.{Answer, given, refused, refuse}
use Rattle.draws.specs.Counting.{count_below}
use Rattle.draws.specs.Draws.{DrawMeaning}
use Rattle.plans.specs.Plans.{PlanNumbers, samples_of}
use Rattle.plans.specs.Working.{whole}
use Rattle.plans.specs.Limits.{Keeps}
use Rattle.plans.specs.Faults.{plan_refusal}
use Rattle.plans.specs.declared.fault.PlanFault.{PlanFault}
use Rattle.sampling.specs.Certified.{CertifiedNumbers, certified_numbers, CertifiedFor}
use Rattle.sampling.specs.Chances.{enclosed, row_left}
use Rattle.sampling.specs.declared.certified.Certified.{Certified}
use Rattle.sampling.specs.declared.chance.Ends.{Ends}

-- units of one part in 2^40 are within a limit in millionths
abbrev pub is_within : (limit units : ℕ) → Bool
is_within limit units = nat_le (units * 1000000) (limit * whole)

-- a tolerance is a number of the reel's frames
abbrev pub no_tolerance : (N T : ℕ) → Bool
no_tolerance N T = T == 0 || nat_lt N T

-- and a limit a share in millionths
abbrev pub no_limit : ℕ → Bool
no_limit limit = limit == 0 || nat_lt 999999 limit

-- what certify's result says
abbrev pub certified_reading : {R : Type 0} → Result (Certified R) PlanFault → Answer CertifiedNumbers
certified_reading (Ok c) = given (certified_numbers c)
certified_reading (Err fault) = refused (plan_refusal fault)

-- a refusal of chance goes on with the plan layer's letter; ends are certified if they keep the limit
abbrev pub judged : (N T limit : ℕ) → PlanNumbers → Answer Ends → Answer CertifiedNumbers
judged N T limit p (given ends) =
    cond (is_within limit ends.lo)
    (cond (is_within limit ends.hi) (given (record { N = N; T = T; limit = limit; plan = p; lo = ends.lo; hi = ends.hi })) (refuse 36 T (codes "P")))
    (refuse 35 T (codes "P"))
judged N T limit p (refused fault) = refuse fault.number fault.place (fault.layers ++ codes "P")

-- what certify answers; low and high are how many cells the rows have
abbrev pub certified_by : DrawMeaning → (N T limit : ℕ) → PlanNumbers → (low high : ℕ) → Answer CertifiedNumbers
certified_by m N T limit p low high =
    cond (no_tolerance N T) (refuse 34 T (codes "P"))
    (cond (no_limit limit) (refuse 37 limit (codes "P"))
    (judged N T limit p (enclosed m N T p low high)))

-- the rows are left as chance leaves them, whether or not the ends keep the limit
abbrev pub certified_row : (up : Bool) → DrawMeaning → (N T limit : ℕ) → PlanNumbers → (low high : ℕ) → List ℕ → List ℕ
certified_row up m N T limit p low high old =
    cond (no_tolerance N T) old
    (cond (no_limit limit) old
    (row_left up m N T p (enclosed m N T p low high) old))

-- what certify promises: its answer and both rows are the definitions', what it gives is certified, and a certified plan
-- keeps the limit whichever frames are bad, so long as there are T of them or more
pub record Certifies (m : DrawMeaning) (N T limit : ℕ) (p : PlanNumbers) (low high low' high' : List ℕ) (answer : Answer CertifiedNumbers) : Type 0 where
  pub value : answer ≡ certified_by m N T limit p (length low) (length high)
  pub low_row : low' ≡ certified_row false m N T limit p (length low) (length high) low
  pub high_row : high' ≡ certified_row true m N T limit p (length low) (length high) high
  pub certified : (c : CertifiedNumbers) → answer ≡ given c → CertifiedFor m c
  pub guards : (c : CertifiedNumbers) → answer ≡ given c → (is_bad : ℕ → Bool) → T ≤ count_below is_bad N → Keeps m N is_bad (samples_of p) limit
