-- What the writer's own parts ask and answer. Assumes nothing.
use Rattle.std.specs.Prelude.{List, [], ◌∷◌}
use Rattle.plans.specs.Plans.{PlanNumbers}
use Rattle.slip.specs.declared.put.Number.{Number}
use Rattle.slip.specs.declared.put.Number.TheVariants.{Two}

-- a plan's five numbers, in two bytes each
abbrev pub plan_numbers : PlanNumbers → List Number
plan_numbers p = Two p.n1 ∷ Two p.ac1 ∷ Two p.re1 ∷ Two p.n2 ∷ Two p.ac2 ∷ []
