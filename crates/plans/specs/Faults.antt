-- The refusals of the plan layer, case by case. Assumes nothing.
use Rattle.std.specs.Prelude.{ℕ, List, codes}
use Rattle.film.specs.Refusals.{Refusal}
use Rattle.plans.specs.ChanceFaults.{chance_number, chance_place}
use Rattle.plans.specs.declared.fault.PlanFault.{PlanFault}
use Rattle.plans.specs.declared.fault.PlanFault.TheVariants.{Size, Accept, Disagree, Tolerance, Limit, Chance, TooRisky, TooClose}

abbrev pub plan_number : PlanFault → ℕ
plan_number Size = 31
plan_number Accept = 32
plan_number Disagree = 33
plan_number (Tolerance bad) = 34
plan_number (TooRisky bad) = 35
plan_number (TooClose bad) = 36
plan_number (Limit limit) = 37
plan_number (Chance fault) = chance_number fault

abbrev pub plan_place : PlanFault → ℕ
plan_place Size = 1
plan_place Accept = 5
plan_place Disagree = 3
plan_place (Tolerance bad) = bad
plan_place (TooRisky bad) = bad
plan_place (TooClose bad) = bad
plan_place (Limit limit) = limit
plan_place (Chance fault) = chance_place fault

-- a refusal of chance goes through both layers
abbrev pub plan_layers : PlanFault → List ℕ
plan_layers Size = codes "P"
plan_layers Accept = codes "P"
plan_layers Disagree = codes "P"
plan_layers (Tolerance bad) = codes "P"
plan_layers (TooRisky bad) = codes "P"
plan_layers (TooClose bad) = codes "P"
plan_layers (Limit limit) = codes "P"
plan_layers (Chance fault) = codes "RP"

abbrev pub plan_refusal : PlanFault → Refusal
plan_refusal fault = record { number = plan_number fault; place = plan_place fault; layers = plan_layers fault }
