-- The chance of a plan by its numbers, whether or not they make one. Assumes nothing.
use Rattle.std.specs.Prelude.{◌≡◌, ℕ, List}
use Rattle.film.specs.Refusals.{Answer, given, refused}
use Rattle.draws.specs.Draws.{DrawMeaning}
use Rattle.plans.specs.Plans.{PlanNumbers}
use Rattle.sampling.specs.Chances.{Chances}
use Rattle.sampling.specs.declared.chance.Ends.{Ends}
use Rattle.capi.specs.Codes.{Kept}

-- of a plan all is promised that chance promises; numbers that make none are refused as make refuses them
abbrev pub PlannedChance : DrawMeaning → (N D : ℕ) → Answer PlanNumbers → (low high low' high' : List ℕ) → Answer Ends → Type 0
PlannedChance m N D (given p) low high low' high' answer = Chances m N D p low high low' high' answer
PlannedChance m N D (refused r) low high low' high' answer = Kept low high low' high' (answer ≡ refused r)
