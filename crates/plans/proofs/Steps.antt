-- The working and a plan's samples, one sample after the other. Assumes nothing.
use Rattle.std.proofs.Common.{◌≡◌, ℕ, suc, ◌+◌, Bool, List, [], ◌∷◌, sym, refl, add-zero}
use Rattle.draws.specs.Draws.{DrawMeaning}
use Rattle.plans.specs.Plans.{Sample, total}
use Rattle.plans.specs.Working.{draws_on, sum_below, cleared, worked}

pub total_more : (s : Sample) (rest : List Sample) → total (s ∷ rest) ≡ s.size + total rest
total_more s [] = sym (add-zero s.size)
total_more s (next ∷ rest) = refl

-- what a sample adds, and what the samples behind it add
pub worked_more : (up : Bool) (m : DrawMeaning) (N D : ℕ) (s : Sample) (rest : List Sample) (from : ℕ) (row : ℕ → ℕ) → (worked up m N D (s ∷ rest) from row).units ≡ sum_below (draws_on up m N D from s.size row) (suc s.accept) + (worked up m N D rest (from + s.size) (cleared s.accept s.reject (draws_on up m N D from s.size row))).units
unfolding worked
worked_more up m N D s [] from row = sym (add-zero _)
worked_more up m N D s (next ∷ rest) from row = refl
