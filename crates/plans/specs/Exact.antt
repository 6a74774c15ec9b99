-- The exact chance of PASS, as two counts of allowed lists: passing of all. Assumes nothing.
use Rattle.std.specs.Prelude.{ℕ, Bool, List, length, ◌==◌}
use Rattle.draws.specs.Counting.{count_in}
use Rattle.draws.specs.Draws.{DrawMeaning, lists}
use Rattle.plans.specs.Plans.{Sample, total}
use Rattle.plans.specs.Standings.{standing, true_marks}

-- the drawn list ends in PASS when its frames are marked truly, in order
abbrev pub passes : List Sample → (is_bad : ℕ → Bool) → List ℕ → Bool
passes samples is_bad drawn = standing samples (true_marks is_bad drawn) == 1

-- how many allowed lists there are, as long as all samples together
unfoldable pub all : DrawMeaning → (N : ℕ) → List Sample → ℕ
all m N samples = length (lists m N (total samples))

-- how many of them end in PASS; one settled early counts with every way of going on
unfoldable pub passing : DrawMeaning → (N : ℕ) → (is_bad : ℕ → Bool) → List Sample → ℕ
passing m N is_bad samples = count_in (passes samples is_bad) (lists m N (total samples))
