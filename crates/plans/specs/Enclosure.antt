-- What the two ends of an enclosure are worth: the exact chance of PASS lies between them, and they are close. Assumes nothing.
use Rattle.std.specs.Prelude.{◌≡◌, ℕ, ◌+◌, ◌*◌, ◌≤◌, Bool, List}
use Rattle.draws.specs.Counting.{count_below}
use Rattle.draws.specs.Draws.{DrawMeaning, Reel}
use Rattle.plans.specs.Plans.{Sample, PlanNumbers, samples_of, total, last_accept, AcceptsUpTo, AgreesBy}
use Rattle.plans.specs.Exact.{all, passing}
use Rattle.plans.specs.Working.{whole, low_of, high_of}

-- with these bad frames, passing / all lies between lo and hi, in units of one part in 2^40; lo and hi part by at most 2 units for each draw and cell
pub record Encloses (m : DrawMeaning) (N : ℕ) (is_bad : ℕ → Bool) (samples : List Sample) (lo hi : ℕ) : Type 0 where
  pub low : lo * all m N samples ≤ passing m N is_bad samples * whole
  pub high : passing m N is_bad samples * whole ≤ hi * all m N samples
  pub width : hi ≤ lo + 2 * total samples * (last_accept samples + 1)

-- whichever D frames of a reel are bad, the working at D encloses the chance of every plan that the rule's longest list has room for
pub record Enclosure (m : DrawMeaning) : Type 0 where
  pub encloses : (N D : ℕ) → Reel N → (is_bad : ℕ → Bool) → count_below is_bad N ≡ D → (samples : List Sample) → AcceptsUpTo (last_accept samples) samples → total samples ≤ m.longest N → Encloses m N is_bad samples (low_of m N D samples) (high_of m N D samples)
  -- a plan's samples are such ones where its numbers agree
  pub of_plans : (N D : ℕ) → Reel N → (is_bad : ℕ → Bool) → count_below is_bad N ≡ D → (p : PlanNumbers) → AgreesBy p.ac1 p.re1 p.n2 p.ac2 → p.n1 + p.n2 ≤ m.longest N → Encloses m N is_bad (samples_of p) (low_of m N D (samples_of p)) (high_of m N D (samples_of p))
