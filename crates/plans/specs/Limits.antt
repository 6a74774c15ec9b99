-- What it means that a plan keeps a limit on the share of false passes, and that a sample is the smallest that does. Assumes nothing.
use Rattle.std.specs.Prelude.{◌≡◌, ℕ, suc, ◌*◌, ◌<◌, ◌≤◌, Bool, List}
use Rattle.draws.specs.Counting.{count_below}
use Rattle.draws.specs.Draws.{DrawMeaning, Reel}
use Rattle.plans.specs.Plans.{Sample, single, total, last_accept, AcceptsUpTo}
use Rattle.plans.specs.Exact.{all, passing}
use Rattle.plans.specs.Working.{whole, low_of, high_of}

-- units of one part in 2^40 are within a limit in millionths
abbrev pub Within : (limit units : ℕ) → Type 0
Within limit units = units * 1000000 ≤ limit * whole

-- with these bad frames, at most so many millionths of all allowed lists end in PASS
abbrev pub Keeps : DrawMeaning → (N : ℕ) → (is_bad : ℕ → Bool) → List Sample → (limit : ℕ) → Type 0
Keeps m N is_bad samples limit = passing m N is_bad samples * 1000000 ≤ limit * all m N samples

-- what an enclosure tells: the limit is kept where the high end is within it, and broken where the low end is above it
pub record Tells (m : DrawMeaning) : Type 0 where
  pub kept : (N D : ℕ) → Reel N → (is_bad : ℕ → Bool) → count_below is_bad N ≡ D → (samples : List Sample) → AcceptsUpTo (last_accept samples) samples → total samples ≤ m.longest N → (limit : ℕ) → Within limit (high_of m N D samples) → Keeps m N is_bad samples limit
  pub broken : (N D : ℕ) → Reel N → (is_bad : ℕ → Bool) → count_below is_bad N ≡ D → (samples : List Sample) → AcceptsUpTo (last_accept samples) samples → total samples ≤ m.longest N → (limit : ℕ) → (Within limit (low_of m N D samples) → ⊥) → Keeps m N is_bad samples limit → ⊥

-- of the single samples with accept number c, n is the smallest that keeps the limit
pub record Smallest (m : DrawMeaning) (N : ℕ) (is_bad : ℕ → Bool) (c limit n : ℕ) : Type 0 where
  pub keeps : Keeps m N is_bad (single n c) limit
  pub fewer : (k : ℕ) → k < n → Keeps m N is_bad (single k c) limit → ⊥

-- what the two ends show of single samples, whichever D frames are bad
pub record Shows (m : DrawMeaning) : Type 0 where
  -- n + 1 is truly the smallest where its high end is within the limit and the low end at n is above
  pub smallest : (N D : ℕ) → Reel N → (is_bad : ℕ → Bool) → count_below is_bad N ≡ D → (c limit n : ℕ) → n < m.longest N → Within limit (high_of m N D (single (suc n) c)) → (Within limit (low_of m N D (single n c)) → ⊥) → Smallest m N is_bad c limit (suc n)
  -- no sample up to n serves where the low end at n is above the limit
  pub none : (N D : ℕ) → Reel N → (is_bad : ℕ → Bool) → count_below is_bad N ≡ D → (c limit n : ℕ) → n ≤ m.longest N → (Within limit (low_of m N D (single n c)) → ⊥) → (k : ℕ) → k ≤ n → Keeps m N is_bad (single k c) limit → ⊥
  -- with no frame drawn both ends are a certainty
  pub nothing_low : (N D c : ℕ) → low_of m N D (single 0 c) ≡ whole
  pub nothing_high : (N D c : ℕ) → high_of m N D (single 0 c) ≡ whole

-- a plan whose working at T is within the limit keeps it whichever frames are bad, so long as there are T of them or more
pub record Guards (m : DrawMeaning) : Type 0 where
  pub guards : (N T : ℕ) → Reel N → (samples : List Sample) → AcceptsUpTo (last_accept samples) samples → total samples ≤ m.longest N → (limit : ℕ) → Within limit (high_of m N T samples) → (is_bad : ℕ → Bool) → T ≤ count_below is_bad N → Keeps m N is_bad samples limit
