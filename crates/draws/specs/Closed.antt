-- The closed forms of the numbers of allowed lists. Assumes nothing.
use Rattle.std.specs.Prelude.{◌≡◌, ℕ, zero, suc, ◌+◌, ◌-◌, ◌*◌, ◌^◌, ◌<◌, ◌≤◌, Bool, true, length}
use Rattle.draws.specs.Counting.{count_below}
use Rattle.draws.specs.Draws.{DrawMeaning, Reel, lists, cell}

abbrev pub factorial : ℕ → ℕ
factorial zero = 1
factorial (suc n) = suc n * factorial n

-- the ways to choose k of n things
abbrev pub choose : (n k : ℕ) → ℕ
choose n zero = 1
choose zero (suc k) = 0
choose (suc n) (suc k) = choose n k + choose n (suc k)

-- the allowed lists of k frames are the ordered choices of k of the reel's N; those with d bad frames
-- choose these among the D bad ones and the rest among the good
pub record Hypergeometric (m : DrawMeaning) : Type 0 where
  pub all : (N : ℕ) → Reel N → (k : ℕ) → k ≤ m.longest N → length (lists m N k) ≡ factorial k * choose N k
  pub cells : (N : ℕ) → Reel N → (is_bad : ℕ → Bool) (k d : ℕ) → k ≤ m.longest N → d ≤ k
      → cell m N (λ _. true) is_bad k d ≡ factorial k * (choose (count_below is_bad N) d * choose (N - count_below is_bad N) (k - d))
  -- no more frames are bad than are drawn
  pub no_more : (N : ℕ) → Reel N → (is_bad : ℕ → Bool) (k d : ℕ) → k ≤ m.longest N → k < d → cell m N (λ _. true) is_bad k d ≡ 0

-- every draw of an allowed list is one of the reel's N frames; those with d bad frames
-- choose the d places, and fill them with any of the D bad frames and the others with any good one
pub record Binomial (m : DrawMeaning) : Type 0 where
  pub all : (N : ℕ) → Reel N → (k : ℕ) → k ≤ m.longest N → length (lists m N k) ≡ N ^ k
  pub cells : (N : ℕ) → Reel N → (is_bad : ℕ → Bool) (k d : ℕ) → k ≤ m.longest N
      → cell m N (λ _. true) is_bad k d ≡ choose k d * (count_below is_bad N ^ d * (N - count_below is_bad N) ^ (k - d))
