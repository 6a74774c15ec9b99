-- How far the two rows part, and how much a row grows, at each draw. Assumes nothing.
use Rattle.std.proofs.Common.{ℕ, zero, suc, ◌+◌, ◌-◌, ◌*◌, ◌<◌, ◌≤◌, Bool, true, false, le_refl, mul-le-mul_right, mul_comm, mul-le-mul_left, le_of_mul-le-mul_right, arith}
use native.Mathlib.Nat.{mul-sub}
use Rattle.plans.specs.Working.{before, moved, sum_below}
use Rattle.plans.proofs.Rounding.{divide_near, divide_down_near}
use Rattle.plans.proofs.Sums.{sum_le, sum_add, sum_times, sum_same, sum_before_le}

-- what the cells hold before a draw, moved on
abbrev pub onward : (good bad : ℕ → ℕ) → (ℕ → ℕ) → ℕ → ℕ
onward good bad row d = row d * good d + before (λ c. row c * bad c) d

module _ (good bad : ℕ → ℕ) (t : ℕ) (pos : 0 < t) (most : (d : ℕ) → good d + bad d ≤ t) where
  onward_sum : (row : ℕ → ℕ) (n : ℕ) → sum_below (onward good bad row) n ≤ sum_below row n * t
  onward_sum row n =
      omega (
        arith,
        sum_add (λ d. row d * good d) (before (λ c. row c * bad c)) n,
        sum_before_le (λ c. row c * bad c) n,
        sum_add (λ d. row d * good d) (λ d. row d * bad d) n,
        sum_le (λ d. row d * good d + row d * bad d) (λ d. row d * t) (λ d. omega (arith, mul-le-mul_left (row d) (most d))) n,
        sum_times row t n,
      )

  -- a cell that grows by at most c beyond what is moved on, over n cells
  pub grows : (c : ℕ) (old new : ℕ → ℕ) → ((d : ℕ) → new d * t ≤ onward good bad old d + c * t) → (n : ℕ) → sum_below new n ≤ sum_below old n + n * c
  grows c old new each n =
      let both : sum_below new n * t ≤ (sum_below old n + n * c) * t = omega (
        arith,
        sum_times new t n,
        sum_le (λ d. new d * t) (λ d. onward good bad old d + c * t) each n,
        sum_add (onward good bad old) (λ d. c * t) n,
        sum_same (c * t) n,
        onward_sum old n,
      ) in
      le_of_mul-le-mul_right both pos

  pub row_grows : (up : Bool) (row : ℕ → ℕ) (n : ℕ) → sum_below (moved up good bad t row) n ≤ sum_below row n + n * 1
  row_grows up row n = grows 1 row (moved up good bad t row) (λ d. omega (arith, divide_near up (onward good bad row d) t pos)) n

  apart : (low high g : ℕ) → high * g ≤ low * g + (high - low) * g
  apart low high g = let h : high ≤ low + (high - low) = omega arith in omega (arith, mul-le-mul_right g h)

  before_apart : (low high : ℕ → ℕ) (d : ℕ) → before (λ c. high c * bad c) d ≤ before (λ c. low c * bad c) d + before (λ c. (high c - low c) * bad c) d
  before_apart low high zero = le_refl 0
  before_apart low high (suc d) = apart (low d) (high d) (bad d)

  pub gap_grows : (low high : ℕ → ℕ) (n : ℕ) → sum_below (λ d. moved true good bad t high d - moved false good bad t low d) n ≤ sum_below (λ d. high d - low d) n + n * 2
  gap_grows low high n = grows 2 (λ d. high d - low d) (λ d. moved true good bad t high d - moved false good bad t low d) each n
    where
      near : (p q : ℕ) (x y e : ℕ) → p * t ≤ x + (t - 1) → y < q * t + t → x ≤ y + e → (p - q) * t ≤ e + 2 * t
      near p q x y e h k l = omega (arith, mul-sub t p q, mul_comm t (p - q))

      each : (d : ℕ) → (moved true good bad t high d - moved false good bad t low d) * t ≤ onward good bad (λ c. high c - low c) d + 2 * t
      each d =
          near (moved true good bad t high d) (moved false good bad t low d) (onward good bad high d) (onward good bad low d) (onward good bad (λ c. high c - low c) d)
          (divide_near true (onward good bad high d) t pos)
          (divide_down_near (onward good bad low d) t pos)
          (omega (arith, apart (low d) (high d) (good d), before_apart low high d))
