-- A number on its side of another, rounded down or up, and that one rounded draw keeps a row on its side of the exact cells. Assumes nothing.
use Rattle.std.proofs.Common.{◌≡◌, ℕ, zero, suc, ◌+◌, ◌-◌, ◌*◌, ◌<◌, ◌≤◌, Bool, true, false, ap, mul-le-mul_right, add-mul, zero-mul, mul_right_comm, div-mul-le_self, le_of_mul-le-mul_right, arith}
use native.Mathlib.Nat.{lt-div-mul-add}
use Rattle.plans.specs.Working.{divide, before, moved, sum_below, cleared}

-- at most, for what is rounded down; at least, for what is rounded up
abbrev pub Side : (up : Bool) → ℕ → ℕ → Type 0
Side false a b = a ≤ b
Side true a b = b ≤ a

pub side_cast : (up : Bool) {a b c d : ℕ} → a ≡ c → b ≡ d → Side up c d → Side up a b
side_cast up p q h = grind arith

pub side_same : (up : Bool) (a : ℕ) → Side up a a
side_same up a = grind arith

pub side_zero : (up : Bool) (a b : ℕ) → Side up (0 * a) (0 * b)
side_zero up a b = side_cast up (zero-mul a) (zero-mul b) (side_same up 0)

pub side_trans : (up : Bool) (a b c : ℕ) → Side up a b → Side up b c → Side up a c
side_trans up a b c h k = grind arith

pub side_add : (up : Bool) (a b c d : ℕ) → Side up a b → Side up c d → Side up (a + c) (b + d)
side_add up a b c d h k = grind arith

pub side_times : (up : Bool) (a b k : ℕ) → Side up a b → Side up (a * k) (b * k)
side_times false a b k h = mul-le-mul_right k h
side_times true a b k h = mul-le-mul_right k h

pub side_cancel : (up : Bool) (a b k : ℕ) → 0 < k → Side up (a * k) (b * k) → Side up a b
side_cancel false a b k pos h = le_of_mul-le-mul_right h pos
side_cancel true a b k pos h = le_of_mul-le-mul_right h pos

-- two parts of a sum, each on its side
pub side_sum : (up : Bool) (a b c d n u : ℕ) → Side up (a * n) (b * u) → Side up (c * n) (d * u) → Side up ((a + c) * n) ((b + d) * u)
side_sum up a b c d n u h k = side_cast up (add-mul a c n) (add-mul b d u) (side_add up (a * n) (b * u) (c * n) (d * u) h k)

-- a quotient times its divisor is on its side of what was divided
pub divide_side : (up : Bool) (x t : ℕ) → 0 < t → Side up (divide up x t * t) x
divide_side false x t pos = div-mul-le_self x t
divide_side true x t pos = let h = lt-div-mul-add {a = x + (t - 1)} pos in omega arith

-- it misses by less than the divisor
pub divide_near : (up : Bool) (x t : ℕ) → 0 < t → divide up x t * t ≤ x + (t - 1)
divide_near false x t pos = omega (arith, div-mul-le_self x t)
divide_near true x t pos = div-mul-le_self (x + (t - 1)) t

pub divide_down_near : (x t : ℕ) → 0 < t → x < divide false x t * t + t
divide_down_near x t pos = lt-div-mul-add {a = x} pos

module _ (up : Bool) (n u : ℕ) where
  weighed : (r w g : ℕ) → Side up (r * n) (w * u) → Side up (r * g * n) (w * g * u)
  weighed r w g h = side_cast up (mul_right_comm r g n) (mul_right_comm w g u) (side_times up (r * n) (w * u) g h)

  pub before_side : (f h : ℕ → ℕ) → ((d : ℕ) → Side up (f d * n) (h d * u)) → (d : ℕ) → Side up (before f d * n) (before h d * u)
  before_side f h each zero = side_zero up n u
  before_side f h each (suc d) = each d

  pub sum_side : (f h : ℕ → ℕ) → ((d : ℕ) → Side up (f d * n) (h d * u)) → (k : ℕ) → Side up (sum_below f k * n) (sum_below h k * u)
  sum_side f h each zero = side_zero up n u
  sum_side f h each (suc k) = side_sum up (sum_below f k) (sum_below h k) (f k) (h k) n u (sum_side f h each k) (each k)

  pub cleared_side : (f h : ℕ → ℕ) → ((d : ℕ) → Side up (f d * n) (h d * u)) → (accept reject d : ℕ) → Side up (cleared accept reject f d * n) (cleared accept reject h d * u)
  cleared_side f h each accept reject d = grind (arith, side_zero up n u, each d)

  -- one draw: the exact cells move by good and bad, the number of lists by t
  pub moved_side : (good bad : ℕ → ℕ) (t : ℕ) (row exact next : ℕ → ℕ) → 0 < t → ((d : ℕ) → next d ≡ exact d * good d + before (λ c. exact c * bad c) d) → ((d : ℕ) → Side up (row d * n) (exact d * u)) → (d : ℕ) → Side up (moved up good bad t row d * (n * t)) (next d * u)
  moved_side good bad t row exact next pos step each d =
      side_cast up (omega arith) (ap (λ z. z * u) (step d))
      (side_trans up (moved up good bad t row d * t * n) (undivided * n) ((exact d * good d + before (λ c. exact c * bad c) d) * u)
      (side_times up (moved up good bad t row d * t) undivided n (divide_side up undivided t pos))
      (side_sum up (row d * good d) (exact d * good d) (before (λ c. row c * bad c) d) (before (λ c. exact c * bad c) d) n u
      (weighed (row d) (exact d) (good d) (each d))
      (before_side (λ c. row c * bad c) (λ c. exact c * bad c) (λ c. weighed (row c) (exact c) (bad c) (each c)) d)))
    where
      undivided : ℕ
      undivided = row d * good d + before (λ c. row c * bad c) d
