-- What the numbers of a working stay below, and which cells a draw reads, for code that works it in memory. Assumes nothing.
use Rattle.std.proofs.Common.{◌≡◌, ℕ, zero, suc, ◌+◌, ◌*◌, ◌^◌, ◌<◌, ◌≤◌, Bool, List, [], ◌∷◌, length, refl, mul-le-mul_right, mul-le-mul, mul-le-mul_left, arith}
use Rattle.std.specs.List.{AllByRecursion}
use Rattle.draws.specs.Draws.{DrawMeaning, Allowed, Reel, Lawful, lists}
use Rattle.draws.specs.Tallies.{count_below_most}
use Rattle.draws.proofs.Recurrence.{lists_allowed, all_positive}
use Rattle.plans.specs.Working.{whole, before, moved, sum_below, cleared, start_row}
use Rattle.plans.proofs.Sums.{sum_le, sum_longer}
use Rattle.plans.proofs.Widths.{onward}
use Rattle.plans.proofs.Spread.{cleared_less}

-- at most all frames may follow
pub ways_few : (m : DrawMeaning) → Lawful m → (N : ℕ) → Reel N → (k : ℕ) → k < m.longest N → m.good N 0 k 0 ≤ N
ways_few m law N reel k short = from_one (lists m N k) (lists_allowed m N k) (all_positive m N law reel k (omega arith))
  where
    from_one : (ls : List (List ℕ)) → AllByRecursion (λ l. Allowed m N l × (length l ≡ k)) ls → 0 < length ls → m.good N 0 k 0 ≤ N
    from_one [] every some = absurd (omega arith)
    from_one (l ∷ ls) every some = grind (arith, law.alike N reel l every.0.0, count_below_most (m.follows N l) N)

pub start_sum : (c : ℕ) → sum_below start_row (suc c) ≡ whole
start_sum zero = refl
start_sum (suc c) = omega (arith, start_sum c)

pub cleared_sum : (accept reject : ℕ) (row : ℕ → ℕ) (n : ℕ) → sum_below (cleared accept reject row) n ≤ sum_below row n
cleared_sum accept reject row n = sum_le (cleared accept reject row) row (cleared_less accept reject row) n

-- a cell and the one before it
two_cells : (row : ℕ → ℕ) (d : ℕ) → row d + before row d ≤ sum_below row (suc d)
two_cells row zero = omega arith
two_cells row (suc d) = omega arith

module _ (good bad : ℕ → ℕ) (t : ℕ) (most : (d : ℕ) → good d + bad d ≤ t) where
  before_most : (row : ℕ → ℕ) (d : ℕ) → before (λ c. row c * bad c) d ≤ before row d * t
  before_most row zero = omega arith
  before_most row (suc d) = mul-le-mul_left (row d) (omega (arith, most d))

  -- what is divided at a draw is at most t times the row
  pub undivided_most : (row : ℕ → ℕ) (d n : ℕ) → d < n → onward good bad row d ≤ sum_below row n * t
  undivided_most row d n lt =
      omega (
        arith,
        before_most row d,
        mul-le-mul_left (row d) (most d),
        mul-le-mul_right t (two_cells row d),
        mul-le-mul_right t (sum_longer row (suc d) n lt),
      )

  -- so it fits 64 bits, rounded up or down, while a row of at most 256 cells is worked for at most 32,768 draws
  pub undivided_fits : (row : ℕ → ℕ) (d n : ℕ) → d < n → t ≤ 1000000 → sum_below row n ≤ whole + 32768 * 256 → onward good bad row d + t < 2 ^ 64
  undivided_fits row d n lt few small = omega (arith, undivided_most row d n lt, mul-le-mul small few)

-- a draw's new cell is made from that cell and the one before it
pub moved_same : (up : Bool) (good bad : ℕ → ℕ) (t : ℕ) (row other : ℕ → ℕ) (d : ℕ) → ((c : ℕ) → c ≤ d → row c ≡ other c) → moved up good bad t row d ≡ moved up good bad t other d
moved_same up good bad t row other zero same = grind (arith, same 0)
moved_same up good bad t row other (suc d) same = grind (arith, same (suc d), same d)

pub sum_same_below : (row other : ℕ → ℕ) (n : ℕ) → ((c : ℕ) → c < n → row c ≡ other c) → sum_below row n ≡ sum_below other n
sum_same_below row other zero same = refl
sum_same_below row other (suc n) same = grind (arith, sum_same_below row other n, same n)
