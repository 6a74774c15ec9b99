-- Draw after draw and sample after sample worked in memory. Assumes nothing.
use Rattle.std.proofs.Common.{◌≡◌, ℕ, zero, suc, ◌+◌, ◌*◌, ◌^◌, ◌≤◌, ◌<◌, Bool, cond, leb, List, length, take, sum, map, sym, refl, ap, ◌∙◌, add-zero, add-mul, mul-le-mul, add-one, arith}
use Rattle.std.specs.List.{range_with_len}
use Rattle.std.proofs.lemmas.List.FromFn.{take-map-range_with_len, map-range_with_len_more}
use Rattle.std.proofs.lemmas.List.Sums.{sum_by_push}
use Rattle.draws.specs.Draws.{DrawMeaning, Reel, Lawful}
use Rattle.draws.proofs.Recurrence.{ways_most}
use Rattle.plans.specs.Working.{whole, draw_on, draws_on, sum_below, cleared, start_row}
use Rattle.plans.proofs.Bounds.{sum_same_below, start_sum, cleared_sum}
use Rattle.plans.proofs.Spread.{draws_grow}
use Rattle.sampling.specs.Rows.{cells_of, row_of, Roomy}
use Rattle.sampling.proofs.Overlays.{length_row, row_at, row_same, row_from}
use Rattle.sampling.proofs.Moves.{draw_on_same}

cleared_same : (accept reject : ℕ) (row other : ℕ → ℕ) (d : ℕ) → row d ≡ other d → cleared accept reject row d ≡ cleared accept reject other d
cleared_same accept reject row other d e = ap (λ x. cond (leb d accept) 0 (cond (leb reject d) 0 x)) e

-- draws make the cells below n from the cells below n
pub draws_on_same : (up : Bool) (m : DrawMeaning) (N D k n : ℕ) (row other : ℕ → ℕ) → ((c : ℕ) → c < n → row c ≡ other c) → (count d : ℕ) → d < n → draws_on up m N D k count row d ≡ draws_on up m N D k count other d
unfolding draws_on
draws_on_same up m N D k n row other same zero d lt = same d lt
draws_on_same up m N D k n row other same (suc i) d lt =
    draw_on_same up m N D (k + i) (draws_on up m N D k i row) (draws_on up m N D k i other) d (λ c le. draws_on_same up m N D k n row other same i c (omega arith))

-- what is made of a row's cells, where these are known
pub made_on : (n : ℕ) (make : (ℕ → ℕ) → ℕ → ℕ) → ((row other : ℕ → ℕ) → ((c : ℕ) → c < n → row c ≡ other c) → (d : ℕ) → d < n → make row d ≡ make other d) → (f : ℕ → ℕ) (row next : List ℕ) → row ≡ row_of n f → next ≡ row_of (length row) (make (cells_of row)) → next ≡ row_of n (make f)
made_on n make local f row next here there =
    there
    ∙ ap (λ r. row_of (length r) (make (cells_of r))) here
    ∙ ap (λ k. row_of k (make (cells_of (row_of n f)))) (length_row n f)
    ∙ row_same n (make (cells_of (row_of n f))) (make f) (local (cells_of (row_of n f)) f (row_at n f))

pub drawn_on : (up : Bool) (m : DrawMeaning) (N D k count n : ℕ) (f : ℕ → ℕ) (row next : List ℕ) → row ≡ row_of n f → next ≡ row_of (length row) (draws_on up m N D k count (cells_of row)) → next ≡ row_of n (draws_on up m N D k count f)
drawn_on up m N D k count n f row next = made_on n (draws_on up m N D k count) (λ row other same d lt. draws_on_same up m N D k n row other same count d lt) f row next

pub cleared_on : (accept reject n : ℕ) (f : ℕ → ℕ) (row next : List ℕ) → row ≡ row_of n f → next ≡ row_of (length row) (cleared accept reject (cells_of row)) → next ≡ row_of n (cleared accept reject f)
cleared_on accept reject n f row next = made_on n (cleared accept reject) (λ row other same d lt. cleared_same accept reject row other d (same d lt)) f row next

-- a draw more behind i draws, the first of them after `from` frames
pub drawn_more : (up : Bool) (m : DrawMeaning) (N D from k i j n : ℕ) (f : ℕ → ℕ) (row next : List ℕ) → k ≡ from + i → j ≡ suc i → row ≡ row_of n (draws_on up m N D from i f) → next ≡ row_of (length row) (draws_on up m N D k 1 (cells_of row)) → next ≡ row_of n (draws_on up m N D from j f)
unfolding draws_on
drawn_more up m N D from k i j n f row next ek ej here there =
    drawn_on up m N D k 1 n (draws_on up m N D from i f) row next here there
    ∙ ap (λ h. row_of n (draw_on up m N D h (draws_on up m N D from i f))) (add-zero k ∙ ek)
    ∙ ap (λ h. row_of n (draws_on up m N D from h f)) (sym ej)

pub long_on : (n : ℕ) (f : ℕ → ℕ) (row : List ℕ) → row ≡ row_of n f → length row ≡ n
long_on n f row e = ap length e ∙ length_row n f

-- no draw leaves a row as it is
pub none_drawn : (up : Bool) (m : DrawMeaning) (N D k i : ℕ) (row : List ℕ) → i ≡ 0 → row ≡ row_of (length row) (draws_on up m N D k i (cells_of row))
unfolding draws_on
none_drawn up m N D k i row e = row_from (length row) (draws_on up m N D k i (cells_of row)) row refl (λ c lt. sym (ap (λ j. draws_on up m N D k j (cells_of row) c) e))

-- the cells of a row, added up by the library
pub sum_row : (n : ℕ) (f : ℕ → ℕ) → sum (row_of n f) ≡ sum_below f n
unfolding row_of
sum_row zero f = refl
sum_row (suc n) f =
    ap (λ k. sum (map f (range_with_len 0 k))) (sym (add-one n)) ∙ ap sum (map-range_with_len_more f 0 n n (omega arith)) ∙ sum_by_push (λ x. x) (map f (range_with_len 0 n)) (f n) ∙ ap (λ s. s + f n) (sum_row n f)

-- the first cells of a row, added up
pub sum_on : (n j : ℕ) (f : ℕ → ℕ) (row : List ℕ) → j ≤ n → row ≡ row_of n f → sum (take j row) ≡ sum_below f j
unfolding row_of
sum_on n j f row le e = ap (λ r. sum (take j r)) e ∙ ap sum (take-map-range_with_len f 0 n j le) ∙ sum_row j f

-- and all of them
pub sum_all : (n : ℕ) (f : ℕ → ℕ) (row : List ℕ) → row ≡ row_of n f → sum row ≡ sum_below f n
sum_all n f row e = ap sum e ∙ sum_row n f

pub roomy_on : (n k : ℕ) (f : ℕ → ℕ) (row : List ℕ) → row ≡ row_of n f → 0 < n → n ≤ 256 → sum_below f n ≤ whole + k * n → Roomy k row
roomy_on n k f row e some few small =
    let long = long_on n f row e in
    let same : sum_below (cells_of row) n ≡ sum_below f n = sum_same_below (cells_of row) f n (λ c lt. ap (λ r. cells_of r c) e ∙ row_at n f c lt) in
    let sums : sum_below (cells_of row) (length row) ≡ sum_below f n = ap (sum_below (cells_of row)) long ∙ same in
    let times : k * length row ≡ k * n = ap (λ j. k * j) long in
    record { some_cells = omega arith; few_cells = omega arith; small = omega arith }

module _ (m : DrawMeaning) (law : Lawful m) (N : ℕ) (reel : Reel N) (D : ℕ) where
  -- so many draws more hold little enough
  pub draws_small : (up : Bool) (k count n : ℕ) (row : ℕ → ℕ) → k + count ≤ m.longest N → sum_below row n ≤ whole + k * n → sum_below (draws_on up m N D k count row) n ≤ whole + (k + count) * n
  draws_small up k count n row le small =
      omega (arith, draws_grow m N D (λ j. law.some_follow N j reel) (ways_most m N law reel D) up k row n count le, add-mul k count n)

  -- and leave a row to work in
  pub draws_roomy : (up : Bool) (k count j : ℕ) (row next : List ℕ) → j ≡ k + count → j ≤ m.longest N → Roomy k row → next ≡ row_of (length row) (draws_on up m N D k count (cells_of row)) → Roomy j next
  draws_roomy up k count j row next e le roomy there =
      let n = length row in
      let few : sum_below (draws_on up m N D k count (cells_of row)) n ≤ whole + j * n = omega (arith, draws_small up k count n (cells_of row) (omega arith) roomy.small, ap (λ i. i * n) e) in
      roomy_on n j (draws_on up m N D k count (cells_of row)) next there roomy.some_cells roomy.few_cells few

pub start_small : (n : ℕ) → 0 < n → sum_below start_row n ≤ whole + 0 * n
start_small zero some = absurd (omega arith)
start_small (suc c) some = omega (arith, start_sum c)

pub cleared_small : (accept reject k n : ℕ) (row : ℕ → ℕ) → sum_below row n ≤ whole + k * n → sum_below (cleared accept reject row) n ≤ whole + k * n
cleared_small accept reject k n row small = omega (arith, cleared_sum accept reject row n)

-- what a row holds after at most 32,768 draws in at most 256 cells, and twice that, fits 64 bits
pub sum_fits : (k n sum : ℕ) → k ≤ 32768 → n ≤ 256 → sum ≤ whole + k * n → sum ≤ 2 ^ 41
sum_fits k n sum few cells small = omega (arith, mul-le-mul few cells)
