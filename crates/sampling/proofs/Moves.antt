-- One draw worked in memory, from the last cell down. Assumes nothing.
use Rattle.std.proofs.Common.{◌≡◌, ℕ, suc, ◌+◌, ◌*◌, ◌^◌, ◌<◌, ◌≤◌, Bool, List, length, set, sym, refl, ap, ◌∙◌, subst, ⊎_elim, add-zero, mul-le-mul, arith, length-set}
use Rattle.std.proofs.lemmas.List.{get_or-set_same, get_or-set_other}
use Rattle.std.proofs.lemmas.Bool.{cases_lt}
use Rattle.draws.specs.Draws.{DrawMeaning, Reel, Lawful}
use Rattle.draws.proofs.Recurrence.{ways_most}
use Rattle.plans.specs.Working.{whole, divide, before, draw_on, draws_on, sum_below}
use Rattle.plans.proofs.Bounds.{ways_few, undivided_fits, moved_same}
use Rattle.plans.proofs.Sums.{sum_longer}
use Rattle.sampling.specs.Rows.{cells_of, row_of, Moves, Roomy, Partly}
use Rattle.sampling.proofs.Overlays.{row_from}

-- a draw's new cell is made from the cells up to it
pub draw_on_same : (up : Bool) (m : DrawMeaning) (N D k : ℕ) (row other : ℕ → ℕ) (d : ℕ) → ((c : ℕ) → c ≤ d → row c ≡ other c) → draw_on up m N D k row d ≡ draw_on up m N D k other d
unfolding draw_on
draw_on_same up m N D k row other d same = moved_same up (m.good N D k) (m.bad N D k) (m.good N 0 k 0) row other d same

module _ (up : Bool) (m : DrawMeaning) (N D k : ℕ) (old : List ℕ) where
  pub partly_none : (n : ℕ) → length old ≤ n → Partly up m N D k n old old
  partly_none n long = record { same_length = refl; done = λ c ge lt. absurd (omega arith); left = λ c lt. refl }

  -- one cell more
  pub partly_more : (i : ℕ) (row : List ℕ) (v : ℕ) → i < length old → v ≡ draw_on up m N D k (cells_of old) i → Partly up m N D k (suc i) old row → Partly up m N D k i old (set row i v)
  partly_more i row v lt value p =
      record {
        same_length = length-set row i v ∙ p.same_length;
        done = λ c ge below. ⊎_elim (λ past. get_or-set_other row i c v 0 (λ h. omega arith) ∙ p.done c past below) (λ here. at c here ge) (cases_lt i c);
        left = λ c below. get_or-set_other row i c v 0 (λ h. omega arith) ∙ p.left c (omega arith);
      }
    where
      at : (c : ℕ) → c ≤ i → i ≤ c → cells_of (set row i v) c ≡ draw_on up m N D k (cells_of old) c
      at c le ge =
          let e : c ≡ i = omega arith in
          ap (cells_of (set row i v)) e ∙ get_or-set_same row i v 0 (omega (arith, p.same_length)) ∙ value ∙ sym (ap (draw_on up m N D k (cells_of old)) e)

  -- a cell behind the first
  pub partly_behind : (d i j g b t v : ℕ) (row : List ℕ) → d ≡ suc i → i ≡ suc j → i < length old → g ≡ m.good N D k i → b ≡ m.bad N D k j → t ≡ m.good N 0 k 0 → v ≡ divide up (cells_of row i * g + cells_of row j * b) t → Partly up m N D k d old row → Partly up m N D k i old (set row i v)
  unfolding draw_on
  partly_behind d i j g b t v row ed e lt eg eb et value p =
      partly_more i row v lt (value ∙ (λ x. divide up (q.left i below x * eg x + q.left j (omega arith) x * eb x) (et x)) ∙ (λ x. divide up (cells_of old i * m.good N D k i + here x) (m.good N 0 k 0))) q
    where
      q : Partly up m N D k (suc i) old row
      q = subst (λ n. Partly up m N D k n old row) ed p

      below : i < suc i
      below = omega arith

      here : cells_of old j * m.bad N D k j ≡ before (λ c. cells_of old c * m.bad N D k c) i
      here = sym (ap (before (λ c. cells_of old c * m.bad N D k c)) e)

  -- down to the first
  pub partly_down : (d : ℕ) (row : List ℕ) → d ≡ 1 → Partly up m N D k d old row → Partly up m N D k 1 old row
  partly_down d row e p = subst (λ n. Partly up m N D k n old row) e p

  -- where a row has one cell alone, none stands behind it
  pub partly_one : (row : List ℕ) → row ≡ old → length old ≤ 1 → Partly up m N D k 1 old row
  partly_one row e long = subst (Partly up m N D k 1 old) (sym e) (partly_none 1 long)

  pub partly_where : (d : ℕ) (row other : List ℕ) → row ≡ other → Partly up m N D k d old other → Partly up m N D k d old row
  partly_where d row other e p = subst (Partly up m N D k d old) (sym e) p

  -- and the first, which makes the row
  pub partly_first : (g t v : ℕ) (row : List ℕ) → 0 < length old → g ≡ m.good N D k 0 → t ≡ m.good N 0 k 0 → v ≡ divide up (cells_of row 0 * g + 0) t → Partly up m N D k 1 old row → set row 0 v ≡ row_of (length old) (draws_on up m N D k 1 (cells_of old))
  unfolding draw_on draws_on
  partly_first g t v row some eg et value p =
      let all = partly_more 0 row v some (value ∙ (λ x. divide up (p.left 0 (omega arith) x * eg x + 0) (et x))) p in
      row_from (length old) (draws_on up m N D k 1 (cells_of old)) (set row 0 v) all.same_length
      (λ c lt. all.done c (omega arith) lt ∙ ap (λ j. draw_on up m N D j (cells_of old) c) (sym (add-zero k)))

few_times : (k n : ℕ) → k < 32768 → n ≤ 256 → k * n ≤ 32768 * 256
few_times k n few cells = let le : k ≤ 32768 = omega arith in mul-le-mul le cells

module _ (m : DrawMeaning) (law : Lawful m) (N : ℕ) (reel : Reel N) (D k : ℕ) (short : k < m.longest N) (few_draws : k < 32768) (old : List ℕ) (roomy : Roomy k old) where
  small : sum_below (cells_of old) (length old) ≤ whole + 32768 * 256
  small = omega (arith, roomy.small, few_times k (length old) few_draws roomy.few_cells)

  few_ways : m.good N 0 k 0 ≤ 1000000
  few_ways = omega (arith, ways_few m law N reel k short, reel.few)

  most : (d : ℕ) → m.good N D k d + m.bad N D k d ≤ m.good N 0 k 0
  most d = ways_most m N law reel D k d short

  module _ (up : Bool) (row : List ℕ) (d : ℕ) (p : Partly up m N D k d old row) where
    -- what a cell brings on fits
    pub brought_fits : (j b : ℕ) → j < d → j < length old → b ≡ m.bad N D k j → cells_of row j * b < 2 ^ 64
    brought_fits j b below lt eb =
        let few : b ≤ 1000000 = omega (arith, eb, most j, few_ways) in
        let cell : cells_of row j ≤ whole + 32768 * 256 = omega (arith, p.left j below, sum_longer (cells_of old) (suc j) (length old) lt, small) in
        omega (arith, mul-le-mul cell few)

    -- and so does what is divided, rounded up or down
    moves : (i g x t : ℕ) → i < d → i < length old → g ≡ m.good N D k i → x ≡ before (λ c. cells_of old c * m.bad N D k c) i → t ≡ m.good N 0 k 0 → Moves (cells_of row i) g x t
    moves i g x t below lt eg ex et =
        record {
          some_ways = subst (λ t. 0 < t) (sym et) (law.some_follow N k reel short);
          fits = subst (λ x. x < 2 ^ 64) (sym same) (undivided_fits (m.good N D k) (m.bad N D k) (m.good N 0 k 0) most (cells_of old) i (length old) lt few_ways small);
        }
      where
        same : cells_of row i * g + x + t ≡ cells_of old i * m.good N D k i + before (λ c. cells_of old c * m.bad N D k c) i + m.good N 0 k 0
        same = (λ y. p.left i below y * eg y + ex y + et y)

    pub behind_moves : (i j g b t : ℕ) → d ≡ suc i → i ≡ suc j → i < length old → g ≡ m.good N D k i → b ≡ m.bad N D k j → t ≡ m.good N 0 k 0 → Moves (cells_of row i) g (cells_of row j * b) t
    behind_moves i j g b t ed e lt eg eb et =
        moves i g (cells_of row j * b) t (omega arith) lt eg ((λ y. p.left j (omega arith) y * eb y) ∙ sym (ap (before (λ c. cells_of old c * m.bad N D k c)) e)) et

    pub first_moves : (g t : ℕ) → 0 < d → 0 < length old → g ≡ m.good N D k 0 → t ≡ m.good N 0 k 0 → Moves (cells_of row 0) g 0 t
    first_moves g t some lt eg et = moves 0 g 0 t some lt eg refl et
