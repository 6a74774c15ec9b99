-- The working's two answers are on their sides of the exact number of lists that end in PASS. Assumes nothing.
use Rattle.std.proofs.Common.{◌≡◌, ℕ, zero, suc, ◌+◌, ◌*◌, ◌<◌, ◌≤◌, Bool, true, List, [], ◌∷◌, length, refl, ap, ◌∙◌, subst, add-zero, add-suc, arith}
use Rattle.std.proofs.lemmas.Bool.Decides.{nat_tests}
use Rattle.draws.specs.Counting.{count_below, count_in}
use Rattle.draws.specs.Draws.{DrawMeaning, Reel, Lawful, lists, cell}
use Rattle.draws.proofs.Recurrence.{all_more, all_positive}
use Rattle.plans.specs.Plans.{Sample, total}
use Rattle.plans.specs.Working.{whole, draw_on, draws_on, sum_below, cleared, worked, start_row}
use Rattle.plans.proofs.Rounding.{Side, side_cast, side_same, side_zero, side_times, side_cancel, side_sum, sum_side, cleared_side, moved_side}
use Rattle.plans.proofs.Cells.{Settled, accepted, sent_on, passes_on, none_pass, accepted_settled, sent_on_settled, accepted_cells, sent_on_cells, passes_on_more, cells_more, counts_on}
use Rattle.plans.proofs.Steps.{total_more, worked_more}

-- each cell of a row is on its side of the exact cell after k frames
abbrev pub OnSide : (up : Bool) → DrawMeaning → (N : ℕ) → (is_bad : ℕ → Bool) → (w : List ℕ → Bool) → (k : ℕ) → (row : ℕ → ℕ) → Type 0
OnSide up m N is_bad w k row = (d : ℕ) → Side up (row d * length (lists m N k)) (cell m N w is_bad k d * whole)

-- so is the row that every working starts from
pub start_side : (up : Bool) (m : DrawMeaning) (N : ℕ) (is_bad : ℕ → Bool) → OnSide up m N is_bad (λ _. true) 0 start_row
unfolding lists
start_side up m N is_bad zero = side_same up whole
start_side up m N is_bad (suc d) = side_cast up refl (grind (arith, nat_tests)) (side_same up 0)

module _ (m : DrawMeaning) (law : Lawful m) (N : ℕ) (reel : Reel N) (is_bad : ℕ → Bool) (up : Bool) where
  pub draws_side : (w : List ℕ → Bool) (from : ℕ) → Settled w from → (row : ℕ → ℕ) → OnSide up m N is_bad w from row → (count : ℕ) → from + count ≤ m.longest N → OnSide up m N is_bad w (from + count) (draws_on up m N (count_below is_bad N) from count row)
  unfolding draws_on draw_on
  draws_side w from stays row each zero le d =
      side_cast up (λ i. row d * length (lists m N (add-zero from i))) (λ i. cell m N w is_bad (add-zero from i) d * whole) (each d)
  draws_side w from stays row each (suc i) le d =
      let short : from + i < m.longest N = omega (arith, add-suc from i) in
      side_cast up
      (ap (λ n. draws_on up m N (count_below is_bad N) from (suc i) row d * n) (ap (λ k. length (lists m N k)) (add-suc from i) ∙ all_more m N law reel (from + i) short))
      (λ j. cell m N w is_bad (add-suc from i j) d * whole)
      (moved_side up (length (lists m N (from + i))) whole
      (m.good N (count_below is_bad N) (from + i)) (m.bad N (count_below is_bad N) (from + i)) (m.good N 0 (from + i) 0)
      (draws_on up m N (count_below is_bad N) from i row) (cell m N w is_bad (from + i)) (cell m N w is_bad (suc (from + i)))
      (law.some_follow N (from + i) reel short)
      (cells_more m law N reel is_bad w (from + i) (λ l f long. stays l f (omega arith)))
      (draws_side w from stays row each i (omega arith)) d)

  -- what is settled after k frames stays on its side after more
  held_side : (w : List ℕ → Bool) (k : ℕ) → Settled w k → (units : ℕ) → Side up (units * length (lists m N k)) (count_in w (lists m N k) * whole) → (j : ℕ) → k + j ≤ m.longest N → Side up (units * length (lists m N (k + j))) (count_in w (lists m N (k + j)) * whole)
  held_side w k stays units here j le =
      let n = length (lists m N k) in
      let c = count_in w (lists m N k) in
      let o = length (lists m N (k + j)) in
      side_cancel up (units * o) (count_in w (lists m N (k + j)) * whole) n (all_positive m N law reel k (omega arith))
      (side_cast up (omega arith) (omega (arith, counts_on m law N reel w k stays j le)) (side_times up (units * n) (c * whole) o here))

  pub worked_side : (samples : List Sample) (w : List ℕ → Bool) (stage from : ℕ) → Settled w from → (row : ℕ → ℕ) → OnSide up m N is_bad w from row → (end : ℕ) → from + total samples ≡ end → end ≤ m.longest N → Side up ((worked up m N (count_below is_bad N) samples from row).units * length (lists m N end)) (count_in (passes_on is_bad w samples stage from) (lists m N end) * whole)
  unfolding worked
  worked_side [] w stage from stays row each end ends le =
      side_cast up refl (ap (λ n. n * whole) (none_pass is_bad w stage from (lists m N end))) (side_zero up (length (lists m N end)) whole)
  worked_side (s ∷ rest) w stage from stays row each end ends le =
      let long = total_more s rest in
      let k = from + s.size in
      let next = draws_on up m N (count_below is_bad N) from s.size row in
      let drawn : OnSide up m N is_bad w k next = draws_side w from stays row each s.size (omega arith) in
      let here : Side up (sum_below next (suc s.accept) * length (lists m N k)) (count_in (accepted is_bad w s k) (lists m N k) * whole) =
      side_cast up refl (ap (λ n. n * whole) (accepted_cells m N is_bad w s k)) (sum_side up (length (lists m N k)) whole next (cell m N w is_bad k) drawn (suc s.accept)) in
      let first : Side up (sum_below next (suc s.accept) * length (lists m N end)) (count_in (accepted is_bad w s k) (lists m N end) * whole) =
      subst (λ e. Side up (sum_below next (suc s.accept) * length (lists m N e)) (count_in (accepted is_bad w s k) (lists m N e) * whole)) (omega arith)
      (held_side (accepted is_bad w s k) k (accepted_settled is_bad w from k stays (omega arith) s) (sum_below next (suc s.accept)) here (total rest) (omega arith)) in
      let second = worked_side rest (sent_on is_bad w s k) (suc stage) k (sent_on_settled is_bad w from k stays (omega arith) s) (cleared s.accept s.reject next)
      (λ d. side_cast up refl (ap (λ n. n * whole) (sent_on_cells m N is_bad w s k d)) (cleared_side up (length (lists m N k)) whole next (cell m N w is_bad k) drawn s.accept s.reject d))
      end (omega arith) le in
      side_cast up
      (ap (λ n. n * length (lists m N end)) (worked_more up m N (count_below is_bad N) s rest from row))
      (ap (λ n. n * whole) (passes_on_more m N is_bad w s rest stage from end (omega arith)))
      (side_sum up (sum_below next (suc s.accept)) (count_in (accepted is_bad w s k) (lists m N end)) _ _ (length (lists m N end)) whole first second)
