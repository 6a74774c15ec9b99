-- The two exact counts by their recurrence, so that they can be computed without listing a list. Assumes nothing.
use Rattle.std.proofs.Common.{◌≡◌, ℕ, zero, suc, ◌+◌, ◌*◌, Bool, true, cond, leb, List, [], ◌∷◌, sym, refl, ap, ◌∙◌, add-zero, add-suc, zero-add, arith}
use Rattle.std.proofs.lemmas.Bool.Decides.{nat_tests}
use Rattle.draws.specs.Counting.{count_below, count_in}
use Rattle.draws.specs.Draws.{DrawMeaning, Reel, Lawful, lists, cell}
use Rattle.draws.specs.Tallies.{count_in_every}
use Rattle.plans.specs.Plans.{Sample, total}
use Rattle.plans.specs.Exact.{all, passing}
use Rattle.plans.specs.Working.{before, sum_below, cleared}
use Rattle.plans.proofs.Cells.{Settled, accepted, sent_on, passes_on, none_pass, accepted_settled, sent_on_settled, accepted_cells, sent_on_cells, passes_on_more, cells_more, counts_more}
use Rattle.plans.proofs.Steps.{total_more}
use Rattle.plans.proofs.Bounds.{sum_same_below}

-- the exact cells, so many draws after `from` frames
abbrev pub exact_draws : DrawMeaning → (N D from count : ℕ) → (ℕ → ℕ) → ℕ → ℕ
exact_draws m N D from zero row d = row d
exact_draws m N D from (suc i) row d = exact_draws m N D from i row d * m.good N D (from + i) d + before (λ c. exact_draws m N D from i row c * m.bad N D (from + i) c) d

-- how many ways of going on each list of k frames has, over so many draws
abbrev pub ways_on : DrawMeaning → (N k count : ℕ) → ℕ
ways_on m N k zero = 1
ways_on m N k (suc i) = ways_on m N k i * m.good N 0 (k + i) 0

abbrev pub exactly : DrawMeaning → (N D : ℕ) → List Sample → (from : ℕ) → (ℕ → ℕ) → ℕ
exactly m N D [] from row = 0
exactly m N D (s ∷ rest) from row =
    sum_below (exact_draws m N D from s.size row) (suc s.accept) * ways_on m N (from + s.size) (total rest)
    + exactly m N D rest (from + s.size) (cleared s.accept s.reject (exact_draws m N D from s.size row))

-- nothing drawn yet: one list, with no bad frame
abbrev pub one_list : ℕ → ℕ
one_list zero = 1
one_list (suc d) = 0

module _ (m : DrawMeaning) (law : Lawful m) (N : ℕ) (reel : Reel N) where
  ways_count : (w : List ℕ → Bool) (k : ℕ) → Settled w k → (j : ℕ) → count_in w (lists m N (k + j)) ≡ count_in w (lists m N k) * ways_on m N k j
  ways_count w k stays zero = grind (arith, add-zero k)
  ways_count w k stays (suc j) = grind (arith, add-suc k j, counts_more m law N reel w (k + j) (λ l f long. stays l f (omega arith)), ap (λ n. n * m.good N 0 (k + j) 0) (ways_count w k stays j))

  pub all_exactly : (samples : List Sample) → all m N samples ≡ ways_on m N 0 (total samples)
  unfolding all lists
  all_exactly samples = grind (arith, count_in_every (lists m N (total samples)), zero-add (total samples), ways_count (λ _. true) 0 (λ l f h. refl) (total samples))

  module _ (is_bad : ℕ → Bool) where
    draws_exactly : (w : List ℕ → Bool) (from : ℕ) → Settled w from → (row : ℕ → ℕ) → ((d : ℕ) → cell m N w is_bad from d ≡ row d) → (count d : ℕ) → cell m N w is_bad (from + count) d ≡ exact_draws m N (count_below is_bad N) from count row d
    draws_exactly w from stays row each zero d = grind (arith, add-zero from, each d)
    draws_exactly w from stays row each (suc i) zero = grind (
      arith,
      add-suc from i,
      cells_more m law N reel is_bad w (from + i) (λ l f long. stays l f (omega arith)) 0,
      draws_exactly w from stays row each i 0,
    )
    draws_exactly w from stays row each (suc i) (suc d) = grind (
      arith,
      add-suc from i,
      cells_more m law N reel is_bad w (from + i) (λ l f long. stays l f (omega arith)) (suc d),
      draws_exactly w from stays row each i (suc d),
      draws_exactly w from stays row each i d,
    )

    samples_exactly : (samples : List Sample) (w : List ℕ → Bool) (stage from : ℕ) → Settled w from → (row : ℕ → ℕ) → ((d : ℕ) → cell m N w is_bad from d ≡ row d) → (end : ℕ) → from + total samples ≡ end → count_in (passes_on is_bad w samples stage from) (lists m N end) ≡ exactly m N (count_below is_bad N) samples from row
    samples_exactly [] w stage from stays row each end ends =
        none_pass is_bad w stage from (lists m N end)
    samples_exactly (s ∷ rest) w stage from stays row each end ends =
        let long = total_more s rest in
        let k = from + s.size in
        let drawn = draws_exactly w from stays row each s.size in
        let next = exact_draws m N (count_below is_bad N) from s.size row in
        let here : count_in (accepted is_bad w s k) (lists m N k) ≡ sum_below next (suc s.accept) = accepted_cells m N is_bad w s k ∙ sum_same_below (cell m N w is_bad k) next (suc s.accept) (λ c _. drawn c) in
        let at_end : k + total rest ≡ end = omega arith in
        let first : count_in (accepted is_bad w s k) (lists m N end) ≡ sum_below next (suc s.accept) * ways_on m N k (total rest) =
        ap (λ n. count_in (accepted is_bad w s k) (lists m N n)) (sym at_end) ∙ ways_count (accepted is_bad w s k) k (accepted_settled is_bad w from k stays (omega arith) s) (total rest) ∙ ap (λ n. n * ways_on m N k (total rest)) here in
        let second = samples_exactly rest (sent_on is_bad w s k) (suc stage) k (sent_on_settled is_bad w from k stays (omega arith) s) (cleared s.accept s.reject next)
        (λ d. sent_on_cells m N is_bad w s k d ∙ ap (λ x. cond (leb d s.accept) 0 (cond (leb s.reject d) 0 x)) (drawn d)) end at_end in
        passes_on_more m N is_bad w s rest stage from end (omega arith) ∙ (λ t. first t + second t)

    pub passing_exactly : (samples : List Sample) → passing m N is_bad samples ≡ exactly m N (count_below is_bad N) samples 0 one_list
    unfolding passing lists
    passing_exactly samples = samples_exactly samples (λ _. true) 0 0 (λ l f h. refl) one_list start (total samples) (zero-add (total samples))
      where
        start : (d : ℕ) → cell m N (λ _. true) is_bad 0 d ≡ one_list d
        start zero = refl
        start (suc d) = grind (arith, nat_tests)
