-- How the exact counts behind a sampling plan go from draw to draw and from sample to sample. Assumes nothing.
use Rattle.std.proofs.Common.{◌≡◌, ℕ, zero, suc, ◌+◌, ◌*◌, ◌≤◌, Bool, true, false, cond, ◌&&◌, eqb, leb, List, [], ◌∷◌, ◌++◌, length, take, drop, sym, refl, ap, ◌∙◌, add-zero, add-suc, arith}
use Rattle.std.specs.List.{AllByRecursion}
use Rattle.std.proofs.lemmas.List.{take-append-le, take_all}
use Rattle.std.proofs.ByRecursion.{All-weaker}
use Rattle.std.proofs.lemmas.Bool.{and_right}
use Rattle.std.proofs.lemmas.Bool.Decides.{nat_tests}
use Rattle.draws.specs.Counting.{count_below, count_in}
use Rattle.draws.specs.Draws.{DrawMeaning, Allowed, Reel, Lawful, lists, bad_in, cell}
use Rattle.draws.specs.Tallies.{count_in_none, count_below_none}
use Rattle.draws.proofs.Recurrence.{lists_allowed, all_more, cell_more_zero, cell_more_suc}
use Rattle.plans.specs.Plans.{Sample}
use Rattle.plans.specs.Standings.{ruling, true_marks}
use Rattle.plans.specs.Working.{before, sum_below, cleared}
use Rattle.plans.proofs.Counts.{count_same, count_add, count_up_to}
use Rattle.plans.proofs.Rulings.{between, ruling_on, accepted_or_on}

-- a test of a list that its first k frames settle
abbrev pub Settled : (List ℕ → Bool) → ℕ → Type 0
Settled w k = (l : List ℕ) (f : ℕ) → k ≤ length l → w (l ++ f ∷ []) ≡ w l

-- of the lists that pass a test, those whose first k frames this sample accepts
abbrev pub accepted : (ℕ → Bool) → (List ℕ → Bool) → Sample → (k : ℕ) → List ℕ → Bool
accepted is_bad w s k l = w l && leb (bad_in is_bad (take k l)) s.accept

-- those that this sample sends on to the next
abbrev pub sent_on : (ℕ → Bool) → (List ℕ → Bool) → Sample → (k : ℕ) → List ℕ → Bool
sent_on is_bad w s k l = w l && between s (bad_in is_bad (take k l))

-- those that end in PASS by the samples from a stage on, the first drawn after `from` frames
abbrev pub passes_on : (ℕ → Bool) → (List ℕ → Bool) → List Sample → (stage from : ℕ) → List ℕ → Bool
passes_on is_bad w samples stage from l = w l && eqb (ruling samples stage (bad_in is_bad (take from l)) (true_marks is_bad (drop from l))) 1

-- with no sample left none ends so
pub none_pass : (is_bad : ℕ → Bool) (w : List ℕ → Bool) (stage from : ℕ) (ls : List (List ℕ)) → count_in (passes_on is_bad w [] stage from) ls ≡ 0
none_pass is_bad w stage from ls = (λ t. count_in (λ l. and_right (w l) false refl t) ls) ∙ count_in_none ls

settled_first : (is_bad : ℕ → Bool) (w : List ℕ → Bool) (from k : ℕ) → Settled w from → from ≤ k → (g : ℕ → Bool) → Settled (λ l. w l && g (bad_in is_bad (take k l))) k
settled_first is_bad w from k stays le g l f long = grind (arith, stays l f, take-append-le k l (f ∷ []))

pub accepted_settled : (is_bad : ℕ → Bool) (w : List ℕ → Bool) (from k : ℕ) → Settled w from → from ≤ k → (s : Sample) → Settled (accepted is_bad w s k) k
accepted_settled is_bad w from k stays le s = settled_first is_bad w from k stays le (λ n. leb n s.accept)

pub sent_on_settled : (is_bad : ℕ → Bool) (w : List ℕ → Bool) (from k : ℕ) → Settled w from → from ≤ k → (s : Sample) → Settled (sent_on is_bad w s k) k
sent_on_settled is_bad w from k stays le s = settled_first is_bad w from k stays le (between s)

module _ (m : DrawMeaning) (N : ℕ) where
  -- all lists of k frames have k frames
  pub lists_length : (k : ℕ) → AllByRecursion (λ l. length l ≡ k) (lists m N k)
  lists_length k = All-weaker (λ l. Allowed m N l × (length l ≡ k)) (λ l. length l ≡ k) (λ l h. h.1) (lists m N k) (lists_allowed m N k)

  pub accepted_cells : (is_bad : ℕ → Bool) (w : List ℕ → Bool) (s : Sample) (k : ℕ) → count_in (accepted is_bad w s k) (lists m N k) ≡ sum_below (cell m N w is_bad k) (suc s.accept)
  accepted_cells is_bad w s k =
      count_same (λ l. length l ≡ k) (accepted is_bad w s k) (λ l. w l && leb (bad_in is_bad l) s.accept)
      (λ l e. grind (arith, take_all k l)) (lists m N k) (lists_length k)
      ∙ count_up_to w (bad_in is_bad) (lists m N k) s.accept

  pub sent_on_cells : (is_bad : ℕ → Bool) (w : List ℕ → Bool) (s : Sample) (k d : ℕ) → cell m N (sent_on is_bad w s k) is_bad k d ≡ cleared s.accept s.reject (cell m N w is_bad k) d
  sent_on_cells is_bad w s k d =
      count_same (λ l. length l ≡ k) (λ l. sent_on is_bad w s k l && eqb (bad_in is_bad l) d) (λ l. cond (leb d s.accept) false (cond (leb s.reject d) false (w l && eqb (bad_in is_bad l) d)))
      (λ l e. grind (arith, nat_tests, take_all k l)) (lists m N k) (lists_length k)
      ∙ kept (leb d s.accept) (leb s.reject d)
    where
      kept : (x y : Bool) → count_in (λ l. cond x false (cond y false (w l && eqb (bad_in is_bad l) d))) (lists m N k) ≡ cond x 0 (cond y 0 (cell m N w is_bad k d))
      kept true y = count_in_none (lists m N k)
      kept false true = count_in_none (lists m N k)
      kept false false = refl

  -- those that end in PASS are accepted by the first sample, or sent on and end so by the next
  pub passes_on_more : (is_bad : ℕ → Bool) (w : List ℕ → Bool) (s : Sample) (rest : List Sample) (stage from k : ℕ) → from + s.size ≤ k → count_in (passes_on is_bad w (s ∷ rest) stage from) (lists m N k) ≡ count_in (accepted is_bad w s (from + s.size)) (lists m N k) + count_in (passes_on is_bad (sent_on is_bad w s (from + s.size)) rest (suc stage) (from + s.size)) (lists m N k)
  passes_on_more is_bad w s rest stage from k le =
      count_add (λ l. length l ≡ k) (passes_on is_bad w (s ∷ rest) stage from) (accepted is_bad w s (from + s.size)) (passes_on is_bad (sent_on is_bad w s (from + s.size)) rest (suc stage) (from + s.size)) share (lists m N k) (lists_length k)
    where
      share : (l : List ℕ) → length l ≡ k → cond {A = ℕ} (passes_on is_bad w (s ∷ rest) stage from l) 1 0 ≡ cond (accepted is_bad w s (from + s.size) l) 1 0 + cond (passes_on is_bad (sent_on is_bad w s (from + s.size)) rest (suc stage) (from + s.size) l) 1 0
      share l e = grind (
        arith,
        ruling_on is_bad s rest stage from l,
        accepted_or_on (w l) (leb (bad_in is_bad (take (from + s.size) l)) s.accept) (leb s.reject (bad_in is_bad (take (from + s.size) l))) (ruling rest (suc stage) (bad_in is_bad (take (from + s.size) l)) (true_marks is_bad (drop (from + s.size) l))),
      )

module _ (m : DrawMeaning) (law : Lawful m) (N : ℕ) (reel : Reel N) where
  -- the cells of lists whose test is settled move on by the rule's counts
  pub cells_more : (is_bad : ℕ → Bool) (w : List ℕ → Bool) (k : ℕ) → Settled w k → (d : ℕ) → cell m N w is_bad (suc k) d ≡ cell m N w is_bad k d * m.good N (count_below is_bad N) k d + before (λ c. cell m N w is_bad k c * m.bad N (count_below is_bad N) k c) d
  cells_more is_bad w k stays zero = cell_more_zero m N law reel w is_bad k (λ l f e. stays l f (omega arith)) ∙ sym (add-zero _)
  cells_more is_bad w k stays (suc d) = cell_more_suc m N law reel w is_bad k (λ l f e. stays l f (omega arith)) d

  none_bad : (w : List ℕ → Bool) (k : ℕ) → cell m N w (λ _. false) k 0 ≡ count_in w (lists m N k)
  none_bad w k = (λ t. count_in (λ l. same l t) (lists m N k))
    where
      same : (l : List ℕ) → (w l && eqb (bad_in (λ _. false) l) 0) ≡ w l
      same l = grind (arith, nat_tests, count_in_none l)

  -- a settled list counts with every way of going on
  pub counts_more : (w : List ℕ → Bool) (k : ℕ) → Settled w k → count_in w (lists m N (suc k)) ≡ count_in w (lists m N k) * m.good N 0 k 0
  counts_more w k stays = grind (
    arith,
    none_bad w k,
    none_bad w (suc k),
    cell_more_zero m N law reel w (λ _. false) k (λ l f e. stays l f (omega arith)),
    count_below_none (λ _. false) N,
  )

  pub counts_on : (w : List ℕ → Bool) (k : ℕ) → Settled w k → (j : ℕ) → k + j ≤ m.longest N → count_in w (lists m N (k + j)) * length (lists m N k) ≡ count_in w (lists m N k) * length (lists m N (k + j))
  counts_on w k stays zero le = grind (arith, add-zero k)
  counts_on w k stays (suc j) le = grind (
    arith,
    add-suc k j,
    counts_more w (k + j) (λ l f long. stays l f (omega arith)),
    all_more m N law reel (k + j) (omega arith),
    step (count_in w (lists m N (k + j))) (length (lists m N k)) (count_in w (lists m N k)) (length (lists m N (k + j))) (m.good N 0 (k + j) 0) (counts_on w k stays j (omega arith)),
  )
    where
      step : (a n b o t : ℕ) → a * n ≡ b * o → (a * t) * n ≡ b * (o * t)
      step a n b o t e = omega (arith, ap (λ z. z * t) e)
