-- A plan's samples worked in memory. Assumes nothing.
use Rattle.std.proofs.Common.{◌≡◌, ℕ, zero, suc, ◌+◌, ◌*◌, ◌^◌, ◌<◌, ◌≤◌, min, Bool, true, false, List, length, take, sum, sym, refl, ap, ◌∙◌, subst, ⊎_elim, zero-add, add-one, arith}
use native.Mathlib.Nat.{min_comm}
use Rattle.std.proofs.lemmas.Bool.{cases_lt}
use Rattle.draws.specs.Draws.{DrawMeaning, Reel, Lawful}
use Rattle.plans.specs.Plans.{PlanNumbers, samples_by, Agrees}
use Rattle.plans.specs.Working.{whole, draws_on, sum_below, cleared, start_row, Worked, worked, worked_from0}
use Rattle.plans.proofs.Sums.{sum_longer}
use Rattle.plans.proofs.Bounds.{sum_same_below}
use Rattle.sampling.specs.Rows.{cells_of, row_of, Roomy}
use Rattle.sampling.specs.Chances.{Sampled, Works}
use Rattle.sampling.specs.declared.chance.Ends.{Ends}
use Rattle.sampling.proofs.Overlays.{row_at}
use Rattle.sampling.proofs.Phases.{draws_on_same, drawn_on, cleared_on, sum_on, roomy_on, draws_small, start_small, cleared_small, sum_fits}

module _ (up : Bool) (m : DrawMeaning) (N D : ℕ) where
  -- the row behind the first sample, and behind the second
  abbrev pub first_row : (n1 : ℕ) → ℕ → ℕ
  first_row n1 = draws_on up m N D 0 n1 start_row

  abbrev pub second_row : (n1 ac1 re1 n2 : ℕ) → ℕ → ℕ
  second_row n1 ac1 re1 n2 = draws_on up m N D n1 n2 (cleared ac1 re1 (first_row n1))

  pub one_sample : (n1 ac1 re1 n2 ac2 : ℕ) → n2 ≡ 0 → worked_from0 up m N D (samples_by n1 ac1 re1 n2 ac2) ≡ record { units = sum_below (first_row n1) (suc ac1); row = first_row n1 }
  unfolding worked
  one_sample n1 ac1 re1 zero ac2 e = refl
  one_sample n1 ac1 re1 (suc n2) ac2 e = absurd (omega arith)

  pub two_samples : (n1 ac1 re1 n2 ac2 : ℕ) → 0 < n2 → worked_from0 up m N D (samples_by n1 ac1 re1 n2 ac2) ≡ record { units = sum_below (first_row n1) (suc ac1) + sum_below (second_row n1 ac1 re1 n2) (suc ac2); row = second_row n1 ac1 re1 n2 }
  unfolding worked
  two_samples n1 ac1 re1 zero ac2 some = absurd (omega arith)
  two_samples n1 ac1 re1 (suc n2) ac2 some = ap at (zero-add n1)
    where
      at : ℕ → Worked
      at from =
          record {
            units = sum_below (first_row n1) (suc ac1) + sum_below (draws_on up m N D from (suc n2) (cleared ac1 re1 (first_row n1))) (suc ac2);
            row = draws_on up m N D from (suc n2) (cleared ac1 re1 (first_row n1));
          }

  -- what a sample adds up to, from a row that is known
  pub sum_drawn : (k count n j : ℕ) (f : ℕ → ℕ) (row : List ℕ) → j ≤ n → row ≡ row_of n f → sum_below (draws_on up m N D k count (cells_of row)) j ≡ sum_below (draws_on up m N D k count f) j
  sum_drawn k count n j f row le e =
      sum_same_below (draws_on up m N D k count (cells_of row)) (draws_on up m N D k count f) j
      (λ d lt. draws_on_same up m N D k n (cells_of row) f (λ c below. ap (λ r. cells_of r c) e ∙ row_at n f c below) count d (omega arith))

  module _ (law : Lawful m) (reel : Reel N) where
    -- what the cells that accept add up to behind the draws, which stays small
    pub summed : (k count accept : ℕ) (row next : List ℕ) → k + count ≤ m.longest N → k + count ≤ 32768 → Roomy k row → accept < length row → next ≡ row_of (length row) (draws_on up m N D k count (cells_of row))
        → (sum (take (accept + 1) next) ≡ sum_below (draws_on up m N D k count (cells_of row)) (suc accept)) × (sum (take (accept + 1) next) ≤ 2 ^ 41)
    summed k count accept row next le few roomy lt e =
        let n = length row in
        let made = draws_on up m N D k count (cells_of row) in
        let all = sum_fits (k + count) n (sum_below made n) few roomy.few_cells (draws_small m law N reel D up k count n (cells_of row) le roomy.small) in
        let same = sum_on n (accept + 1) made next (omega arith) e ∙ ap (sum_below made) (add-one accept) in
        (same, omega (arith, sum_longer made (suc accept) n lt))

    -- a row cleared for the second sample can be worked in
    pub cleared_roomy : (n1 ac1 re1 n : ℕ) (begun drawn row : List ℕ) → 0 < n → n ≤ 256 → n1 ≤ m.longest N → begun ≡ row_of n start_row → drawn ≡ row_of (length begun) (draws_on up m N D 0 n1 (cells_of begun)) → row ≡ row_of (length drawn) (cleared ac1 re1 (cells_of drawn)) → Roomy n1 row
    cleared_roomy n1 ac1 re1 n begun drawn row some few short e f h =
        let drawn_is = drawn_on up m N D 0 n1 n start_row begun drawn e f in
        let small = draws_small m law N reel D up 0 n1 n start_row (omega arith) (start_small n some) in
        roomy_on n n1 (cleared ac1 re1 (first_row n1)) row (cleared_on ac1 re1 n (first_row n1) drawn row drawn_is h) some few
        (cleared_small ac1 re1 n1 n (first_row n1) (subst (λ k. sum_below (first_row n1) n ≤ whole + k * n) (zero-add n1) small))

-- a plan's smaller accept number
pub accepts_less : (n1 ac1 re1 n2 ac2 : ℕ) → Agrees n1 ac1 re1 n2 ac2 → ac1 ≤ ac2
accepts_less n1 ac1 re1 n2 ac2 agrees =
    ⊎_elim (λ some. omega (arith, agrees.3.2 some, agrees.3.3 some)) (λ none. let e : n2 ≡ 0 = omega arith in omega (arith, agrees.3.1 e)) (cases_lt 0 n2)

module _ (m : DrawMeaning) (N D : ℕ) (p : PlanNumbers) (low high low₁ high₁ : List ℕ) (el : low ≡ row_of (p.ac2 + 1) start_row) (eh : high ≡ row_of (p.ac2 + 1) start_row) (less : p.ac1 ≤ p.ac2) (sums : Ends) (s : Sampled m N D 0 p.n1 p.ac1 low high low₁ high₁ sums) where
  first_sum : (up : Bool) (row : List ℕ) → row ≡ row_of (p.ac2 + 1) start_row → sum_below (draws_on up m N D 0 p.n1 (cells_of row)) (suc p.ac1) ≡ sum_below (first_row up m N D p.n1) (suc p.ac1)
  first_sum up row e = sum_drawn up m N D 0 p.n1 (p.ac2 + 1) (suc p.ac1) start_row row (omega arith) e

  -- a plan of one sample
  pub works_one : (hi : ℕ) → p.n2 ≡ 0 → hi ≡ min sums.hi whole → Works m N D p low₁ high₁ (record { lo = sums.lo; hi = hi })
  works_one hi none cut =
      record {
        value = (λ i. record { lo = lo_is i; hi = hi_is i });
        low_row = row false low low₁ el s.moved.low_row;
        high_row = row true high high₁ eh s.moved.high_row;
      }
    where
      worked_one : (up : Bool) → worked_from0 up m N D (samples_by p.n1 p.ac1 p.re1 p.n2 p.ac2) ≡ record { units = sum_below (first_row up m N D p.n1) (suc p.ac1); row = first_row up m N D p.n1 }
      worked_one up = one_sample up m N D p.n1 p.ac1 p.re1 p.n2 p.ac2 none

      lo_is : sums.lo ≡ (worked_from0 false m N D (samples_by p.n1 p.ac1 p.re1 p.n2 p.ac2)).units
      lo_is = s.low_sum ∙ first_sum false low el ∙ sym (ap (λ w. w.units) (worked_one false))

      hi_is : hi ≡ min whole (worked_from0 true m N D (samples_by p.n1 p.ac1 p.re1 p.n2 p.ac2)).units
      hi_is = cut ∙ min_comm sums.hi whole ∙ ap (min whole) (s.high_sum ∙ first_sum true high eh ∙ sym (ap (λ w. w.units) (worked_one true)))

      row : (up : Bool) (begun next : List ℕ) → begun ≡ row_of (p.ac2 + 1) start_row → next ≡ row_of (length begun) (draws_on up m N D 0 p.n1 (cells_of begun)) → next ≡ row_of (p.ac2 + 1) (worked_from0 up m N D (samples_by p.n1 p.ac1 p.re1 p.n2 p.ac2)).row
      row up begun next e f = drawn_on up m N D 0 p.n1 (p.ac2 + 1) start_row begun next e f ∙ sym (ap (λ w. row_of (p.ac2 + 1) w.row) (worked_one up))

  -- a plan of two
  pub works_two : (low₂ high₂ low' high' : List ℕ) (more : Ends) (hi : ℕ) → 0 < p.n2
      → low₂ ≡ row_of (length low₁) (cleared p.ac1 p.re1 (cells_of low₁)) → high₂ ≡ row_of (length high₁) (cleared p.ac1 p.re1 (cells_of high₁))
      → Sampled m N D p.n1 p.n2 p.ac2 low₂ high₂ low' high' more → hi ≡ min (sums.hi + more.hi) whole → Works m N D p low' high' (record { lo = sums.lo + more.lo; hi = hi })
  works_two low₂ high₂ low' high' more hi some cl ch t cut =
      record {
        value = (λ i. record { lo = lo_is i; hi = hi_is i });
        low_row = row false low low₁ low₂ low' el s.moved.low_row cl t.moved.low_row;
        high_row = row true high high₁ high₂ high' eh s.moved.high_row ch t.moved.high_row;
      }
    where
      worked_two : (up : Bool) → worked_from0 up m N D (samples_by p.n1 p.ac1 p.re1 p.n2 p.ac2) ≡ record { units = sum_below (first_row up m N D p.n1) (suc p.ac1) + sum_below (second_row up m N D p.n1 p.ac1 p.re1 p.n2) (suc p.ac2); row = second_row up m N D p.n1 p.ac1 p.re1 p.n2 }
      worked_two up = two_samples up m N D p.n1 p.ac1 p.re1 p.n2 p.ac2 some

      kept_is : (up : Bool) (begun drawn kept : List ℕ) → begun ≡ row_of (p.ac2 + 1) start_row → drawn ≡ row_of (length begun) (draws_on up m N D 0 p.n1 (cells_of begun)) → kept ≡ row_of (length drawn) (cleared p.ac1 p.re1 (cells_of drawn)) → kept ≡ row_of (p.ac2 + 1) (cleared p.ac1 p.re1 (first_row up m N D p.n1))
      kept_is up begun drawn kept e f h = cleared_on p.ac1 p.re1 (p.ac2 + 1) (first_row up m N D p.n1) drawn kept (drawn_on up m N D 0 p.n1 (p.ac2 + 1) start_row begun drawn e f) h

      units : (up : Bool) (begun drawn kept : List ℕ) (x y : ℕ) → begun ≡ row_of (p.ac2 + 1) start_row → drawn ≡ row_of (length begun) (draws_on up m N D 0 p.n1 (cells_of begun)) → kept ≡ row_of (length drawn) (cleared p.ac1 p.re1 (cells_of drawn)) → x ≡ sum_below (draws_on up m N D 0 p.n1 (cells_of begun)) (suc p.ac1) → y ≡ sum_below (draws_on up m N D p.n1 p.n2 (cells_of kept)) (suc p.ac2) → x + y ≡ (worked_from0 up m N D (samples_by p.n1 p.ac1 p.re1 p.n2 p.ac2)).units
      units up begun drawn kept x y e f h ex ey =
          let second = sum_drawn up m N D p.n1 p.n2 (p.ac2 + 1) (suc p.ac2) (cleared p.ac1 p.re1 (first_row up m N D p.n1)) kept (omega arith) (kept_is up begun drawn kept e f h) in
          (λ i. (ex ∙ first_sum up begun e) i + (ey ∙ second) i) ∙ sym (ap (λ w. w.units) (worked_two up))

      lo_is : sums.lo + more.lo ≡ (worked_from0 false m N D (samples_by p.n1 p.ac1 p.re1 p.n2 p.ac2)).units
      lo_is = units false low low₁ low₂ sums.lo more.lo el s.moved.low_row cl s.low_sum t.low_sum

      hi_is : hi ≡ min whole (worked_from0 true m N D (samples_by p.n1 p.ac1 p.re1 p.n2 p.ac2)).units
      hi_is = cut ∙ min_comm (sums.hi + more.hi) whole ∙ ap (min whole) (units true high high₁ high₂ sums.hi more.hi eh s.moved.high_row ch s.high_sum t.high_sum)

      row : (up : Bool) (begun drawn kept next : List ℕ) → begun ≡ row_of (p.ac2 + 1) start_row → drawn ≡ row_of (length begun) (draws_on up m N D 0 p.n1 (cells_of begun)) → kept ≡ row_of (length drawn) (cleared p.ac1 p.re1 (cells_of drawn)) → next ≡ row_of (length kept) (draws_on up m N D p.n1 p.n2 (cells_of kept)) → next ≡ row_of (p.ac2 + 1) (worked_from0 up m N D (samples_by p.n1 p.ac1 p.re1 p.n2 p.ac2)).row
      row up begun drawn kept next e f h k =
          drawn_on up m N D p.n1 p.n2 (p.ac2 + 1) (cleared p.ac1 p.re1 (first_row up m N D p.n1)) kept next (kept_is up begun drawn kept e f h) k ∙ sym (ap (λ w. row_of (p.ac2 + 1) w.row) (worked_two up))
