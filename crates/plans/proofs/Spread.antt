-- How far the two answers of a working part, and how large a row grows, over all samples. Assumes nothing.
use Rattle.std.proofs.Common.{◌≡◌, ℕ, zero, suc, ◌+◌, ◌-◌, ◌*◌, ◌<◌, ◌≤◌, Bool, true, false, List, [], ◌∷◌, ap, suc-mul, zero-mul, arith}
use Rattle.std.proofs.lemmas.Bool.Decides.{nat_tests}
use Rattle.draws.specs.Draws.{DrawMeaning}
use Rattle.plans.specs.Plans.{Sample, total, AcceptsUpTo}
use Rattle.plans.specs.Working.{draw_on, draws_on, sum_below, cleared, worked}
use Rattle.plans.proofs.Sums.{sum_le, sum_add, sum_split}
use Rattle.plans.proofs.Widths.{row_grows, gap_grows}
use Rattle.plans.proofs.Steps.{total_more, worked_more}

-- a cleared cell holds no more than it held, and nothing up to accept
pub cleared_less : (accept reject : ℕ) (row : ℕ → ℕ) (d : ℕ) → cleared accept reject row d ≤ row d
cleared_less accept reject row d = grind arith

cleared_gone : (accept reject : ℕ) (row : ℕ → ℕ) (d : ℕ) → d ≤ accept → cleared accept reject row d ≡ 0
cleared_gone accept reject row d h = grind (arith, nat_tests)

gap_less : (accept reject : ℕ) (low high : ℕ → ℕ) (d : ℕ) → cleared accept reject high d - cleared accept reject low d ≤ high d - low d
gap_less accept reject low high d = grind arith

-- two sums part by at most the sum of the gaps
gap_sum : (low high : ℕ → ℕ) (n : ℕ) → sum_below high n ≤ sum_below low n + sum_below (λ d. high d - low d) n
gap_sum low high n = omega (arith, sum_le high (λ d. low d + (high d - low d)) (λ d. omega arith) n, sum_add low (λ d. high d - low d) n)

-- a rule's counts at the draws that it allows: some frame may follow, and good and bad are at most all
module _ (m : DrawMeaning) (N D : ℕ)
    (some : (k : ℕ) → k < m.longest N → 0 < m.good N 0 k 0)
    (most : (k d : ℕ) → k < m.longest N → m.good N D k d + m.bad N D k d ≤ m.good N 0 k 0) where
  pub draws_grow : (up : Bool) (from : ℕ) (row : ℕ → ℕ) (n count : ℕ) → from + count ≤ m.longest N → sum_below (draws_on up m N D from count row) n ≤ sum_below row n + count * n
  unfolding draws_on draw_on
  draws_grow up from row n zero le = omega arith
  draws_grow up from row n (suc i) le =
      let short : from + i < m.longest N = omega arith in
      omega (
        arith,
        row_grows (m.good N D (from + i)) (m.bad N D (from + i)) (m.good N 0 (from + i) 0) (some (from + i) short) (λ d. most (from + i) d short) up (draws_on up m N D from i row) n,
        draws_grow up from row n i (omega arith),
      )

  pub draws_gap : (from : ℕ) (low high : ℕ → ℕ) (n count : ℕ) → from + count ≤ m.longest N → sum_below (λ d. draws_on true m N D from count high d - draws_on false m N D from count low d) n ≤ sum_below (λ d. high d - low d) n + count * (n * 2)
  unfolding draws_on draw_on
  draws_gap from low high n zero le = omega (arith, zero-mul (n * 2))
  draws_gap from low high n (suc i) le =
      let short : from + i < m.longest N = omega arith in
      let here = gap_grows (m.good N D (from + i)) (m.bad N D (from + i)) (m.good N 0 (from + i) 0) (some (from + i) short) (λ d. most (from + i) d short) (draws_on false m N D from i low) (draws_on true m N D from i high) n in
      omega (arith, here, draws_gap from low high n i (omega arith), suc-mul i (n * 2))

  -- an answer is at most what the row holds, and one unit a cell and draw
  pub worked_grows : (up : Bool) (most_accept : ℕ) (samples : List Sample) → AcceptsUpTo most_accept samples → (from : ℕ) (row : ℕ → ℕ) → from + total samples ≤ m.longest N → (worked up m N D samples from row).units ≤ sum_below row (suc most_accept) + total samples * suc most_accept
  unfolding worked
  worked_grows up a [] fit from row le = omega arith
  worked_grows up a (s ∷ rest) fit from row le =
      let next = draws_on up m N D from s.size row in
      let later = worked_grows up a rest fit.1 (from + s.size) (cleared s.accept s.reject next) (omega (arith, total_more s rest)) in
      let here = draws_grow up from row (suc a) s.size (omega (arith, total_more s rest)) in
      let split = sum_split next (cleared s.accept s.reject next) s.accept (cleared_less s.accept s.reject next) (cleared_gone s.accept s.reject next) (suc a) (omega (arith, fit.0)) in
      omega (arith, worked_more up m N D s rest from row, ap (λ n. n * suc a) (total_more s rest))

  -- the two answers part by at most what the rows do, and two units a cell and draw
  pub worked_gap : (most_accept : ℕ) (samples : List Sample) → AcceptsUpTo most_accept samples → (from : ℕ) (low high : ℕ → ℕ) → from + total samples ≤ m.longest N → (worked true m N D samples from high).units ≤ (worked false m N D samples from low).units + (sum_below (λ d. high d - low d) (suc most_accept) + total samples * (suc most_accept * 2))
  unfolding worked
  worked_gap a [] fit from low high le = omega arith
  worked_gap a (s ∷ rest) fit from low high le =
      let low' = draws_on false m N D from s.size low in
      let high' = draws_on true m N D from s.size high in
      let clear : (ℕ → ℕ) → ℕ → ℕ = cleared s.accept s.reject in
      let later = worked_gap a rest fit.1 (from + s.size) (clear low') (clear high') (omega (arith, total_more s rest)) in
      let here = draws_gap from low high (suc a) s.size (omega (arith, total_more s rest)) in
      let split = sum_split (λ d. high' d - low' d) (λ d. clear high' d - clear low' d) s.accept (gap_less s.accept s.reject low' high') (λ d h. omega (arith, cleared_gone s.accept s.reject high' d h)) (suc a) (omega (arith, fit.0)) in
      let apart = gap_sum low' high' (suc s.accept) in
      omega (arith, worked_more false m N D s rest from low, worked_more true m N D s rest from high, ap (λ n. n * (suc a * 2)) (total_more s rest))
