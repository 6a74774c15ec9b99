-- What chance answers, and what it leaves in the rows. Assumes nothing.
use Rattle.std.specs.Prelude.{◌≡◌, ℕ, suc, ◌+◌, ◌^◌, ◌≤◌, Bool, true, false, cond, ◌||◌, List, length, codes, ◌==◌, nat_lt}
use Rattle.film.specs.Refusals.{Answer, given, refused, refuse}
use Rattle.draws.specs.Counting.{count_below}
use Rattle.draws.specs.Draws.{DrawMeaning}
use Rattle.plans.specs.Plans.{PlanNumbers, samples_of}
use Rattle.plans.specs.Working.{draws_on, sum_below, worked_from0, low_of, high_of}
use Rattle.plans.specs.Enclosure.{Encloses}
use Rattle.sampling.specs.Rows.{cells_of, row_of, overlaid, Moved}
use Rattle.sampling.specs.declared.chance.Ends.{Ends}

-- no reel has so many frames
abbrev pub no_reel : ℕ → Bool
no_reel N = N == 0 || nat_lt 1000000 N

-- the two ends of the enclosure of a plan's chance of PASS, with D bad frames
abbrev pub ends_of : DrawMeaning → (N D : ℕ) → PlanNumbers → Ends
ends_of m N D p = record { lo = low_of m N D (samples_of p); hi = high_of m N D (samples_of p) }

-- the ends, or the first of the refusals; low and high are how many cells the rows have
abbrev pub enclosed : DrawMeaning → (N D : ℕ) → PlanNumbers → (low high : ℕ) → Answer Ends
enclosed m N D p low high =
    cond (no_reel N) (refuse 21 0 (codes "R"))
    (cond (nat_lt N D) (refuse 22 D (codes "R"))
    (cond (nat_lt (m.longest N) (p.n1 + p.n2)) (refuse 24 (p.n1 + p.n2) (codes "R"))
    (cond (nat_lt low (p.ac2 + 1) || nat_lt high (p.ac2 + 1)) (refuse 23 (p.ac2 + 1) (codes "R"))
    (given (ends_of m N D p)))))

-- the last row worked in the cells used, and every other cell as found; a refusal leaves the row as found
abbrev pub row_left : {A : Type 0} → (up : Bool) → DrawMeaning → (N D : ℕ) → PlanNumbers → Answer A → List ℕ → List ℕ
row_left up m N D p (given ends) old = overlaid (p.ac2 + 1) (worked_from0 up m N D (samples_of p)).row old
row_left up m N D p (refused fault) old = old

-- what chance promises: its answer and both rows are the definitions', and whichever D frames are bad, the exact chance lies between the ends
pub record Chances (m : DrawMeaning) (N D : ℕ) (p : PlanNumbers) (low high low' high' : List ℕ) (answer : Answer Ends) : Type 0 where
  pub value : answer ≡ enclosed m N D p (length low) (length high)
  pub low_row : low' ≡ row_left false m N D p answer low
  pub high_row : high' ≡ row_left true m N D p answer high
  pub encloses : (ends : Ends) → answer ≡ given ends → (is_bad : ℕ → Bool) → count_below is_bad N ≡ D → Encloses m N is_bad (samples_of p) ends.lo ends.hi

-- what one sample gives: the rows moved on, and the sums of the cells that accept
pub record Sampled (m : DrawMeaning) (N D drawn size accept : ℕ) (low high low' high' : List ℕ) (sums : Ends) : Type 0 where
  pub moved : Moved m N D drawn size low high low' high'
  pub low_sum : sums.lo ≡ sum_below (draws_on false m N D drawn size (cells_of low)) (suc accept)
  pub high_sum : sums.hi ≡ sum_below (draws_on true m N D drawn size (cells_of high)) (suc accept)
  pub low_fits : sums.lo ≤ 2 ^ 41
  pub high_fits : sums.hi ≤ 2 ^ 41

-- what the working gives in rows of as many cells as the plan asks for
pub record Works (m : DrawMeaning) (N D : ℕ) (p : PlanNumbers) (low' high' : List ℕ) (ends : Ends) : Type 0 where
  pub value : ends ≡ ends_of m N D p
  pub low_row : low' ≡ row_of (p.ac2 + 1) (worked_from0 false m N D (samples_of p)).row
  pub high_row : high' ≡ row_of (p.ac2 + 1) (worked_from0 true m N D (samples_of p)).row
