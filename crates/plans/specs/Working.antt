-- How an enclosure of the chance of PASS is worked out: a row of cells, one for each number of bad frames, moved on draw by draw. Assumes nothing.
use Rattle.std.specs.Prelude.{ℕ, zero, suc, ◌+◌, ◌-◌, ◌*◌, ◌/◌, ◌^◌, min, Bool, true, false, cond, List, [], ◌∷◌, nat_le}
use Rattle.draws.specs.Draws.{DrawMeaning}
use Rattle.plans.specs.Plans.{Sample}

-- a certainty, in the units of the answer
abbrev pub whole : ℕ
whole = 2 ^ 40

-- a quotient, rounded up or down
abbrev pub divide : (up : Bool) → ℕ → ℕ → ℕ
divide false x t = x / t
divide true x t = (x + (t - 1)) / t

-- what the cell before holds; before the first cell stands 0
abbrev pub before : (ℕ → ℕ) → ℕ → ℕ
before row zero = 0
before row (suc d) = row d

-- one draw's new row: of each t ways to go on from d bad frames, good d draw a good frame and bad d a bad one
abbrev pub moved : (up : Bool) → (good bad : ℕ → ℕ) → (t : ℕ) → (ℕ → ℕ) → ℕ → ℕ
moved up good bad t row d = divide up (row d * good d + before (λ c. row c * bad c) d) t

-- the draw after k frames, by a rule, on a reel of N frames with D bad ones
unfoldable pub draw_on : (up : Bool) → DrawMeaning → (N D k : ℕ) → (ℕ → ℕ) → ℕ → ℕ
draw_on up m N D k row d = moved up (m.good N D k) (m.bad N D k) (m.good N 0 k 0) row d

-- so many draws, the first after `from` frames
unfoldable pub draws_on : (up : Bool) → DrawMeaning → (N D from count : ℕ) → (ℕ → ℕ) → ℕ → ℕ
draws_on up m N D from zero row = row
draws_on up m N D from (suc i) row = draw_on up m N D (from + i) (draws_on up m N D from i row)

-- the cells below n, added up
abbrev pub sum_below : (ℕ → ℕ) → (n : ℕ) → ℕ
sum_below row zero = 0
sum_below row (suc n) = sum_below row n + row n

-- what goes on to the next sample: the cells that neither accept nor reject
abbrev pub cleared : (accept reject : ℕ) → (ℕ → ℕ) → ℕ → ℕ
cleared accept reject row d = cond (nat_le d accept) 0 (cond (nat_le reject d) 0 (row d))

-- what a working answers, and the last row that it worked
pub record Worked : Type 0 where
  pub units : ℕ
  pub row : ℕ → ℕ

-- the samples from one on, the first draw after `from` frames: each sample's accepted cells are added to the answer
unfoldable pub worked : (up : Bool) → DrawMeaning → (N D : ℕ) → List Sample → (from : ℕ) → (ℕ → ℕ) → Worked
worked up m N D [] from row = record { units = 0; row = row }
worked up m N D (s ∷ []) from row = record { units = sum_below (draws_on up m N D from s.size row) (suc s.accept); row = draws_on up m N D from s.size row }
worked up m N D (s ∷ next ∷ rest) from row =
    record {
      units =
          sum_below (draws_on up m N D from s.size row) (suc s.accept)
          + (worked up m N D (next ∷ rest) (from + s.size) (cleared s.accept s.reject (draws_on up m N D from s.size row))).units;
      row = (worked up m N D (next ∷ rest) (from + s.size) (cleared s.accept s.reject (draws_on up m N D from s.size row))).row;
    }

-- nothing drawn yet: no bad frame, for certain
abbrev pub start_row : ℕ → ℕ
start_row zero = whole
start_row (suc d) = 0

-- the whole working
abbrev pub worked_from0 : (up : Bool) → DrawMeaning → (N D : ℕ) → List Sample → Worked
worked_from0 up m N D samples = worked up m N D samples 0 start_row

-- the two ends of the enclosure, in units of one part in 2^40
abbrev pub low_of : DrawMeaning → (N D : ℕ) → List Sample → ℕ
low_of m N D samples = (worked_from0 false m N D samples).units

abbrev pub high_of : DrawMeaning → (N D : ℕ) → List Sample → ℕ
high_of m N D samples = min whole (worked_from0 true m N D samples).units
