-- Rows of the working as they stand in memory. Assumes nothing.
use Rattle.std.specs.Prelude.{◌≡◌, ℕ, ◌+◌, ◌*◌, ◌^◌, ◌<◌, ◌≤◌, Bool, true, false, List, ◌++◌, map, length, drop, slice_index}
use Rattle.std.specs.List.{range_with_len}
use Rattle.draws.specs.Draws.{DrawMeaning}
use Rattle.plans.specs.Working.{whole, draw_on, draws_on, sum_below}

-- the cells of a row in memory
abbrev pub cells_of : List ℕ → ℕ → ℕ
cells_of row d = slice_index row d

-- a row of n cells in memory
unfoldable pub row_of : (n : ℕ) → (ℕ → ℕ) → List ℕ
row_of n cells = map cells (range_with_len 0 n)

-- a row in memory with its first n cells anew and the rest kept
unfoldable pub overlaid : (n : ℕ) → (ℕ → ℕ) → List ℕ → List ℕ
overlaid n cells old = map cells (range_with_len 0 n) ++ drop n old

-- a cell's new value can be worked out in 64 bits
pub record Moves (cell good brought ways : ℕ) : Type 0 where
  pub some_ways : 0 < ways
  pub fits : cell * good + brought + ways < 2 ^ 64

-- a row to work in holds little enough for so many draws behind it
pub record Roomy (drawn : ℕ) (row : List ℕ) : Type 0 where
  pub some_cells : 0 < length row
  pub few_cells : length row ≤ 256
  pub small : sum_below (cells_of row) (length row) ≤ whole + drawn * length row

-- the rule has so many draws more behind `drawn` frames, and both rows stand ready for them
pub record Ready (m : DrawMeaning) (N drawn count : ℕ) (low high : List ℕ) : Type 0 where
  pub draws : drawn + count ≤ m.longest N
  pub few_draws : drawn + count ≤ 32768
  pub same_cells : length high ≡ length low
  pub low_row : Roomy drawn low
  pub high_row : Roomy drawn high

-- the cells from d on are moved by a draw, those below still old
pub record Partly (up : Bool) (m : DrawMeaning) (N D k d : ℕ) (old row : List ℕ) : Type 0 where
  pub same_length : length row ≡ length old
  pub done : (c : ℕ) → d ≤ c → c < length old → cells_of row c ≡ draw_on up m N D k (cells_of old) c
  pub left : (c : ℕ) → c < d → cells_of row c ≡ cells_of old c

-- in both rows the cells behind the first are moved by a draw after `drawn` frames
pub record MovedBehind (m : DrawMeaning) (N D drawn : ℕ) (low high low' high' : List ℕ) : Type 0 where
  pub low_row : Partly false m N D drawn 1 low low'
  pub high_row : Partly true m N D drawn 1 high high'

-- so many draws more, the first after `drawn` frames: both rows are moved on, rounded down and up
pub record Moved (m : DrawMeaning) (N D drawn count : ℕ) (low high low' high' : List ℕ) : Type 0 where
  pub low_row : low' ≡ row_of (length low) (draws_on false m N D drawn count (cells_of low))
  pub high_row : high' ≡ row_of (length high) (draws_on true m N D drawn count (cells_of high))
