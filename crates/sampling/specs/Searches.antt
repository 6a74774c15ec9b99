-- What smallest answers, and what it leaves in the rows. Assumes nothing.
use Rattle.std.specs.Prelude.{◌≡◌, ℕ, zero, suc, ◌+◌, ◌<◌, ◌≤◌, min, Bool, true, false, cond, ◌||◌, List, length, codes, nat_lt}
use Rattle.film.specs.Refusals.{Answer, given, refuse}
use Rattle.draws.specs.Counting.{count_below}
use Rattle.draws.specs.Draws.{DrawMeaning}
use Rattle.plans.specs.Plans.{single}
use Rattle.plans.specs.Working.{draws_on, start_row, low_of, high_of}
use Rattle.plans.specs.Limits.{Keeps, Smallest}
use Rattle.sampling.specs.Rows.{row_of, overlaid}
use Rattle.sampling.specs.Chances.{no_reel}
use Rattle.sampling.specs.Certifies.{is_within, no_tolerance, no_limit}

-- samples are tried up to this size
abbrev pub last_tried : DrawMeaning → (N : ℕ) → ℕ
last_tried m N = min (m.longest N) 32768

-- what is found behind size n, with `left` sizes left to try: the first whose high end is within the limit, if the low end at the size before is above it
unfoldable pub searched : DrawMeaning → (N T limit c : ℕ) → (left n : ℕ) → Answer ℕ
searched m N T limit c zero n = cond (is_within limit (low_of m N T (single n c))) (refuse 27 n (codes "R")) (refuse 28 n (codes "R"))
searched m N T limit c (suc left) n =
    cond (is_within limit (high_of m N T (single (suc n) c)))
    (cond (is_within limit (low_of m N T (single n c))) (refuse 27 n (codes "R")) (given (suc n)))
    (searched m N T limit c left (suc n))

-- the size at which the search stops
unfoldable pub stops_at : DrawMeaning → (N T limit c : ℕ) → (left n : ℕ) → ℕ
stops_at m N T limit c zero n = n
stops_at m N T limit c (suc left) n = cond (is_within limit (high_of m N T (single (suc n) c))) (suc n) (stops_at m N T limit c left (suc n))

-- the smallest single sample with accept number c, or the first of the refusals; low and high are how many cells the rows have
abbrev pub smallest_by : DrawMeaning → (N T limit c : ℕ) → (low high : ℕ) → Answer ℕ
smallest_by m N T limit c low high =
    cond (no_reel N) (refuse 21 0 (codes "R"))
    (cond (no_tolerance N T) (refuse 22 T (codes "R"))
    (cond (no_limit limit) (refuse 26 limit (codes "R"))
    (cond (nat_lt 255 c) (refuse 25 c (codes "R"))
    (cond (nat_lt low (c + 1) || nat_lt high (c + 1)) (refuse 23 (c + 1) (codes "R"))
    (searched m N T limit c (last_tried m N) 0)))))

-- a row at the size where the search stopped, in the cells used, and every other cell as found
abbrev pub searched_row : (up : Bool) → DrawMeaning → (N T limit c : ℕ) → List ℕ → List ℕ
searched_row up m N T limit c old = overlaid (c + 1) (draws_on up m N T 0 (stops_at m N T limit c (last_tried m N) 0) start_row) old

-- what is refused before the search leaves the row as found
abbrev pub smallest_row : (up : Bool) → DrawMeaning → (N T limit c : ℕ) → (low high : ℕ) → List ℕ → List ℕ
smallest_row up m N T limit c low high old =
    cond (no_reel N) old
    (cond (no_tolerance N T) old
    (cond (no_limit limit) old
    (cond (nat_lt 255 c) old
    (cond (nat_lt low (c + 1) || nat_lt high (c + 1)) old
    (searched_row up m N T limit c old)))))

-- whichever T frames are bad, a size given is truly the smallest that keeps the limit, and where there is none, no size tried keeps it
pub record Truly (m : DrawMeaning) (N T limit c : ℕ) (answer : Answer ℕ) : Type 0 where
  pub smallest : (n : ℕ) → answer ≡ given n → (is_bad : ℕ → Bool) → count_below is_bad N ≡ T → Smallest m N is_bad c limit n
  pub none : (n : ℕ) → answer ≡ refuse 28 n (codes "R") → (is_bad : ℕ → Bool) → count_below is_bad N ≡ T → (k : ℕ) → k ≤ last_tried m N → Keeps m N is_bad (single k c) limit → ⊥

-- what smallest promises
pub record Smallests (m : DrawMeaning) (N T limit c : ℕ) (low high low' high' : List ℕ) (answer : Answer ℕ) : Type 0 where
  pub value : answer ≡ smallest_by m N T limit c (length low) (length high)
  pub low_row : low' ≡ smallest_row false m N T limit c (length low) (length high) low
  pub high_row : high' ≡ smallest_row true m N T limit c (length low) (length high) high
  pub truly : Truly m N T limit c answer

-- what the search asks for
pub record Searchable (limit : ℕ) (low high : List ℕ) : Type 0 where
  pub a_share : limit ≤ 999999
  pub some_cells : 0 < length low
  pub few_cells : length low ≤ 256
  pub same_cells : length high ≡ length low

-- and what it gives, in rows of c + 1 cells
pub record Searches (m : DrawMeaning) (N T limit c : ℕ) (low' high' : List ℕ) (answer : Answer ℕ) : Type 0 where
  pub value : answer ≡ searched m N T limit c (last_tried m N) 0
  pub low_row : low' ≡ row_of (c + 1) (draws_on false m N T 0 (stops_at m N T limit c (last_tried m N) 0) start_row)
  pub high_row : high' ≡ row_of (c + 1) (draws_on true m N T 0 (stops_at m N T limit c (last_tried m N) 0) start_row)
