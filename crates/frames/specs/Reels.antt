-- The number of frames that the first line of a draw list gives. Assumes nothing.
use Rattle.std.specs.Prelude.{ℕ, cond, ◌||◌, List, Some, None, Option, ◌==◌, nat_lt}
use Rattle.lines.specs.Text.{number_of}

-- a reel has 1 to 1,000,000 frames
abbrev pub reel_if : Option ℕ → Option ℕ
reel_if None = None
reel_if (Some n) = cond (n == 0 || nat_lt 1000000 n) None (Some n)

abbrev pub reel_size : List ℕ → Option ℕ
reel_size line = reel_if (number_of line)
