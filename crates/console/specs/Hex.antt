-- Bytes written in hexadecimal, 32 to a line. Assumes nothing.
use Rattle.std.specs.Prelude.{ℕ, ◌+◌, ◌/◌, ◌%◌, cond, ◌||◌, List, [], ◌∷◌, ◌++◌, length, ◌==◌, nat_lt}

abbrev pub hex_digit : ℕ → ℕ
hex_digit n = cond (nat_lt n 10) (48 + n) (87 + n)

abbrev pub hex_of : ℕ → List ℕ
hex_of byte = hex_digit (byte / 16) ∷ hex_digit (byte % 16) ∷ []

-- a line ends behind each 32nd byte, and behind the last of n
abbrev pub ending : (i n : ℕ) → List ℕ
ending i n = cond (i % 32 == 31 || i + 1 == n) (10 ∷ []) []

-- the bytes from the i-th on, of n
abbrev pub hex_from : (i n : ℕ) → List ℕ → List ℕ
hex_from i n [] = []
hex_from i n (b ∷ bs) = hex_of b ++ (ending i n ++ hex_from (i + 1) n bs)

abbrev pub hex_lines : List ℕ → List ℕ
hex_lines bytes = hex_from 0 (length bytes) bytes
