-- How a text of bytes falls into lines, words and numbers. Assumes nothing.
use Rattle.std.specs.Prelude.{ℕ, zero, suc, ◌+◌, ◌-◌, ◌*◌, Bool, cond, ◌&&◌, List, [], ◌∷◌, length, Some, None, Option, ◌==◌, nat_le, position, take, drop}
use Rattle.std.specs.Option.{option_map, option_map_or}
use Rattle.std.specs.Str.{all_ascii_digits}

-- what stands before the first `mark`, or all where there is none
abbrev pub before : (mark : ℕ) → List ℕ → List ℕ
before mark text = option_map_or (λ i. take i text) (position (λ b. b == mark) text) text

-- what stands behind the first `mark`, where there is one
abbrev pub behind : (mark : ℕ) → List ℕ → Option (List ℕ)
behind mark text = option_map (λ i. drop (i + 1) text) (position (λ b. b == mark) text)

-- one byte more at the front of the first line
abbrev pub lengthened : ℕ → List (List ℕ) → List (List ℕ)
lengthened b [] = (b ∷ []) ∷ []
lengthened b (l ∷ ls) = (b ∷ l) ∷ ls

-- a line ends at byte 10 or with the text; at the text's end none begins
abbrev pub lines_of : List ℕ → List (List ℕ)
lines_of [] = []
lines_of (b ∷ bs) = cond (b == 10) ([] ∷ lines_of bs) (lengthened b (lines_of bs))

-- a line without the byte 10 that ends it
abbrev pub without_end : List ℕ → List ℕ
without_end [] = []
without_end (b ∷ []) = cond (b == 10) [] (b ∷ [])
without_end (b ∷ c ∷ cs) = b ∷ without_end (c ∷ cs)

-- the number that digits write, after what has been read already
abbrev pub read_on : ℕ → List ℕ → ℕ
read_on n [] = n
read_on n (c ∷ cs) = read_on (n * 10 + (c - 48)) cs

-- a number has 1 to 10 digits and fits 32 bits
abbrev pub is_number : List ℕ → Bool
is_number word = nat_le 1 (length word) && (nat_le (length word) 10 && (all_ascii_digits word && nat_le (read_on 0 word) 4294967295))

abbrev pub number_of : List ℕ → Option ℕ
number_of word = cond (is_number word) (Some (read_on 0 word)) None

abbrev pub put_first : Option ℕ → Option (List ℕ) → Option (List ℕ)
put_first None ns = None
put_first (Some n) None = None
put_first (Some n) (Some ns) = Some (n ∷ ns)

-- a text, where there is one, that is just k numbers with one blank between
abbrev pub numbers_of : ℕ → Option (List ℕ) → Option (List ℕ)
numbers_of zero None = Some []
numbers_of zero (Some text) = None
numbers_of (suc k) None = None
numbers_of (suc k) (Some text) = put_first (number_of (before 32 text)) (numbers_of k (behind 32 text))
