-- Which words are numbers, and what a number reads as. Assumes nothing.
use Rattle.std.proofs.Common.{◌≡◌, ℕ, zero, suc, ◌+◌, ◌-◌, ◌*◌, ◌^◌, ◌<◌, ◌≤◌, true, false, ◌&&◌, refl, List, [], ◌∷◌, ◌++◌, length, take, get_or, None, Ok, Err, Result, arith, rules, subst, sym, ◌∙◌}
use Rattle.std.proofs.lemmas.Bool.Decides.{nat_tests}
use Rattle.std.proofs.lemmas.Str.Parse.{IsNumeralModel, numerals_by_fold, tells_all_ascii_digits, digits_value_short, digit_at}
use Rattle.std.proofs.lemmas.List.{get_or_default}
use Rattle.std.proofs.lemmas.List.Recursion.{same_from_clauses}
use Rattle.std.specs.Char.{is_ascii_digit}
use Rattle.std.specs.Int.{IsInRange}
use Rattle.std.specs.List.{list_all, fold}
use Rattle.std.specs.Result.{result_ok, OkIff}
use Rattle.std.specs.Str.{all_ascii_digits}
use Rattle.lines.specs.Text.{read_on, number_of}

own : IsNumeralModel (λ ds. all_ascii_digits ds ≡ true) (read_on 0)
own = numerals_by_fold _ tells_all_ascii_digits read_on (search rules)

pub no_digit : (word : List ℕ) → all_ascii_digits word ≡ false → None ≡ number_of word
no_digit word e = grind (arith, nat_tests)

-- std's two words for a test of each byte
pub digits_all : (word : List ℕ) → list_all is_ascii_digit word ≡ all_ascii_digits word
digits_all word = same_from_clauses (list_all is_ascii_digit) all_ascii_digits (λ c b. is_ascii_digit c && b) refl (λ _ _. refl) (λ _ _. refl) word

pub read_by_fold : (n : ℕ) (word : List ℕ) → fold (λ v c. v * 10 + (c - 48)) n word ≡ read_on n word
read_by_fold n [] = refl
read_by_fold n (c ∷ cs) = read_by_fold (n * 10 + (c - 48)) cs

pub read_push : (n : ℕ) (word : List ℕ) (c : ℕ) → read_on n (word ++ c ∷ []) ≡ read_on n word * 10 + (c - 48)
read_push n [] c = refl
read_push n (b ∷ bs) c = read_push (n * 10 + (b - 48)) bs c

-- more digits make no number less
grows : (n : ℕ) (word : List ℕ) → n ≤ read_on n word
grows n [] = omega arith
grows n (c ∷ cs) = omega (arith, grows (n * 10 + (c - 48)) cs)

so_far : (n i : ℕ) (word : List ℕ) → read_on n (take i word) ≤ read_on n word
so_far n zero word = grows n word
so_far n (suc i) [] = omega arith
so_far n (suc i) (c ∷ cs) = so_far (n * 10 + (c - 48)) i cs

-- the next digit of ten at most, and room for it
pub next_digit : (word : List ℕ) (i n c : ℕ) → all_ascii_digits word ≡ true → length word ≤ 10 → n ≡ read_on 0 (take i word) → i < length word → c ≡ get_or word i c → IsInRange 48 57 c × (n * 10 + 9 < 2 ^ 64)
next_digit word i n c digits few e l is = (
  subst (IsInRange 48 57) (get_or_default word i 0 c l ∙ sym is) (digit_at word i (own.to word digits) l),
  omega (arith, e, so_far 0 i word, digits_value_short own word 10 digits few),
)

-- what becomes of the number that at most ten digits write
pub fitted : {E : Type 0} (word : List ℕ) (r : Result ℕ E) (n : ℕ) → OkIff r (n < 2 ^ 32) n → n ≡ read_on 0 word → 1 ≤ length word → length word ≤ 10 → all_ascii_digits word ≡ true → result_ok r ≡ number_of word
fitted {E} word (Ok n) m h e some few digits = grind (arith, nat_tests)
fitted {E} word (Err x) m h e some few digits = grind (arith, nat_tests)
