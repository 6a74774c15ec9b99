-- A line of hexadecimal, before those behind it. Assumes nothing.
use Rattle.std.proofs.Common.{◌≡◌, ℕ, min, ◌+◌, ◌<◌, ◌≤◌, ◌⊎◌, inl, inr, List, [], ◌∷◌, ◌++◌, length, refl, ap, ◌∙◌, length-append, arith}
use Rattle.std.specs.List.{flat_map}
use Rattle.std.proofs.lemmas.Bool.Decides.{nat_tests}
use Rattle.console.specs.Hex.{hex_of, ending, hex_from, hex_lines}

-- 32 bytes further a line ends where it did
ending_on : (i n : ℕ) → ending (i + 32) (n + 32) ≡ ending i n
ending_on i n = grind (arith, nat_tests)

from_on : (i n : ℕ) (bs : List ℕ) → hex_from (i + 32) (n + 32) bs ≡ hex_from i n bs
from_on i n [] = refl
from_on i n (b ∷ bs) =
    let e : i + 32 + 1 ≡ i + 1 + 32 = omega arith in
    (λ k. hex_of b ++ (ending_on i n k ++ hex_from (e k) (n + 32) bs)) ∙ ap (λ l. hex_of b ++ (ending i n ++ l)) (from_on (i + 1) n bs)

-- none ends within its first 31 bytes before the last of all
none_yet : (i n : ℕ) → i < 31 → i + 1 < n → ending i n ≡ []
none_yet i n few more = grind (arith, nat_tests)

ends : (i n : ℕ) → (i + 1 ≡ n) ⊎ (i ≡ 31) → ending i n ≡ 10 ∷ []
ends i n end = grind (arith, nat_tests)

-- the bytes up to where a line ends
up_to : (i n : ℕ) (bs rest : List ℕ) → 0 < length bs → i + length bs ≤ 32 → i + length bs ≤ n → ((j : ℕ) → j + 1 ≡ i + length bs → ending j n ≡ 10 ∷ []) → hex_from i n (bs ++ rest) ≡ flat_map hex_of bs ++ 10 ∷ hex_from (i + length bs) n rest
up_to i n [] rest some few within end = absurd (omega arith)
up_to i n (b ∷ []) rest some few within end =
    ap (λ e. hex_of b ++ (e ++ hex_from (i + 1) n rest)) (end i refl)
up_to i n (b ∷ c ∷ bs) rest some few within end =
    let on : i + 1 + length (c ∷ bs) ≡ i + length (b ∷ c ∷ bs) = omega arith in
    ap (λ e. hex_of b ++ (e ++ hex_from (i + 1) n (c ∷ bs ++ rest))) (none_yet i n (omega arith) (omega arith)) ∙
    ap (λ l. hex_of b ++ l) (up_to (i + 1) n (c ∷ bs) rest (omega arith) (omega arith) (omega arith) (λ j e. end j (e ∙ on))) ∙
    ap (λ k. hex_of b ++ (flat_map hex_of (c ∷ bs) ++ 10 ∷ hex_from k n rest)) on

-- a whole line, or the last
pub one_line : (bs rest : List ℕ) → length bs ≡ min 32 (length (bs ++ rest)) → 0 < length (bs ++ rest) → hex_lines (bs ++ rest) ≡ flat_map hex_of bs ++ 10 ∷ hex_lines rest
one_line bs [] long some =
    let n = length (bs ++ []) in
    let whole : n ≡ length bs + 0 = length-append bs [] in
    up_to 0 n bs [] (omega arith) (omega arith) (omega arith) (λ j e. ends j n (inl (omega arith)))
one_line bs (r ∷ rest) long some =
    let n = length (bs ++ r ∷ rest) in
    let whole : n ≡ length bs + length (r ∷ rest) = length-append bs (r ∷ rest) in
    let on : 0 + length bs ≡ 0 + 32 = omega arith in
    let behind : n ≡ length (r ∷ rest) + 32 = omega arith in
    up_to 0 n bs (r ∷ rest) (omega arith) (omega arith) (omega arith) (λ j e. ends j n (inr (omega arith))) ∙
    (λ k. flat_map hex_of bs ++ 10 ∷ hex_from (on k) (behind k) (r ∷ rest)) ∙
    ap (λ l. flat_map hex_of bs ++ 10 ∷ l) (from_on 0 (length (r ∷ rest)) (r ∷ rest))
