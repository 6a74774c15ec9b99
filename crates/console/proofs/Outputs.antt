-- The output of a whole input. Assumes nothing.
use Rattle.std.proofs.Common.{◌≡◌, ℕ, suc, ◌<◌, ◌≤◌, eqb, List, [], ◌∷◌, ◌++◌, length, take, IfOk, string_bytes, Result, String, sym, ap, ◌∙◌, ⊎_elim, arith}
use Rattle.std.proofs.lemmas.Result.{IfOk-weaker}
use Rattle.std.proofs.lemmas.List.{length-take-le, take_all}
use Rattle.std.proofs.lemmas.Bool.{cases_lt, cond-true, cond-false, cond_both, lt-ltb, le-ltb}
use Rattle.film.specs.Refusals.{refusal_text}
use Rattle.lines.specs.Text.{lines_of, lengthened}
use Rattle.console.specs.Faults.{console_text}
use Rattle.console.specs.declared.fault.ConsoleFault.TheVariants.{TooLong}
use Rattle.console.specs.Replies.{newline, output_from, output_of, too_long}
use Rattle.console.specs.Sessions.{fresh}
use Rattle.console.proofs.Texts.{text_is}

-- a line takes a byte at least
lengthened_few : (b : ℕ) (ls : List (List ℕ)) → length (lengthened b ls) ≤ suc (length ls)
lengthened_few b [] = omega arith
lengthened_few b (l ∷ ls) = omega arith

pub lines_few : (text : List ℕ) → length (lines_of text) ≤ length text
lines_few [] = omega arith
lines_few (b ∷ bs) =
    let P : List (List ℕ) → Type 0 = λ ls. length ls ≤ length (b ∷ bs) in
    cond_both (eqb b 10) ([] ∷ lines_of bs) (lengthened b (lines_of bs)) P (λ _. omega (arith, lines_few bs)) (λ _. omega (arith, lines_few bs, lengthened_few b (lines_of bs)))

too_long_output : (input : List ℕ) → 65536 < length input → console_text TooLong ++ newline ≡ output_of input
unfolding output_of
too_long_output input h =
    ap (λ l. l ++ newline) (text_is TooLong) ∙ sym (cond-true _ (refusal_text too_long ++ newline) _ (lt-ltb 65536 (length input) h))

-- what tells that an input is too long is all its output
pub too_long_told : {Z E : Type 0} (r : Result (String Z) E) (input : List ℕ) → IfOk r (λ out. string_bytes out ≡ console_text TooLong ++ newline) → 65536 < length input → IfOk r (λ out. string_bytes out ≡ output_of input)
too_long_told r input told h = IfOk-weaker r _ _ (λ out e. e ∙ too_long_output input h) told

pub whole_output : (input : List ℕ) (lines : List (List ℕ)) → length input ≤ 65536 → lines ≡ lines_of input → output_from 1 fresh lines ≡ output_of input
unfolding output_of
whole_output input lines h l =
    ap (output_from 1 fresh) l ∙ sym (cond-false _ (refusal_text too_long ++ newline) _ (le-ltb 65536 (length input) h))

-- one byte more than is read tells that an input is too long
pub enough : (input : List ℕ) → output_of (take 65537 input) ≡ output_of input
enough input =
    ⊎_elim
    (λ lt. sym (too_long_output (take 65537 input) (omega (arith, length-take-le 65537 input (omega arith)))) ∙ too_long_output input (omega arith))
    (λ le. ap output_of (take_all 65537 input le))
    (cases_lt 65537 (length input))
