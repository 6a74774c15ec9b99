use Rattle.std.proofs.Common.{◌≡◌, ◌+◌, ◌-◌, ◌*◌, map, rules, tests, ◌∙◌, sym, ap, arith, false-eqb, refl}
use Rattle.std.proofs.lemmas.Iterator.{YieldsList-from_slice}
use Rattle.std.proofs.lemmas.Iterator.Consumers.{fold_from_yields_List, YieldsList-turn, YieldsList-so_far}
use Rattle.std.proofs.lemmas.Iterator.Search.{all_from_yields_List}
use Rattle.std.proofs.lemmas.Fn.{serves_by}
use Rattle.std.proofs.lemmas.List.{map_push}
use Rattle.std.specs.Char.{is_ascii_digit}
use Rattle.std.specs.Str.{all_ascii_digits}
use Rattle.lines.specs.Text.{read_on}
use Rattle.lines.proofs.Digits.{no_digit, digits_all, read_by_fold, read_push, next_digit, fitted}
use Rattle.lines.proofs.number.Goals as goal
use Rattle.lines.proofs.number.Goals.{After-all}

digits : (c : After-all) → c.all.result ≡ all_ascii_digits c.args.word.now
digits c = all_from_yields_List is_ascii_digit _ _ _ c.all.ensures.ran (YieldsList-from_slice c.args.word.now cc) (λ x b q k. search (rules, tests)) ∙ digits_all c.args.word.now

pub returns-then-not-all : goal.returns-then-not-all
returns-then-not-all c = let e = digits (goal.at.returns-then-not-all c).After-all in no_digit c.args.word.now (sym e ∙ c.if-not-all.true)

pub fold-value-requires-clause-callable : goal.fold-value-requires-clause-callable
fold-value-requires-clause-callable c =
    let w = c.args.word.now in
    let e = sym (digits (goal.at.fold-value-requires-clause-callable c).After-all) ∙ c.if-not-all.false in
    serves_by _ (λ xs p. p.1 ≡ read_on 0 (map (λ x. x.now) xs))
    (λ xs q x v h k. rw (map_push (λ x. x.now) xs x, read_push, ← h) (search (rules, tests)))
    _ _ _ _ refl
    (λ xs t q x u y s h.
    let before = YieldsList-so_far (YieldsList-from_slice w cc) xs t y in
    let turn = YieldsList-turn (YieldsList-from_slice w cc) xs t y _ u x refl s in
    let next = next_digit w _ q.1 x.now e c.if-word-gt10.false (h ∙ ap (read_on 0) before) turn.0 turn.1 in
    search (rules, arith))

pub returns : goal.returns
returns c =
    let w = c.args.word.now in
    let e = sym (digits (goal.at.returns c).After-all) ∙ c.if-not-all.false in
    let value = fold_from_yields_List _ (λ v c. v * 10 + (c - 48)) _ _ c.fold-value.ensures.ran (YieldsList-from_slice w cc) (λ a x b q k. search (rules, tests)) in
    let some = false-eqb _ 0 c.if-is_empty.ensures in
    c.ok.ensures.value ∙ fitted w c.try_from.result _ c.try_from.ensures (value ∙ read_by_fold 0 w) (omega arith) c.if-word-gt10.false e
