use Rattle.std.proofs.Common.{◌+◌, ◌-◌, take, sym, ap, ◌∙◌, arith, length-set}
use Rattle.std.specs.Option.{option_map}
use Rattle.std.proofs.lemmas.List.{take_more_set}
use Rattle.lines.specs.Text.{number_of, numbers_of}
use Rattle.lines.proofs.Row.{after, one_number}
use Rattle.lines.proofs.numbers.Goals as goal

pub loop-slot-preserved : goal.loop-slot-preserved
loop-slot-preserved g c =
    let i = c.loop-slot.slot-index in
    let found = c.loop-slot.slot-items in
    let n = c.in_ok-slot.field-0 in
    let rest = ap (λ o. after (take i found) (numbers_of (g.row.K - i) (option_map (λ x. x.now) o))) c.in_ok-rest.was in
    let one = one_number (g.row.K - i) (g.row.K - (i + 1)) n (take i found) c.in_ok-rest.field-0.now (omega arith) (sym (ap number_of c.cut-word.ensures.front) ∙ sym c.number.ensures ∙ c.in_ok-slot.was) in
    let more = take_more_set found i n (omega arith) in (
      length-set found i n ∙ c.loop-slot.invariant.0,
      c.loop-slot.invariant.1 ∙ rest ∙ one ∙ (λ t. after (sym more t) (numbers_of (g.row.K - (i + 1)) (sym c.cut-word.ensures.rest t))),
    )
