use Rattle.std.proofs.Common.{ℕ, length, arith, rules}
use Rattle.std.proofs.lemmas.Iterator.{YieldsList-from_slice, YieldsList-from_map}
use Rattle.std.proofs.lemmas.Iterator.Consumers.{sum_by_from_yields_List, fits_by_from_yields_list}
use Rattle.std.proofs.lemmas.List.Concat.{length-flat_map}
use Rattle.slip.specs.Bytes.{number_bytes}
use Rattle.slip.specs.declared.put.Number.{Number}
use Rattle.slip.proofs.Joins.{wrote_more, wrote_same}
use Rattle.slip.proofs.put.Cursor.field.Goals as goal

abbrev width : Number → ℕ
width n = length (number_bytes n)

pub sum-width-requires-clause-fits : goal.sum-width-requires-clause-fits
sum-width-requires-clause-fits c =
    let value = c.args.value.now in
    fits_by_from_yields_list width value c.map.result _
    (YieldsList-from_map _ width (YieldsList-from_slice value cc) c.map.ensures.closure (λ x r q k. search rules))
    (omega (arith, length-flat_map number_bytes value, c.requires.small))

pub overflow_cast-width : goal.overflow_cast-width
overflow_cast-width c =
    let value = c.args.value.now in
    let total = sum_by_from_yields_List width value c.map.result c.sum-width.result c.sum-width.ensures.ran (YieldsList-from_map _ width (YieldsList-from_slice value cc) c.map.ensures.closure (λ x r q k. search rules)) in
    let same = length-flat_map number_bytes value in
    search rules

pub returns : goal.returns
returns c =
    let value = c.args.value.now in
    let total = sum_by_from_yields_List width value c.map.result c.sum-width.result c.sum-width.ensures.ran (YieldsList-from_map _ width (YieldsList-from_slice value cc) c.map.ensures.closure (λ x r q k. search rules)) in
    let same = length-flat_map number_bytes value in
    wrote_same (cc) (wrote_more c.numbers.ensures c.numbers-2.ensures)
