use Rattle.slip.specs.Bytes.{number_bytes}
use Rattle.slip.specs.declared.put.Number.TheVariants.{One}
use Rattle.slip.proofs.Joins.{turn_room, turn, turns_end}
use Rattle.slip.proofs.put.Cursor.numbers.Goals as goal

pub number-requires : goal.number-requires
number-requires c =
    turn_room number_bytes c.args.numbers.now c.loop-number.number-index (One 0) c.loop-number-test.true c.loop-number.invariant c.requires

pub loop-number-preserved : goal.loop-number-preserved
loop-number-preserved c =
    turn number_bytes c.args.numbers.now c.loop-number.number-index (One 0) c.loop-number-test.true c.loop-number.invariant c.number.ensures

pub returns : goal.returns
returns c =
    turns_end number_bytes c.args.numbers.now c.loop-number.number-index c.loop-number-test.false c.loop-number.invariant
