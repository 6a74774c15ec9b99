use Rattle.std.proofs.Common.{take}
use Rattle.slip.specs.Bytes.{bytes_of}
use Rattle.slip.specs.Cursors.{Wrote}
use Rattle.slip.proofs.put.Cursor.numbers.Given as goal

abbrev pub invariant-loop-number : goal.invariant-loop-number
invariant-loop-number l = Wrote l.initial.self (bytes_of (take l.number-index l.numbers)) l.self
