use Rattle.std.proofs.Common.{◌+◌, ◌≤◌, length, refl, arith}
use Rattle.std.proofs.lemmas.List.{length-drop}
use Rattle.slip.proofs.Joins.{copied}
use Rattle.slip.proofs.put.Cursor.bytes.Goals as goal

pub returns : goal.returns
returns c =
    let at = c.args.self.now.at in
    let buffer = c.args.self.now.buffer.now in
    let fits : at + length c.args.bytes.now ≤ length buffer = omega (arith, c.requires, c.args.self.now.inside, length-drop at buffer) in
    let put = copied at buffer c.args.bytes.now c.copy_from_slice.new.self c.copy_from_slice.ensures.after fits in
    record { before = put.0; behind = put.1; same = refl }
