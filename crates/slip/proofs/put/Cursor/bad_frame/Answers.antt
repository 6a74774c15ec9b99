use Rattle.std.proofs.Common.{◌<◌, rules}
use Rattle.slip.proofs.Addressing.{reached, part_small}
use Rattle.slip.proofs.Joins.{wrote_same}
use Rattle.slip.proofs.put.Cursor.bad_frame.Goals as goal

pub overflow_cast-value : goal.overflow_cast-value
overflow_cast-value g c =
    let there = reached (g.S.Scheme.meaning c.args.scheme.now) c.args.reel c.args.frame c.in-Ok.address c.in-Ok.ensures.value in
    let small : c.in-Ok.address.part < 256 = part_small (g.S.Scheme.meaning c.args.scheme.now) (g.met.S.Scheme.lawful c.args.scheme.now) c.args.frame c.in-Ok.address there in
    search rules

pub returns : goal.returns
returns g c =
    let there = reached (g.S.Scheme.meaning c.args.scheme.now) c.args.reel c.args.frame c.in-Ok.address c.in-Ok.ensures.value in
    let same = there.same in
    wrote_same (cc) c.field.ensures
