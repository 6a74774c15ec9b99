-- The good and the bad are among the pulled, and these among the entries of both samples.
use Rattle.std.proofs.Common.{arith}
use Rattle.inspection.proofs.Shapes.{tally_few}
use Rattle.inspection.proofs.calls.Inspection.standing.Goals as goal

pub returns-clause-few : goal.returns-clause-few
returns-clause-few g c =
    let few = tally_few c.in_ok-entries.field-0.now in
    rw c.count.ensures (omega (arith, c.in_ok-entries.ensures), few.1)
