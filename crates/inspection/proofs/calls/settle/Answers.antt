-- The two counts are those of the plan's two samples.
use Rattle.std.proofs.Common.{arith}
use Rattle.std.proofs.lemmas.Grind.{common_steps}
use Rattle.plans.specs.Makes.{numbers_of}
use Rattle.inspection.proofs.Settled.{settling}
use Rattle.inspection.proofs.calls.settle.Goals as goal

pub returns : goal.returns
returns c =
    let settled = settling (numbers_of c.args.plan) c.args.table.now c.args.plan.agrees.3 c.requires in
    grind (arith, common_steps)
