-- What is not refused is worked out.
use Rattle.std.proofs.Common.{◌+◌, ◌||◌, ltb, length, ap, arith}
use Rattle.std.proofs.lemmas.Grind.{common_steps}
use Rattle.std.proofs.lemmas.List.{places}
use Rattle.plans.specs.Makes.{numbers_of}
use Rattle.sampling.specs.Chances.{no_reel}
use Rattle.sampling.proofs.Promises.{chances, let_through}
use Rattle.sampling.proofs.chance.chance.Goals as goal

pub returns : goal.returns
returns g c =
    let cells = c.ac2-cells.result + 1 in
    chances _ (g.met.R.DrawRule.lawful c.args.rule.now) _ _ (numbers_of c.args.plan) _ _ _ _ _ _ _ _ (let_through (no_reel c.args.reel) _ _ c.in_ok-check_reel.ensures) (omega arith) c.args.plan.agrees (omega arith) (ap (λ n. n + 1) c.ac2-cells.ensures)
    (let_through (ltb (length c.args.low.now) cells || ltb (length c.args.high.now) cells) _ _ c.in_ok-check_rows.ensures) c.work.ensures (grind (arith, common_steps, places)) (grind (arith, common_steps, places))
