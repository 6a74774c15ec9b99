-- The sums are those of the rows moved on, and stay small.
use Rattle.std.proofs.Common.{false, true, ◌∙◌, arith}
use Rattle.sampling.proofs.Samples.{summed}
use Rattle.sampling.proofs.draw.Drawing.sample.Goals as goal

pub total-requires : goal.total-requires
total-requires g c =
    let r = c.requires.ready in
    let low = summed false _ _ _ (g.met.R.DrawRule.lawful c.args.rule.now) c.args.self.reel _ _ _ _ _ r.draws r.few_draws r.low_row c.requires.accepted c.draw_on.ensures.low_row in
    omega arith

pub total-requires-2 : goal.total-requires-2
total-requires-2 g c =
    let r = c.requires.ready in
    let high = summed true _ _ _ (g.met.R.DrawRule.lawful c.args.rule.now) c.args.self.reel _ _ c.args.accept _ _ r.draws r.few_draws r.high_row (omega arith) c.draw_on.ensures.high_row in
    omega arith

pub returns : goal.returns
returns g c =
    let r = c.requires.ready in
    let low = summed false _ _ _ (g.met.R.DrawRule.lawful c.args.rule.now) c.args.self.reel _ _ _ _ _ r.draws r.few_draws r.low_row c.requires.accepted c.draw_on.ensures.low_row in
    let high = summed true _ _ _ (g.met.R.DrawRule.lawful c.args.rule.now) c.args.self.reel _ _ c.args.accept _ _ r.draws r.few_draws r.high_row (omega arith) c.draw_on.ensures.high_row in
    record { moved = c.draw_on.ensures; low_sum = c.total.ensures ∙ low.0; high_sum = c.total-2.ensures ∙ high.0; low_fits = omega arith; high_fits = omega arith }
