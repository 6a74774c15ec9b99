-- One draw more.
use Rattle.std.proofs.Common.{◌+◌, ◌-◌, false, true, arith}
use Rattle.sampling.proofs.Phases.{none_drawn, drawn_more, draws_roomy}
use Rattle.sampling.proofs.draw.Drawing.draw_on.Goals as goal

pub loop-k-init : goal.loop-k-init
loop-k-init g c = record { low_row = none_drawn false _ _ _ _ _ _ (omega arith); high_row = none_drawn true _ _ _ _ _ _ (omega arith) }

pub draw-requires : goal.draw-requires
draw-requires g c =
    let law = g.met.R.DrawRule.lawful c.args.rule.now in
    record {
      draws = omega arith;
      few_draws = omega arith;
      same_cells = omega arith;
      low_row = draws_roomy _ law _ c.args.self.reel c.args.self.bad false c.args.drawn (c.loop-k.k - c.args.drawn) c.loop-k.k _ _ (omega arith) (omega arith) c.requires.low_row c.loop-k.invariant.low_row;
      high_row = draws_roomy _ law _ c.args.self.reel c.args.self.bad true c.args.drawn (c.loop-k.k - c.args.drawn) c.loop-k.k _ _ (omega arith) (omega arith) c.requires.high_row c.loop-k.invariant.high_row;
    }

pub loop-k-preserved : goal.loop-k-preserved
loop-k-preserved g c =
    let i = c.loop-k.k - c.args.drawn in
    record {
      low_row = drawn_more false _ _ _ c.args.drawn c.loop-k.k i (c.loop-k.k + 1 - c.args.drawn) _ _ _ _ (omega arith) (omega arith) c.loop-k.invariant.low_row c.draw.ensures.low_row;
      high_row = drawn_more true _ _ _ c.args.drawn c.loop-k.k i (c.loop-k.k + 1 - c.args.drawn) _ _ _ _ (omega arith) (omega arith) c.loop-k.invariant.high_row c.draw.ensures.high_row;
    }
