-- Each cell behind the first is moved as the working has it, and nothing wraps.
use Rattle.std.proofs.Common.{◌-◌, false, true, arith}
use Rattle.sampling.proofs.Moves.{partly_none, partly_behind, partly_down, brought_fits, behind_moves}
use Rattle.sampling.proofs.draw.Drawing.draw_behind.Goals as goal

pub loop-d-init : goal.loop-d-init
loop-d-init g c =
    let r = c.requires in
    record { some = omega arith; low_part = partly_none false _ _ _ _ _ _ (omega arith); high_part = partly_none true _ _ _ _ _ _ (omega arith); count = c.counts-good.ensures.good }

pub overflow_mul-low : goal.overflow_mul-low
overflow_mul-low g c =
    let r = c.requires in
    record {
      fits = brought_fits _ (g.met.R.DrawRule.lawful c.args.rule.now) _ c.args.self.reel c.args.self.bad _ (omega arith) (omega arith) _ r.low_row
          false _ _ c.loop-d.invariant.low_part (c.loop-d.d - 1 - 1) _ (omega arith) (omega arith) c.counts-before.ensures.bad;
    }

pub moved-requires : goal.moved-requires
moved-requires g c =
    let r = c.requires in
    behind_moves _ (g.met.R.DrawRule.lawful c.args.rule.now) _ c.args.self.reel c.args.self.bad _ (omega arith) (omega arith) _ r.low_row
    false _ _ c.loop-d.invariant.low_part (c.loop-d.d - 1) (c.loop-d.d - 1 - 1) _ _ _ (omega arith) (omega arith) (omega arith) c.loop-d.invariant.count c.counts-before.ensures.bad c.ways-ways.ensures

pub overflow_mul-high : goal.overflow_mul-high
overflow_mul-high g c =
    let r = c.requires in
    record {
      fits = brought_fits _ (g.met.R.DrawRule.lawful c.args.rule.now) _ c.args.self.reel c.args.self.bad _ (omega arith) (omega arith) _ r.high_row
          true _ _ c.loop-d.invariant.high_part (c.loop-d.d - 1 - 1) _ (omega arith) (omega arith) c.counts-before.ensures.bad;
    }

pub moved-requires-in-loop-d : goal.moved-requires-in-loop-d
moved-requires-in-loop-d g c =
    let r = c.requires in
    behind_moves _ (g.met.R.DrawRule.lawful c.args.rule.now) _ c.args.self.reel c.args.self.bad _ (omega arith) (omega arith) _ r.high_row
    true _ _ c.loop-d.invariant.high_part (c.loop-d.d - 1) (c.loop-d.d - 1 - 1) _ _ _ (omega arith) (omega arith) (omega arith) c.loop-d.invariant.count c.counts-before.ensures.bad c.ways-ways.ensures

pub loop-d-preserved : goal.loop-d-preserved
loop-d-preserved g c =
    let r = c.requires in
    record {
      some = omega arith;
      low_part = partly_behind false _ _ _ _ _ c.loop-d.d (c.loop-d.d - 1) (c.loop-d.d - 1 - 1) _ _ _ _ _ (omega arith) (omega arith) (omega arith) c.loop-d.invariant.count c.counts-before.ensures.bad c.ways-ways.ensures c.moved.ensures c.loop-d.invariant.low_part;
      high_part = partly_behind true _ _ _ _ _ c.loop-d.d (c.loop-d.d - 1) (c.loop-d.d - 1 - 1) _ _ _ _ _ (omega arith) (omega arith) (omega arith) c.loop-d.invariant.count c.counts-before.ensures.bad c.ways-ways.ensures c.moved-in-loop-d.ensures c.loop-d.invariant.high_part;
      count = c.counts-before.ensures.good;
    }

pub returns : goal.returns
returns g c =
    let r = c.requires in
    record {
      low_row = partly_down false _ _ _ _ _ _ _ (omega arith) c.loop-d.invariant.low_part;
      high_row = partly_down true _ _ _ _ _ _ _ (omega arith) c.loop-d.invariant.high_part;
    }
