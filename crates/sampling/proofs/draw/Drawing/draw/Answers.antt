-- The cells behind the first are moved where there are some, and then the first.
use Rattle.std.proofs.Common.{false, true, arith}
use Rattle.sampling.proofs.Moves.{partly_one, partly_where, partly_first, first_moves}
use Rattle.sampling.proofs.draw.Drawing.draw.Goals as goal
use Rattle.sampling.proofs.draw.Drawing.draw.Goals.{then-low-gt1, else-low-gt1}
use Rattle.sampling.specs.Rows.{Partly}

pub moved-requires : goal.moved-requires
moved-requires g c =
    let low : Partly false (g.R.DrawRule.meaning c.args.rule.now) c.args.self.frames c.args.self.bad c.args.drawn 1 c.args.low.now c.if-low-gt1.low = elim c.if-low-gt1.branch [
      | then-low-gt1 w ↦ partly_where false _ _ _ _ _ _ _ _ w.low-is w.draw_named.ensures.low_row
      | else-low-gt1 w ↦ partly_one false _ _ _ _ _ _ w.low-is (omega arith)
    ] in
    first_moves _ (g.met.R.DrawRule.lawful c.args.rule.now) _ c.args.self.reel c.args.self.bad _ (omega arith) (omega arith) _ c.requires.low_row
    false _ _ low _ _ (omega arith) (omega arith) c.counts-good.ensures.good c.ways-ways.ensures

pub moved-requires-2 : goal.moved-requires-2
moved-requires-2 g c =
    let high : Partly true (g.R.DrawRule.meaning c.args.rule.now) c.args.self.frames c.args.self.bad c.args.drawn 1 c.args.high.now c.if-low-gt1.high = elim c.if-low-gt1.branch [
      | then-low-gt1 w ↦ partly_where true _ _ _ _ _ _ _ _ w.high-is w.draw_named.ensures.high_row
      | else-low-gt1 w ↦ partly_one true _ _ _ _ _ _ w.high-is (omega arith)
    ] in
    first_moves _ (g.met.R.DrawRule.lawful c.args.rule.now) _ c.args.self.reel c.args.self.bad _ (omega arith) (omega arith) _ c.requires.high_row
    true _ _ high _ _ (omega arith) (omega arith) c.counts-good.ensures.good c.ways-ways.ensures

pub returns : goal.returns
returns g c =
    let low : Partly false (g.R.DrawRule.meaning c.args.rule.now) c.args.self.frames c.args.self.bad c.args.drawn 1 c.args.low.now c.if-low-gt1.low = elim c.if-low-gt1.branch [
      | then-low-gt1 w ↦ partly_where false _ _ _ _ _ _ _ _ w.low-is w.draw_named.ensures.low_row
      | else-low-gt1 w ↦ partly_one false _ _ _ _ _ _ w.low-is (omega arith)
    ] in
    let high : Partly true (g.R.DrawRule.meaning c.args.rule.now) c.args.self.frames c.args.self.bad c.args.drawn 1 c.args.high.now c.if-low-gt1.high = elim c.if-low-gt1.branch [
      | then-low-gt1 w ↦ partly_where true _ _ _ _ _ _ _ _ w.high-is w.draw_named.ensures.high_row
      | else-low-gt1 w ↦ partly_one true _ _ _ _ _ _ w.high-is (omega arith)
    ] in
    record {
      low_row = partly_first false _ _ _ _ _ _ _ _ _ (omega arith) c.counts-good.ensures.good c.ways-ways.ensures c.moved.ensures low;
      high_row = partly_first true _ _ _ _ _ _ _ _ _ (omega arith) c.counts-good.ensures.good c.ways-ways.ensures c.moved-2.ensures high;
    }
