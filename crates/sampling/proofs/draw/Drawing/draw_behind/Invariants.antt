-- The cells from d on are moved, in both rows, and `good` is the count at the next cell to move.
use Rattle.std.proofs.Common.{◌≡◌, ◌-◌, ◌<◌, false, true}
use Rattle.sampling.specs.Rows.{Partly}
use Rattle.sampling.proofs.draw.Drawing.draw_behind.Given as goal

abbrev pub invariant-loop-d : goal.invariant-loop-d
invariant-loop-d g l =
    let m = g.R.DrawRule.meaning l.rule in
    record {
      some : 0 < l.d;
      low_part : Partly false m l.self.frames l.self.bad l.drawn l.d l.initial.low l.low;
      high_part : Partly true m l.self.frames l.self.bad l.drawn l.d l.initial.high l.high;
      count : l.good ≡ m.good l.self.frames l.self.bad l.drawn (l.d - 1);
    }
