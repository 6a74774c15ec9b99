-- So many draws are made.
use Rattle.std.proofs.Common.{◌-◌}
use Rattle.sampling.specs.Rows.{Moved}
use Rattle.sampling.proofs.draw.Drawing.draw_on.Given as goal

abbrev pub invariant-loop-k : goal.invariant-loop-k
invariant-loop-k g l = Moved (g.R.DrawRule.meaning l.rule) l.self.frames l.self.bad l.drawn (l.k - l.drawn) l.initial.low l.initial.high l.low l.high
