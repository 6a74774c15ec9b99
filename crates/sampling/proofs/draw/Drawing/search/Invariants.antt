-- The rows stand at the size tried last, and what is left to try answers for all.
use Rattle.std.proofs.Common.{◌-◌, length}
use Rattle.sampling.specs.Certifies.{is_within}
use Rattle.sampling.proofs.Searching.{Tried}
use Rattle.sampling.proofs.draw.Drawing.search.Given as goal

abbrev pub invariant-loop-drawn : goal.invariant-loop-drawn
invariant-loop-drawn g l =
    Tried (g.R.DrawRule.meaning l.rule) l.self.frames l.self.bad l.limit (length l.fn.low - 1) l.last l.drawn l.low l.high (is_within l.limit l.before)
