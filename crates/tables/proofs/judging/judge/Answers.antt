use Rattle.std.proofs.Common.{rules}
use Rattle.tables.proofs.Deciding.{judges}
use Rattle.tables.proofs.judging.judge.Goals as goal

pub returns-then-high-published : goal.returns-then-high-published
returns-then-high-published c = judges _ _ _ _ c.figure-low.result c.figure-high.result _ c.figure-low.ensures c.figure-high.ensures (search rules)

pub returns-then-high-published-2 : goal.returns-then-high-published-2
returns-then-high-published-2 c = judges _ _ _ _ c.figure-low.result c.figure-high.result _ c.figure-low.ensures c.figure-high.ensures (search rules)

pub returns-else-high-published-2 : goal.returns-else-high-published-2
returns-else-high-published-2 c = judges _ _ _ _ c.figure-low.result c.figure-high.result _ c.figure-low.ensures c.figure-high.ensures (search rules)
