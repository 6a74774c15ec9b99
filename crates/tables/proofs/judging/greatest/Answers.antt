use Rattle.std.proofs.Common.{rules}
use Rattle.tables.proofs.Deciding.{chooses}
use Rattle.tables.proofs.judging.greatest.Goals as goal

pub returns-then-not-within : goal.returns-then-not-within
returns-then-not-within c = chooses c.args.limit c.args.at c.args.next _ (search rules)

pub returns-then-within-2 : goal.returns-then-within-2
returns-then-within-2 c = chooses c.args.limit c.args.at c.args.next _ (search rules)
