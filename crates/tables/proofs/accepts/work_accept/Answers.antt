use Rattle.std.proofs.Common.{refl, subst}
use Rattle.tables.specs.Verdicts.{Judges}
use Rattle.tables.proofs.Truths.{accept_worked}
use Rattle.tables.proofs.accepts.work_accept.Goals as goal

pub returns : goal.returns
returns c =
    accept_worked c.args.row _ c.judge-probability.result refl c.in_ok-at.ensures c.in_ok-next.ensures c.in_ok-passing.ensures c.greatest-chosen.ensures
    (subst (λ s. Judges s c.args.row.probability c.in_ok-passing.passing.lo c.in_ok-passing.passing.hi c.judge-probability.result) c.scale.ensures.value c.judge-probability.ensures)
    c.and.ensures
