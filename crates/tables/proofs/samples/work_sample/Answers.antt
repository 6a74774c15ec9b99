use Rattle.std.proofs.Common.{refl, ap, ◌∙◌, subst}
use Rattle.tables.specs.Verdicts.{Judges, joined}
use Rattle.tables.proofs.Truths.{sample_worked}
use Rattle.tables.proofs.samples.work_sample.Goals as goal

pub returns : goal.returns
returns c =
    sample_worked c.args.row _ c.rest.result c.judge-confidence.result refl c.in_ok-sample.ensures.truly c.in_ok-passing.ensures c.rest.ensures
    (subst (λ s. Judges s c.args.row.confidence c.rest.result.lo c.rest.result.hi c.judge-confidence.result) c.scale.ensures.value c.judge-confidence.ensures)
    (c.and.ensures ∙ ap (λ x. joined x c.judge-confidence.result) c.same.ensures)
