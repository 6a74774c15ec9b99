use Rattle.plans.specs.Makes.{numbers_of}
use Rattle.tables.proofs.Truths.{one_sample, enclosed_single}
use Rattle.tables.proofs.single.enclose.Goals as goal

pub returns : goal.returns
returns g c =
    enclosed_single _ (g.met.R.DrawRule.lawful c.args.rule.now) _ _ (numbers_of c.in_ok-plan.plan) _ _ _ _ _ _ _
    (one_sample c.args.size c.args.accept c.saturating_add.result (numbers_of c.in_ok-plan.plan) c.in_ok-plan.ensures)
    c.in_ok-chance.ensures
