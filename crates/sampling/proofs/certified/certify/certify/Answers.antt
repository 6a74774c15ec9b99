-- What keeps the limit is certified.
use Rattle.std.proofs.Common.{sym, ◌∙◌}
use Rattle.plans.specs.Makes.{numbers_of}
use Rattle.sampling.proofs.Certifying.{certifies}
use Rattle.sampling.proofs.certified.certify.certify.Goals as goal

pub returns-clause-promise : goal.returns-clause-promise
returns-clause-promise g c =
    certifies _ (g.met.R.DrawRule.lawful c.args.rule) _ _ _ (numbers_of c.args.plan) _ _ _ _ _ (sym c.no_tolerance.ensures ∙ c.if-no_tolerance.false) (sym c.no_limit.ensures ∙ c.if-no_limit.false) c.args.plan.agrees c.in_ok-ends.ensures c.if-not-within.ensures c.if-not-within-2.ensures
