-- What is not refused is searched for.
use Rattle.std.proofs.Common.{◌+◌, ◌||◌, ltb, length, sym, ◌∙◌}
use Rattle.sampling.specs.Chances.{no_reel}
use Rattle.sampling.proofs.Promises.{let_through}
use Rattle.sampling.proofs.Truths.{smallests}
use Rattle.sampling.proofs.smallest.smallest.Goals as goal

pub returns : goal.returns
returns g c =
    let cells = c.args.accept + 1 in
    smallests _ (g.met.R.DrawRule.lawful c.args.rule.now) _ _ _ c.args.accept _ _ _ _ _ (let_through (no_reel c.args.reel) _ _ c.in_ok-check_reel.ensures) (sym c.no_tolerance.ensures ∙ c.if-no_tolerance.false) (sym c.no_limit.ensures ∙ c.if-no_limit.false) c.if-accept-gt255.false
    (let_through (ltb (length c.args.low.now) cells || ltb (length c.args.high.now) cells) _ _ c.in_ok-check_rows.ensures) c.search.ensures
