-- A cell that accepts or rejects is cleared, any other kept.
use Rattle.std.proofs.Common.{arith, rules}
use Rattle.std.proofs.lemmas.List.{places}
use Rattle.sampling.proofs.Overlays.{cleared_both}
use Rattle.sampling.proofs.rows.clear.Goals as goal

pub returns : goal.returns
returns c =
    cleared_both c.args.accept c.args.reject _ _ _ _ _ _ _ c.requires.0 c.requires.1 (omega arith) (omega arith) (c.fill.ensures.after (λ y h. search rules)) (search (rules, places)) (c.fill-2.ensures.after (λ y h. search rules)) (search (rules, places))
