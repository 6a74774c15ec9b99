use Rattle.std.proofs.Common.{List, ℕ, rules, tests, subst, map-id}
use Rattle.std.proofs.lemmas.Iterator.{YieldsList, YieldsList-from_map_by}
use Rattle.std.proofs.lemmas.Iterator.Consumers.{map_from_collect, YieldsList-at}
use Rattle.lines.specs.Text.{lines_of}
use Rattle.lines.proofs.Lines.{lines_cut}
use Rattle.lines.proofs.split_lines.Goals as goal

pub returns : goal.returns
returns c =
    map_from_collect _ c.collect.ensures.ran
    (subst (YieldsList _ _ _) (map-id (lines_of c.args.text.now))
    (YieldsList-from_map_by _ (λ x. x.now) (λ (l : List ℕ). l)
    (YieldsList-at c.map.ensures.source (lines_cut _ c.args.text.now c.split_inclusive.ensures.rest c.split_inclusive.ensures.closure (λ x b q k. search (rules, tests))))
    c.map.ensures.closure (λ x r q k. search rules)))
