use Rattle.std.proofs.Common.{rules, tests, sym, ◌∙◌}
use Rattle.std.proofs.lemmas.Iterator.{YieldsList-from_slice}
use Rattle.std.proofs.lemmas.Iterator.Search.{position_from_yields_List}
use Rattle.drawlist.specs.declared.row.Seen.{Seen}
use Rattle.drawlist.specs.Rows.{naming}
use Rattle.drawlist.specs.Surveys.{names}
use Rattle.drawlist.proofs.Named.{position-map}
use Rattle.drawlist.proofs.survey.first_naming.Goals as goal

pub returns : goal.returns
returns c =
    position_from_yields_List (λ (s : Seen). names c.args.frame (naming s.row)) _ _ _ c.position.ensures.ran (YieldsList-from_slice c.args.seen.now cc) (λ x b q k. search (rules, tests)) ∙
    sym (position-map (names c.args.frame) (λ (s : Seen). naming s.row) c.args.seen.now)
