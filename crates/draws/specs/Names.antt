-- The rules by name and by code. Assumes nothing.
use Rattle.std.specs.Prelude.{ℕ, cond, List, ◌++◌, Some, None, codes, decimal, Option, Result, ◌==◌}
use Rattle.std.specs.Option.{ok_or}
use Rattle.draws.specs.Draws.{DrawMeaning, Lawful}
use Rattle.draws.specs.Rules.{with_replacement, without_replacement}
use Rattle.draws.specs.Without as without
use Rattle.draws.specs.With as again
use Rattle.draws.specs.declared.name.RuleName.{RuleName}
use Rattle.draws.specs.declared.name.RuleName.TheVariants.{Without, With}
use Rattle.draws.specs.declared.name.UnknownRule.{UnknownRule}

abbrev pub rule_of : RuleName → DrawMeaning
rule_of Without = without_replacement
rule_of With = with_replacement

abbrev pub rule_named : ℕ → Option RuleName
rule_named code = cond (code == 1) (Some Without) (cond (code == 2) (Some With) None)

abbrev pub rule_by : ℕ → Result RuleName UnknownRule
rule_by code = ok_or (rule_named code) (record { code = code })

-- either is lawful
pub rule_lawful : (name : RuleName) → Lawful (rule_of name)
rule_lawful Without = without.lawful
rule_lawful With = again.lawful

-- as it is printed
abbrev pub unknown_rule_text : UnknownRule → List ℕ
unknown_rule_text unknown = codes "no rule " ++ decimal unknown.code
