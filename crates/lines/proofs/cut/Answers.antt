use Rattle.std.proofs.Common.{◌≡◌, ◌==◌, position, rules, tests}
use Rattle.std.proofs.lemmas.Iterator.{YieldsList-from_slice}
use Rattle.std.proofs.lemmas.Iterator.Search.{position_from_yields_List}
use Rattle.std.proofs.lemmas.List.{take_rest}
use Rattle.lines.proofs.cut.Goals as goal
use Rattle.lines.proofs.cut.Goals.{After-position}

place : (c : After-position) → c.position.result ≡ position (λ b. b == c.args.mark) c.args.text.now
place c = position_from_yields_List (λ b. b == c.args.mark) _ _ _ c.position.ensures.ran (YieldsList-from_slice c.args.text.now cc) (λ x b q k. search (rules, tests))

pub returns-in-Some : goal.returns-in-Some
returns-in-Some c =
    let e = place (goal.at.returns-in-Some c).After-position in record {
      front = rw (← e, c.in-Some.is);
      rest = rw (← e, c.in-Some.is, take_rest);
    }

pub returns-in-None : goal.returns-in-None
returns-in-None c =
    let e = place (goal.at.returns-in-None c).After-position in record { front = rw (← e, c.in-None.is); rest = rw (← e, c.in-None.is) }
