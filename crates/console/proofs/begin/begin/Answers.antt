use Rattle.std.proofs.Common.{refl, rules}
use Rattle.inspection.specs.Readings.{held_of}
use Rattle.console.proofs.Provings.{proved_from}
use Rattle.console.proofs.begin.begin.Goals as goal

pub returns-clause-answer : goal.returns-clause-answer
returns-clause-answer g c =
    let certifies = c.in_ok-certified.ensures in
    let opens = c.in_ok-open.ensures in
    record {
      value = search rules;
      table_left = opens.answer.table_left;
      proved = proved_from g.R.DrawRule.meaning _ _ certifies.kept (g.met.R.DrawRule.lawful _) _ _ _ _ (held_of c.in_ok-open.field-0) opens.answer.value (certifies.promise.certified _ refl) opens.runs opens.share;
    }
