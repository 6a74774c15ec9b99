-- A plan opened on a reel that was noted. Assumes nothing.
use Rattle.std.proofs.Common.{◌≡◌, ℕ, List, ap, ◌∙◌}
use Rattle.film.specs.Refusals.{Refusal, Answer, given, refused}
use Rattle.draws.specs.Names.{rule_of}
use Rattle.draws.specs.declared.entry.Entry.{Entry}
use Rattle.draws.specs.declared.name.RuleName.{RuleName}
use Rattle.inspection.specs.Answers.{open_table}
use Rattle.inspection.specs.Tables.{Held}
use Rattle.console.specs.Begins.{passed, terms_answer, Begins}
use Rattle.console.specs.declared.begin.Terms.{Terms}
use Rattle.console.specs.Sessions.{opened, noted, no, step, begin_answer, begin_step, enclosed_by}
use Rattle.console.specs.declared.request.Reel.{Reel}

module _ (reel : Reel) (table left : List Entry) where
  begin_given : (a : Answer Held) (h : Held) → given h ≡ passed a → left ≡ open_table table (given h) → step (opened reel.rule h) left (enclosed_by h) ≡ begin_step reel table a
  begin_given (given k) h e stands = cc
  begin_given (refused r) h e stands = cc

  begin_refused : (a : Answer Held) (q : Refusal) → refused q ≡ passed a → left ≡ table → step (noted reel) left (no q) ≡ begin_step reel table a
  begin_refused (given k) q e stands = cc
  begin_refused (refused r) q e stands = cc

-- what begin answered in rows of 256 cells, as the step of the line
module _ (reel : Reel) (t : Terms) (low high : ℕ) (table left : List Entry) (few : low ≡ 256) (many : high ≡ 256) where
  at_256 : (answer : Answer Held) → answer ≡ terms_answer (rule_of reel.rule) t low high table → answer ≡ terms_answer (rule_of reel.rule) t 256 256 table
  at_256 answer e = e ∙ (λ i. terms_answer (rule_of reel.rule) t (few i) (many i) table)

  abbrev begun : Answer Held
  begun = begin_answer (rule_of reel.rule) t.number t.reel t.n1 t.ac1 t.re1 t.n2 t.ac2 t.tolerance t.limit 256 256 table

  pub opened_step : (h : Held) (rule : RuleName) → Begins (rule_of reel.rule) t low high table (given h) left → rule ≡ reel.rule → step (opened rule h) left (enclosed_by h) ≡ begin_step reel table begun
  opened_step h rule b e =
      ap (λ r. step (opened r h) left (enclosed_by h)) e ∙ begin_given reel table left begun h (at_256 (given h) b.value) b.table_left

  pub refused_step : (q : Refusal) → Begins (rule_of reel.rule) t low high table (refused q) left → step (noted reel) left (no q) ≡ begin_step reel table begun
  refused_step q b = begin_refused reel table left begun q (at_256 (refused q) b.value) b.table_left
