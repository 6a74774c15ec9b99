use Rattle.std.proofs.Common.{◌≡◌, ◌+◌, ◌-◌, true, false, eqb, List, ℕ, [], ◌∷◌, length, take, drop, Some, None, Option, Bor, unwrap_or, sym, ap, ◌∙◌}
use Rattle.std.specs.Cmp.Lexicographic.{pointwise}
use Rattle.std.specs.Option.{MatchOption}
use Rattle.lines.specs.Text.{without_end}
use Rattle.lines.proofs.Lines.{end_taken, end_lacking}
use Rattle.lines.proofs.without_end.Goals as goal

-- what is left where the suffix was taken off, or else the line
left : (o : Option (Bor (List ℕ))) (line : Bor (List ℕ)) → MatchOption o (pointwise eqb (drop (length line.now - 1) line.now) (10 ∷ []) ≡ false) (λ x. (pointwise eqb (drop (length line.now - 1) line.now) (10 ∷ []) ≡ true) × (x.now ≡ take (length line.now - 1) line.now) × (length x.now + 1 ≡ length line.now)) → (unwrap_or o line).now ≡ without_end line.now
left None line e = sym (end_lacking line.now e)
left (Some x) line h = h.1 ∙ sym (end_taken line.now h.0)

pub returns : goal.returns
returns c = ap (λ x. x.now) c.unwrap_or.ensures ∙ left c.strip_suffix.result c.args.line c.strip_suffix.ensures.cases
