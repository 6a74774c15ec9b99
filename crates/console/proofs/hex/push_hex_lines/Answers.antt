use Rattle.std.proofs.Common.{◌≡◌, ◌++◌, ◌∷◌, [], length, min, string_bytes, sym, ap, ◌∙◌, append_assoc, subst, rules, ◌<◌}
use Rattle.std.specs.List.{flat_map}
use Rattle.std.specs.Slice.Iter.{chunks_rest}
use Rattle.console.specs.Hex.{hex_of, hex_lines}
use Rattle.console.proofs.Lines.{one_line}
use Rattle.console.proofs.hex.push_hex_lines.Goals as goal

pub loop-line-preserved : goal.loop-line-preserved
loop-line-preserved c =
    let out = string_bytes c.loop-line.out in
    let line = c.in-Some.line.now in
    let behind = chunks_rest c.next.new.self in
    let steps = c.in-Some.ensures.steps in
    let here = steps.1.0 in
    let long : length line ≡ min 32 (length (line ++ behind)) = steps.1.1 ∙ (λ k. min (c.loop-line.invariant.0 k) (length (here k))) in
    let some : 0 < length (line ++ behind) = subst (λ n. 0 < n) (ap length here) steps.1.2 in
    let ended : string_bytes c.push.new.self ≡ string_bytes c.push_hex.new.out ++ 10 ∷ [] = search rules in (
      steps.0 ∙ c.loop-line.invariant.0,
      ap (λ o. o ++ hex_lines behind) (ended ∙ ap (λ o. o ++ 10 ∷ []) c.in_ok-push_hex.ensures) ∙
          append_assoc (out ++ flat_map hex_of line) (10 ∷ []) (hex_lines behind) ∙
          append_assoc out (flat_map hex_of line) (10 ∷ hex_lines behind) ∙
          ap (λ l. out ++ l) (sym (one_line line behind long some) ∙ ap hex_lines (sym here)) ∙
          c.loop-line.invariant.1,
    )
