use Rattle.std.proofs.Common.{◌≡◌, ◌++◌, string_bytes}
use Rattle.std.specs.Slice.Iter.{chunks_rest, chunks_size}
use Rattle.console.specs.Hex.{hex_lines}
use Rattle.console.proofs.hex.push_hex_lines.Given as goal

abbrev pub invariant-loop-line : goal.invariant-loop-line
invariant-loop-line l =
    (chunks_size l.line-iterator ≡ 32) × (string_bytes l.out ++ hex_lines (chunks_rest l.line-iterator) ≡ string_bytes l.initial.out ++ hex_lines l.bytes)
