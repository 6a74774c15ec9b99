use Rattle.std.proofs.Common.{◌≡◌, ◌+◌, ◌≤◌, ◌++◌, map, length, string_bytes}
use Rattle.std.specs.Iterator.Adapters.{zip_first, zip_second}
use Rattle.std.specs.Slice.Iter.{iter_rest}
use Rattle.console.specs.Phases.{session_of}
use Rattle.console.specs.Replies.{output_from}
use Rattle.console.specs.Sessions.{fresh}
use Rattle.console.proofs.session.answer_all.Given as goal

-- the line's number and the lines behind it
abbrev pub invariant-loop-line : goal.invariant-loop-line
invariant-loop-line l =
    let line = (zip_first l.line-iterator).start in
    let rest = iter_rest (zip_second l.line-iterator) in
    (line + length rest ≤ 65537) × (string_bytes l.out ++ output_from line (session_of l.session) (map (λ x. x.now) rest) ≡ output_from 1 fresh (map (λ x. x.now) l.lines))
