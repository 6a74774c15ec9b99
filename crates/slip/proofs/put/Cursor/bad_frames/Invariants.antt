use Rattle.std.proofs.Common.{◌≡◌, take, drop}
use Rattle.film.specs.Refusals.{given as given-answer}
use Rattle.slip.specs.Answers.{all_addressed}
use Rattle.slip.specs.Cursors.{Wrote}
use Rattle.slip.specs.Fields.{bad_frames}
use Rattle.std.specs.List.{flat_map}
use Rattle.slip.proofs.Addressing.{entry_bytes}
use Rattle.slip.proofs.put.Cursor.bad_frames.Given as goal

-- the entries so far are put, and those left have their addresses
abbrev pub invariant-loop-entry : goal.invariant-loop-entry
invariant-loop-entry g l =
    Wrote l.initial.self (flat_map (entry_bytes (g.S.Scheme.meaning l.scheme)) (take l.entry-index l.pulled)) l.self
    × (all_addressed (g.S.Scheme.meaning l.scheme) l.reel (bad_frames (drop l.entry-index l.pulled)) ≡ given-answer tt)
