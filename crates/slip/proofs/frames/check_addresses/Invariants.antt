use Rattle.std.proofs.Common.{◌≡◌, drop}
use Rattle.slip.specs.Answers.{all_addressed}
use Rattle.slip.specs.Fields.{bad_frames}
use Rattle.slip.proofs.frames.check_addresses.Given as goal

-- what the entries left say is what all say
abbrev pub invariant-loop-entry : goal.invariant-loop-entry
invariant-loop-entry g l =
    all_addressed (g.S.Scheme.meaning l.scheme) l.reel (bad_frames (drop l.entry-index l.pulled)) ≡ all_addressed (g.S.Scheme.meaning l.scheme) l.reel (bad_frames l.pulled)
