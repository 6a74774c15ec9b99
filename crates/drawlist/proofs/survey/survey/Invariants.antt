use Rattle.std.proofs.Common.{◌≡◌, ℕ, take, vec_items}
use Rattle.std.specs.BTreeMap.{get}
use Rattle.std.specs.Ordering.{nat_cmp}
use Rattle.drawlist.specs.Surveys.{Surveys, first_naming}
use Rattle.drawlist.proofs.Step.{names_of}
use Rattle.drawlist.proofs.survey.survey.Given as goal

abbrev pub invariant-loop-i : goal.invariant-loop-i
invariant-loop-i l = record {
  so_far : Surveys l.reel (names_of l.reel (take l.i l.lines)) (vec_items l.seen) l.tally;
  firsts : (f : ℕ) → get nat_cmp l.firsts f ≡ first_naming f (names_of l.reel (take l.i l.lines));
}
