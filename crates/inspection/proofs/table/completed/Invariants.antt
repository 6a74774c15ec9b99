-- What is counted so far and what is left make up the whole.
use Rattle.std.proofs.Common.{◌≡◌, ◌≤◌, drop}
use Rattle.inspection.specs.Settling.{added, bad_if_marked}
use Rattle.inspection.proofs.table.completed.Given as goal

abbrev pub invariant-loop-entry : goal.invariant-loop-entry
invariant-loop-entry l = (l.bad ≤ l.entry-index) × (added l.bad (bad_if_marked (drop l.entry-index l.entries)) ≡ bad_if_marked l.entries)
