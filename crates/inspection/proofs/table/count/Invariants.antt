-- What is counted so far and what is left make up the whole.
use Rattle.std.proofs.Common.{◌≡◌, ◌+◌, ◌≤◌, drop}
use Rattle.inspection.specs.Tables.{tally}
use Rattle.inspection.proofs.table.count.Given as goal

abbrev pub invariant-loop-entry : goal.invariant-loop-entry
invariant-loop-entry l =
    (l.pulled ≡ l.entry-index) × (l.good ≤ l.entry-index) × (l.bad ≤ l.entry-index)
    × (l.pulled + (tally (drop l.entry-index l.entries)).pulled ≡ (tally l.entries).pulled)
    × (l.good + (tally (drop l.entry-index l.entries)).good ≡ (tally l.entries).good)
    × (l.bad + (tally (drop l.entry-index l.entries)).bad ≡ (tally l.entries).bad)
