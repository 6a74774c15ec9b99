-- What an inspection holds, and how its pull table reads. Assumes nothing.
use Rattle.std.specs.Prelude.{ℕ, suc, ◌+◌, Bool, true, false, List, [], ◌∷◌, map, take}
use Rattle.draws.specs.Entries.{state_of, frames_of}
use Rattle.draws.specs.declared.entry.State.{State}
use Rattle.draws.specs.declared.entry.State.TheVariants.{Empty, Out, Good, Bad}
use Rattle.draws.specs.declared.entry.Entry.{Entry}
use Rattle.plans.specs.Plans.{PlanNumbers, samples_of}
use Rattle.plans.specs.Standings.{standing}
use Rattle.sampling.specs.Certified.{CertifiedNumbers}
use Rattle.inspection.specs.declared.report.Counts.{Counts}
use Rattle.inspection.specs.declared.report.Standing.{Standing}
use Rattle.inspection.specs.declared.report.Standing.TheVariants.{Open, Pass, Reject, Second}
use Rattle.inspection.specs.declared.ticket.Mark.{Mark}
use Rattle.inspection.specs.declared.ticket.Mark.TheVariants.{Good as GoodMark, Bad as BadMark}
use Rattle.inspection.specs.declared.ticket.Stub.{Stub}

-- the standings' codes
abbrev pub standing_code : Standing → ℕ
standing_code Open = 0
standing_code Pass = 1
standing_code Reject = 2
standing_code Second = 3

-- what an inspection holds beside its rule: the reel's number, the certified plan's numbers, and the standing's code
pub record Held : Type 0 where
  pub number : ℕ
  pub terms : CertifiedNumbers
  pub standing : ℕ

-- how many entries of the table both samples take
abbrev pub size_of : CertifiedNumbers → ℕ
size_of c = c.plan.n1 + c.plan.n2

-- what a ticket carries
abbrev pub ticket_reel : Stub → ℕ
ticket_reel t = t.reel

abbrev pub ticket_place : Stub → ℕ
ticket_place t = t.place

abbrev pub ticket_frame : Stub → ℕ
ticket_frame t = t.frame

-- an entry with nothing pulled, one whose frame is with a viewer, and one whose state is another
abbrev pub blank : Entry
blank = record { frame = 0; state = Empty }

abbrev pub sent_out : (frame : ℕ) → Entry
sent_out frame = record { frame = frame; state = Out }

abbrev pub with_state : Entry → State → Entry
with_state e state = record { frame = e.frame; state = state }

abbrev pub state_for : Mark → State
state_for GoodMark = Good
state_for BadMark = Bad

abbrev pub is_out : State → Bool
is_out Empty = false
is_out Out = true
is_out Good = false
is_out Bad = false

abbrev pub is_good : State → Bool
is_good Empty = false
is_good Out = false
is_good Good = true
is_good Bad = false

-- one entry's part in the counts, before those behind it; nothing behind an empty entry counts
abbrev pub counted : State → Counts → Counts
counted Empty behind = record { pulled = 0; good = 0; bad = 0 }
counted Out behind = record { pulled = suc behind.pulled; good = behind.good; bad = behind.bad }
counted Good behind = record { pulled = suc behind.pulled; good = suc behind.good; bad = behind.bad }
counted Bad behind = record { pulled = suc behind.pulled; good = behind.good; bad = suc behind.bad }

-- the entries before the first empty one, and of these the good and the bad
abbrev pub tally : List Entry → Counts
tally [] = record { pulled = 0; good = 0; bad = 0 }
tally (e ∷ es) = counted (state_of e) (tally es)

-- the counts of an inspection: those of as many entries as both samples take
abbrev pub counts_of : Held → List Entry → Counts
counts_of h table = tally (take (size_of h.terms) table)

-- the frames of its pulled entries, in order
abbrev pub drawn_of : Held → List Entry → List ℕ
drawn_of h table = frames_of (take (counts_of h table).pulled table)

-- the standing that as many entries as both samples take give by the two-stage rule
unfoldable pub table_standing : PlanNumbers → List Entry → ℕ
table_standing p table = standing (samples_of p) (map state_of (take (p.n1 + p.n2) table))
