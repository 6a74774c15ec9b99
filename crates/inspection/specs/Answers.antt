-- What each call of an inspection answers, and what it leaves. Assumes nothing.
use Rattle.std.specs.Prelude.{◌≡◌, ℕ, ◌+◌, ◌≤◌, Bool, true, cond, ◌&&◌, List, ◌++◌, length, drop, replicate, codes, ◌==◌, nat_le, nat_lt, slice_index_or, slice_set}
use Rattle.film.specs.Refusals.{Refusal, Answer, given, refused, refuse}
use Rattle.film.specs.Schemes.{SchemeMeaning, located}
use Rattle.film.specs.declared.address.Address.{Address}
use Rattle.draws.specs.Draws.{DrawMeaning}
use Rattle.draws.specs.Entries.{state_of, frame_of}
use Rattle.draws.specs.declared.entry.Entry.{Entry}
use Rattle.sampling.specs.Certified.{CertifiedNumbers}
use Rattle.inspection.specs.Tables.{Held, size_of, ticket_reel, ticket_place, ticket_frame, blank, sent_out, with_state, state_for, is_out, counts_of, drawn_of, table_standing}
use Rattle.inspection.specs.Settling.{settled_by}
use Rattle.inspection.specs.declared.report.Counts.{Counts}
use Rattle.inspection.specs.declared.ticket.Mark.{Mark}
use Rattle.inspection.specs.declared.ticket.Stub.{Stub}

-- what holds of a value that is given
abbrev pub when_given : {A : Type 0} → Answer A → (A → Type 0) → Type 0
when_given (given v) P = P v
when_given (refused r) P = Unit {0}

-- the table has fewer entries than are needed
abbrev pub or_short : {A : Type 0} → (size : ℕ) → List Entry → Answer A → Answer A
or_short size table answer = cond (nat_lt (length table) size) (refuse 41 size (codes "I")) answer

-- open: nothing is pulled yet
abbrev pub open_answer : (number : ℕ) → CertifiedNumbers → List Entry → Answer Held
open_answer number c table = or_short (size_of c) table (given (record { number = number; terms = c; standing = 0 }))

-- as many entries as both samples take are emptied
abbrev pub open_table : List Entry → Answer Held → List Entry
open_table table (refused r) = table
open_table table (given h) = replicate (size_of h.terms) blank ++ drop (size_of h.terms) table

-- no frame is pulled in a standing that is settled, nor more than the samples up to this one take
abbrev pub no_more : Held → (pulled : ℕ) → Bool
no_more h pulled =
    cond (h.standing == 0) (nat_le h.terms.plan.n1 pulled)
    (cond (h.standing == 3) (nat_le (size_of h.terms) pulled) true)

-- a lower layer's refusal, passed on
abbrev pub carried : Refusal → Refusal
carried r = record { number = r.number; place = r.place; layers = r.layers ++ codes "I" }

-- the rule is asked about the frame that was located
abbrev pub asked : DrawMeaning → Held → List Entry → Answer ℕ → Answer Stub
asked m h table (refused r) = refused (carried r)
asked m h table (given frame) =
    cond (m.follows h.terms.N (drawn_of h table) frame)
    (given (record { reel = h.number; place = (counts_of h table).pulled; frame = frame }))
    (refuse 43 frame (codes "I"))

abbrev pub pull_answer : DrawMeaning → SchemeMeaning → Held → List Entry → Address → Answer Stub
pull_answer m s h table a =
    or_short (size_of h.terms) table
    (cond (no_more h (counts_of h table).pulled) (refuse 42 (counts_of h table).pulled (codes "I"))
    (asked m h table (located s h.terms.N a)))

-- the next entry is filled
abbrev pub pull_table : List Entry → Answer Stub → List Entry
pull_table table (refused r) = table
pull_table table (given t) = slice_set table (ticket_place t) (sent_out (ticket_frame t))

-- the ticket is of this reel and of the frame that stands at its place
abbrev pub belongs : (number size : ℕ) → List Entry → Stub → Bool
belongs number size table t =
    (ticket_reel t == number)
    && (nat_lt (ticket_place t) size && frame_of (slice_index_or table (ticket_place t) blank) == ticket_frame t)

abbrev pub mark_check : (number size : ℕ) → List Entry → Stub → Answer (Unit {0})
mark_check number size table t =
    or_short size table
    (cond (belongs number size table t)
    (cond (is_out (state_of (slice_index_or table (ticket_place t) blank))) (given tt) (refuse 45 (ticket_place t) (codes "I")))
    (refuse 44 (ticket_place t) (codes "I")))

abbrev pub mark_answer : Held → List Entry → Stub → Answer (Unit {0})
mark_answer h table t = mark_check h.number (size_of h.terms) table t

-- the entry is marked
abbrev pub mark_table : List Entry → Stub → Mark → Answer (Unit {0}) → List Entry
mark_table table t mark (refused r) = table
mark_table table t mark (given done) = slice_set table (ticket_place t) (with_state (slice_index_or table (ticket_place t) blank) (state_for mark))

-- PASS and REJECT stay; any other standing becomes what the table now gives
abbrev pub moved_on : Held → (now : List Entry) → ℕ
moved_on h now = settled_by h.standing (table_standing h.terms.plan now)

abbrev pub mark_held : Held → (now : List Entry) → Answer (Unit {0}) → Held
mark_held h now (refused r) = h
mark_held h now (given done) = record { number = h.number; terms = h.terms; standing = moved_on h now }

-- what standing reports
pub record Reported : Type 0 where
  pub code : ℕ
  pub counts : Counts

-- the good and the bad are among the pulled, of which there are no more than the largest plan takes
abbrev pub Few : Reported → Type 0
Few r = (r.counts.pulled ≤ 32768) × (r.counts.good + r.counts.bad ≤ r.counts.pulled)

abbrev pub standing_answer : Held → List Entry → Answer Reported
standing_answer h table = or_short (size_of h.terms) table (given (record { code = h.standing; counts = counts_of h table }))

-- what the calls promise: open,
pub record Opens (number : ℕ) (c : CertifiedNumbers) (table : List Entry) (answer : Answer Held) (left : List Entry) : Type 0 where
  pub value : answer ≡ open_answer number c table
  pub table_left : left ≡ open_table table answer

-- pull, which leaves the inspection as it was,
pub record Pulls (m : DrawMeaning) (s : SchemeMeaning) (h : Held) (table : List Entry) (a : Address) (answer : Answer Stub) (left : List Entry) : Type 0 where
  pub value : answer ≡ pull_answer m s h table a
  pub table_left : left ≡ pull_table table answer

-- mark,
pub record Marks (h : Held) (table : List Entry) (t : Stub) (mark : Mark) (answer : Answer (Unit {0})) (after : Held) (left : List Entry) : Type 0 where
  pub value : answer ≡ mark_answer h table t
  pub table_left : left ≡ mark_table table t mark answer
  pub held_left : after ≡ mark_held h left answer

-- standing, which changes nothing,
pub record Stands (h : Held) (table : List Entry) (answer : Answer Reported) : Type 0 where
  pub value : answer ≡ standing_answer h table

-- and tear, which is handed a ticket alone
pub record Tears (t : Stub) (numbers : Stub) : Type 0 where
  pub value : numbers ≡ t
