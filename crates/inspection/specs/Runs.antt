-- Runs of calls on an inspection and its table, and what holds after every run. Assumes nothing.
use Rattle.std.specs.Prelude.{◌≡◌, ℕ, ◌+◌, Bool, true, false, not, ◌||◌, ◌⊎◌, List, [], ◌∷◌, ◌++◌, take, ◌==◌}
use Rattle.film.specs.Refusals.{Answer, given, refused}
use Rattle.film.specs.Schemes.{SchemeMeaning}
use Rattle.film.specs.declared.address.Address.{Address}
use Rattle.draws.specs.Counting.{count_in}
use Rattle.draws.specs.Draws.{DrawMeaning, Allowed}
use Rattle.draws.specs.Entries.{state_of}
use Rattle.draws.specs.declared.entry.Entry.{Entry}
use Rattle.inspection.specs.Tables.{Held, ticket_place, ticket_frame, is_out, drawn_of}
use Rattle.inspection.specs.Answers.{Reported, standing_answer, Pulls, Marks, Stands, Tears}
use Rattle.inspection.specs.declared.ticket.Mark.{Mark}
use Rattle.inspection.specs.declared.ticket.Mark.TheVariants.{Good, Bad}
use Rattle.inspection.specs.declared.ticket.Stub.{Stub}

-- what was accepted: a pull, with the ticket that it answered, or a mark, with the ticket that it took
pub data Event : Type 0 where
  pulled : Stub → Event
  marked : Stub → Mark → Event

-- the history after a call, the newest event first; a refused call adds none
abbrev pub pull_events : Answer Stub → List Event → List Event
pull_events (refused r) past = past
pull_events (given t) past = pulled t ∷ past

abbrev pub mark_events : Stub → Mark → Answer (Unit {0}) → List Event → List Event
mark_events t mark (refused r) past = past
mark_events t mark (given done) past = marked t mark ∷ past

-- any calls, accepted or refused, each on the inspection and the table that the one before left
pub data Run (m : DrawMeaning) (h₀ : Held) (table₀ : List Entry) : List Event → Held → List Entry → Type 0 where
  start : Run m h₀ table₀ [] h₀ table₀
  -- in any scheme, at any address
  pulls : {past : List Event} {h : Held} {table : List Entry} → Run m h₀ table₀ past h table → (s : SchemeMeaning) (a : Address) {answer : Answer Stub} {left : List Entry} → Pulls m s h table a answer left → Run m h₀ table₀ (pull_events answer past) h left
  -- with any ticket, whoever wrote it
  marks : {past : List Event} {h : Held} {table : List Entry} → Run m h₀ table₀ past h table → (t : Stub) (mark : Mark) {answer : Answer (Unit {0})} {after : Held} {left : List Entry} → Marks h table t mark answer after left → Run m h₀ table₀ (mark_events t mark answer past) after left
  stands : {past : List Event} {h : Held} {table : List Entry} → Run m h₀ table₀ past h table → {answer : Answer Reported} → Stands h table answer → Run m h₀ table₀ past h table
  tears : {past : List Event} {h : Held} {table : List Entry} → Run m h₀ table₀ past h table → {t numbers : Stub} → Tears t numbers → Run m h₀ table₀ past h table

-- a history in the run's own words: the frames of the accepted pulls, in order,
abbrev pub drawn_by : List Event → List ℕ
drawn_by [] = []
drawn_by (pulled t ∷ past) = drawn_by past ++ ticket_frame t ∷ []
drawn_by (marked t mark ∷ past) = drawn_by past

-- the accepted pulls,
abbrev pub is_pull : Event → Bool
is_pull (pulled t) = true
is_pull (marked t mark) = false

abbrev pub pulls_in : List Event → ℕ
pulls_in events = count_in is_pull events

-- the accepted marks of each kind,
abbrev pub is_good_event : Event → Bool
is_good_event (pulled t) = false
is_good_event (marked t Good) = true
is_good_event (marked t Bad) = false

abbrev pub is_bad_event : Event → Bool
is_bad_event (pulled t) = false
is_bad_event (marked t Good) = false
is_bad_event (marked t Bad) = true

abbrev pub good_in : List Event → ℕ
good_in events = count_in is_good_event events

abbrev pub bad_in : List Event → ℕ
bad_in events = count_in is_bad_event events

-- and the accepted pulls whose place no accepted mark has
abbrev pub has_mark : (place : ℕ) → List Event → Bool
has_mark place [] = false
has_mark place (pulled t ∷ past) = has_mark place past
has_mark place (marked t mark ∷ past) = ticket_place t == place || has_mark place past

abbrev pub is_pull_at : (places : ℕ → Bool) → Event → Bool
is_pull_at places (pulled t) = places (ticket_place t)
is_pull_at places (marked t mark) = false

abbrev pub out_in : List Event → ℕ
out_in events = count_in (is_pull_at (λ place. not (has_mark place events))) events

-- what holds after a run with these events
pub record After (m : DrawMeaning) (events : List Event) (h : Held) (table : List Entry) : Type 0 where
  -- every accepted pull is good, bad or out
  pub adds : pulls_in events ≡ good_in events + bad_in events + out_in events
  -- standing answers these pulls, good and bad
  pub answers : standing_answer h table ≡ given (record { code = h.standing; counts = record { pulled = pulls_in events; good = good_in events; bad = bad_in events } })
  -- of the pulled entries, those in state out
  pub outs : count_in (λ e. is_out (state_of e)) (take (pulls_in events) table) ≡ out_in events
  -- the drawn list is that of the table, and the rule allows it
  pub drawn : drawn_of h table ≡ drawn_by events
  pub allowed : Allowed m h.terms.N (drawn_by events)

-- PASS or REJECT
abbrev pub Settled : (code : ℕ) → Type 0
Settled code = (code ≡ 1) ⊎ (code ≡ 2)

-- the law of all runs from what open left
pub record LawOfRuns (m : DrawMeaning) (h₀ : Held) (table₀ : List Entry) : Type 0 where
  pub after : {events : List Event} {h : Held} {table : List Entry} → Run m h₀ table₀ events h table → After m events h table
  -- every longer run keeps a PASS or REJECT
  pub stays : {events more : List Event} {h later : Held} {table left : List Entry} → Run m h₀ table₀ events h table → Settled h.standing → Run m h table more later left → later.standing ≡ h.standing
  -- a longer run is a run
  pub longer : {events more : List Event} {h later : Held} {table left : List Entry} → Run m h₀ table₀ events h table → Run m h table more later left → Run m h₀ table₀ (more ++ events) later left
  -- a run keeps the reel's number and the plan's numbers
  pub keeps : {events : List Event} {h : Held} {table : List Entry} → Run m h₀ table₀ events h table → (h.number ≡ h₀.number) × (h.terms ≡ h₀.terms)
