-- What a session holds, and what each line is answered. Assumes nothing.
use Rattle.std.specs.Prelude.{ℕ, List, ◌++◌, length, replicate, Some, None, codes, Option, slice_index}
use Rattle.film.specs.Refusals.{Refusal, Answer, given, refused}
use Rattle.film.specs.Schemes.{SchemeMeaning}
use Rattle.film.specs.Names.{scheme_of}
use Rattle.film.specs.declared.address.Address.{Address}
use Rattle.film.specs.declared.name.SchemeName.{SchemeName}
use Rattle.draws.specs.Draws.{DrawMeaning}
use Rattle.draws.specs.Names.{rule_of}
use Rattle.draws.specs.declared.entry.Entry.{Entry}
use Rattle.draws.specs.declared.name.RuleName.{RuleName}
use Rattle.plans.specs.Makes.{made}
use Rattle.sampling.specs.Certifies.{certified_by}
use Rattle.inspection.specs.Tables.{Held, blank}
use Rattle.inspection.specs.Answers.{Reported, standing_answer, open_answer, open_table, pull_answer, pull_table, mark_answer, mark_table, mark_held}
use Rattle.inspection.specs.declared.ticket.Mark.{Mark}
use Rattle.inspection.specs.declared.ticket.Stub.{Stub}
use Rattle.slip.specs.Fields.{slip_bytes}
use Rattle.slip.specs.Answers.{write_answer}
use Rattle.console.specs.declared.request.Reel.{Reel}
use Rattle.console.specs.declared.request.Request.{Request}
use Rattle.console.specs.declared.request.Request.TheVariants.{Reel as ReelNoted, Plan, Frame, Slip}
use Rattle.console.specs.Requests.{request_of}

-- how far a session has come
pub data Phase : Type 0 where
  begun : Phase
  noted : Reel → Phase
  opened : RuleName → Held → Phase

-- and the pull table that it lends
pub record Session : Type 0 where
  pub phase : Phase
  pub table : List Entry

-- what a line is answered
pub data Reply : Type 0 where
  fine : Reply
  bounds : (lo hi : ℕ) → Reply
  stands : (code : ℕ) → Reply
  wrote : List ℕ → Reply
  no : Refusal → Reply

-- a lower layer's refusal, passed on with the program's letter
abbrev pub passed_on : Refusal → Refusal
passed_on r = record { number = r.number; place = r.place; layers = r.layers ++ codes "M" }

-- the program's own, by the line's number
abbrev pub unreadable : ℕ → Refusal
unreadable line = record { number = 61; place = line; layers = codes "M" }

abbrev pub out_of_turn : ℕ → Refusal
out_of_turn line = record { number = 62; place = line; layers = codes "M" }

-- a call behind another: the first refusal is the answer
abbrev pub and_then : {A B : Type 0} → Answer A → (A → Answer B) → Answer B
and_then (given a) next = next a
and_then (refused r) next = refused r

-- a plan is made, certified and opened; low and high are how many cells the rows have
abbrev pub begin_answer : DrawMeaning → (number N n1 ac1 re1 n2 ac2 T limit low high : ℕ) → List Entry → Answer Held
begin_answer m number N n1 ac1 re1 n2 ac2 T limit low high table =
    and_then (made n1 ac1 re1 n2 ac2) (λ p. and_then (certified_by m N T limit p low high) (λ c. open_answer number c table))

-- a line's reply, and what the session then holds
pub record Step : Type 0 where
  pub session : Session
  pub reply : Reply

abbrev pub session : Phase → List Entry → Session
session phase table = record { phase = phase; table = table }

abbrev pub step : Phase → List Entry → Reply → Step
step phase table reply = record { session = session phase table; reply = reply }

-- r
abbrev pub note_step : (line : ℕ) → Reel → Phase → List Entry → Step
note_step line reel begun table = step (noted reel) table fine
note_step line reel (noted before) table = step (noted reel) table fine
note_step line reel (opened rule h) table = step (opened rule h) table (no (out_of_turn line))

-- p
abbrev pub enclosed_by : Held → Reply
enclosed_by h = bounds h.terms.lo h.terms.hi

abbrev pub begin_step : Reel → List Entry → Answer Held → Step
begin_step reel table (given h) = step (opened reel.rule h) (open_table table (given h)) (enclosed_by h)
begin_step reel table (refused r) = step (noted reel) table (no (passed_on r))

abbrev pub noted_step : Reel → List ℕ → List Entry → Step
noted_step reel ns table =
    begin_step reel table (begin_answer (rule_of reel.rule) reel.number reel.frames (slice_index ns 0) (slice_index ns 1) (slice_index ns 2) (slice_index ns 3) (slice_index ns 4) (slice_index ns 5) (slice_index ns 6) 256 256 table)

abbrev pub plan_step : (line : ℕ) → List ℕ → Phase → List Entry → Step
plan_step line ns begun table = step begun table (no (out_of_turn line))
plan_step line ns (noted reel) table = noted_step reel ns table
plan_step line ns (opened rule h) table = step (opened rule h) table (no (out_of_turn line))

-- f: the frame is pulled, marked at once with the ticket that the pull answered, and the standing asked for
pub record Viewing : Type 0 where
  pub held : Held
  pub table : List Entry
  pub answer : Answer ℕ

abbrev pub viewing : Held → List Entry → Answer ℕ → Viewing
viewing h table answer = record { held = h; table = table; answer = answer }

abbrev pub after_standing : Held → List Entry → Answer Reported → Viewing
after_standing h table (given report) = viewing h table (given report.code)
after_standing h table (refused r) = viewing h table (refused r)

abbrev pub after_mark : Held → List Entry → Answer (Unit {0}) → Viewing
after_mark h left (given done) = after_standing h left (standing_answer h left)
after_mark h left (refused r) = viewing h left (refused r)

abbrev pub mark_now : Held → List Entry → Stub → Mark → Answer (Unit {0}) → Viewing
mark_now h sent t mark answer = after_mark (mark_held h (mark_table sent t mark answer) answer) (mark_table sent t mark answer) answer

abbrev pub after_pull : Held → List Entry → Mark → Answer Stub → Viewing
after_pull h table mark (given t) = mark_now h (pull_table table (given t)) t mark (mark_answer h (pull_table table (given t)) t)
after_pull h table mark (refused r) = viewing h table (refused r)

unfoldable pub viewed : DrawMeaning → SchemeMeaning → Held → List Entry → Address → Mark → Viewing
viewed m s h table a mark = after_pull h table mark (pull_answer m s h table a)

abbrev pub code_reply : Answer ℕ → Reply
code_reply (given code) = stands code
code_reply (refused r) = no (passed_on r)

abbrev pub view_step : RuleName → Viewing → Step
view_step rule v = step (opened rule v.held) v.table (code_reply v.answer)

abbrev pub frame_step : (line : ℕ) → SchemeName → Address → Mark → Phase → List Entry → Step
frame_step line scheme a mark begun table = step begun table (no (out_of_turn line))
frame_step line scheme a mark (noted reel) table = step (noted reel) table (no (out_of_turn line))
frame_step line scheme a mark (opened rule h) table = view_step rule (viewed (rule_of rule) (scheme_of scheme) h table a mark)

-- s: the slip, into a buffer of 40,000 bytes
abbrev pub write_reply : List ℕ → Answer ℕ → Reply
write_reply bytes (given end) = wrote bytes
write_reply bytes (refused r) = no (passed_on r)

abbrev pub slip_step : (line : ℕ) → SchemeName → Phase → List Entry → Step
slip_step line scheme begun table = step begun table (no (out_of_turn line))
slip_step line scheme (noted reel) table = step (noted reel) table (no (out_of_turn line))
slip_step line scheme (opened rule h) table =
    step (opened rule h) table
    (write_reply (slip_bytes (rule_of rule).code (scheme_of scheme) h table)
    (write_answer (scheme_of scheme) h table (length (slip_bytes (rule_of rule).code (scheme_of scheme) h table)) 40000))

-- what a line that asks for this is answered
abbrev pub request_step : (line : ℕ) → Option Request → Session → Step
request_step line None s = record { session = s; reply = no (unreadable line) }
request_step line (Some (ReelNoted reel)) s = note_step line reel s.phase s.table
request_step line (Some (Plan ns)) s = plan_step line ns s.phase s.table
request_step line (Some (Frame scheme a mark)) s = frame_step line scheme a mark s.phase s.table
request_step line (Some (Slip scheme)) s = slip_step line scheme s.phase s.table

abbrev pub line_step : (line : ℕ) → List ℕ → Session → Step
line_step line text s = request_step line (request_of text) s

-- a session begins with 4,096 empty entries
abbrev pub fresh : Session
fresh = record { phase = begun; table = replicate 4096 blank }
