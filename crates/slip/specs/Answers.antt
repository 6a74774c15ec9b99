-- What write answers, and what it leaves in the buffer. Assumes nothing.
use Rattle.std.specs.Prelude.{◌≡◌, ℕ, cond, List, [], ◌∷◌, ◌++◌, length, drop, codes, nat_lt}
use Rattle.film.specs.Refusals.{Refusal, Answer, given, refused, refuse}
use Rattle.film.specs.Schemes.{SchemeMeaning, addressed}
use Rattle.draws.specs.declared.entry.Entry.{Entry}
use Rattle.inspection.specs.Tables.{Held, size_of}
use Rattle.slip.specs.Fields.{bad_frames_of, slip_bytes}

-- a refusal of the layer below goes on through this one
abbrev pub passed_on : Refusal → Refusal
passed_on r = record { number = r.number; place = r.place; layers = r.layers ++ codes "S" }

-- an address was given, or it is refused
abbrev pub if_given : {A B : Type 0} → Answer A → Answer B → Answer B
if_given (given a) answer = answer
if_given (refused r) answer = refused r

-- every frame has an address in the scheme, or the first that has none is refused
abbrev pub all_addressed : SchemeMeaning → (N : ℕ) → (frames : List ℕ) → Answer (Unit {0})
all_addressed s N [] = given tt
all_addressed s N (frame ∷ frames) = if_given (addressed s N frame) (all_addressed s N frames)

-- where it has, the answer, and else the refusal from the address layer
abbrev pub or_unaddressed : {A B : Type 0} → Answer A → Answer B → Answer B
or_unaddressed (given a) answer = answer
or_unaddressed (refused r) answer = refused (passed_on r)

-- a slip of this many bytes is written, if all is there for it
abbrev pub write_answer : SchemeMeaning → Held → List Entry → (needed room : ℕ) → Answer ℕ
write_answer s h table needed room =
    cond (nat_lt (length table) (size_of h.terms)) (refuse 41 (size_of h.terms) (codes "IS"))
    (cond (nat_lt room needed) (refuse 51 needed (codes "S"))
    (or_unaddressed (all_addressed s h.terms.N (bad_frames_of h table)) (given needed)))

-- the slip stands first, and the bytes behind it are as they were; a refusal leaves all as it was
abbrev pub write_buffer : (slip buffer : List ℕ) → Answer ℕ → List ℕ
write_buffer slip buffer (refused r) = buffer
write_buffer slip buffer (given end) = slip ++ drop end buffer

-- what write promises
pub record Writes (rule : ℕ) (s : SchemeMeaning) (h : Held) (table : List Entry) (buffer : List ℕ) (answer : Answer ℕ) (left : List ℕ) : Type 0 where
  pub value : answer ≡ write_answer s h table (length (slip_bytes rule s h table)) (length buffer)
  pub buffer_left : left ≡ write_buffer (slip_bytes rule s h table) buffer answer
