-- What an answer that is given tells of the tests before it. Assumes nothing.
use Rattle.std.proofs.Common.{◌≡◌, ℕ, ◌<◌, Bool, true, false, cond, eqb, ltb, leb, List, get_or, refl, ap, ◌∙◌, arith}
use Rattle.std.proofs.lemmas.Bool.{ltb-true, leb-false, and_parts, true≢false}
use Rattle.film.specs.Refusals.{Refusal, Answer, given, refused}
use Rattle.film.specs.Schemes.{SchemeMeaning, located}
use Rattle.film.specs.declared.address.Address.{Address}
use Rattle.draws.specs.Draws.{DrawMeaning}
use Rattle.draws.specs.Entries.{state_of}
use Rattle.draws.specs.declared.entry.Entry.{Entry}
use Rattle.inspection.specs.Tables.{Held, size_of, ticket_reel, ticket_place, ticket_frame, blank, is_out, counts_of, drawn_of}
use Rattle.inspection.specs.Answers.{no_more, asked, pull_answer, mark_answer}
use Rattle.inspection.specs.declared.ticket.Stub.{Stub}

pub given_same : {A : Type 0} (v w : A) → given v ≡ given w → v ≡ w
given_same v w e = cc

module _ {A : Type 0} (r : Refusal) (v : A) where
  pub not_refused : (b : Bool) (x : Answer A) → given v ≡ cond b (refused r) x → (b ≡ false) × (given v ≡ x)
  not_refused true x e = absurd (cc)
  not_refused false x e = (refl, e)

  pub allowed_by : (b : Bool) (x : Answer A) → given v ≡ cond b x (refused r) → (b ≡ true) × (given v ≡ x)
  allowed_by true x e = (refl, e)
  allowed_by false x e = absurd (cc)

-- what an accepted pull tells
pub record Pulled (m : DrawMeaning) (h : Held) (table : List Entry) (t : Stub) : Type 0 where
  pub place : ticket_place t ≡ (counts_of h table).pulled
  pub room : (counts_of h table).pulled < size_of h.terms
  pub follows : m.follows h.terms.N (drawn_of h table) (ticket_frame t) ≡ true

pub room_left : (h : Held) (pulled : ℕ) → no_more h pulled ≡ false → pulled < size_of h.terms
room_left h pulled e = by (eqb h.standing 0) (eqb h.standing 3) e
  where
    by : (x y : Bool) → cond x (leb h.terms.plan.n1 pulled) (cond y (leb (size_of h.terms) pulled) true) ≡ false → pulled < size_of h.terms
    by true y e = omega (arith, leb-false h.terms.plan.n1 pulled e)
    by false true e = omega (arith, leb-false (size_of h.terms) pulled e)
    by false false e = absurd (true≢false e)

module _ (m : DrawMeaning) (h : Held) (table : List Entry) (t : Stub) where
  asked_given : (found : Answer ℕ) → given t ≡ asked m h table found → (ticket_place t ≡ (counts_of h table).pulled) × (m.follows h.terms.N (drawn_of h table) (ticket_frame t) ≡ true)
  asked_given (refused r) e = absurd (cc)
  asked_given (given frame) e =
      let p = allowed_by _ t _ _ e in
      let same = given_same t (record { reel = h.number; place = (counts_of h table).pulled; frame = frame }) p.1 in
      (ap ticket_place same, ap (λ t. m.follows h.terms.N (drawn_of h table) (ticket_frame t)) same ∙ p.0)

  pub pull_given : (s : SchemeMeaning) (a : Address) → given t ≡ pull_answer m s h table a → Pulled m h table t
  pull_given s a e =
      let long = not_refused _ t _ _ e in
      let more = not_refused _ t _ _ long.1 in
      let last = asked_given (located s h.terms.N a) more.1 in
      record { place = last.0; room = room_left h _ more.0; follows = last.1 }

-- what an accepted mark tells
pub record Marked (h : Held) (table : List Entry) (t : Stub) : Type 0 where
  pub below : ticket_place t < size_of h.terms
  pub out : is_out (state_of (get_or table (ticket_place t) blank)) ≡ true

pub mark_given : (h : Held) (table : List Entry) (t : Stub) → given tt ≡ mark_answer h table t → Marked h table t
mark_given h table t e =
    let long = not_refused _ tt _ _ e in
    let mine = allowed_by _ tt _ _ long.1 in
    let out = allowed_by _ tt _ _ mine.1 in
    let parts = and_parts (eqb (ticket_reel t) h.number) _ mine.0 in
    record { below = ltb-true _ _ (and_parts (ltb (ticket_place t) (size_of h.terms)) _ parts.1).0; out = out.0 }
