-- What the table holds after any run, traced event by event. Assumes nothing.
use Rattle.std.proofs.Common.{◌≡◌, ℕ, zero, suc, ◌+◌, ◌<◌, ◌≤◌, Bool, true, false, cond, not, ◌||◌, List, [], ◌∷◌, ◌++◌, length, get_or, set, replicate, sym, refl, ap, ◌∙◌, subst, ⊎_elim, zero-add, arith}
use Rattle.std.proofs.ByRecursion.{All-push, All-set}
use Rattle.std.proofs.lemmas.List.{append_assoc, length_push, length-set, map_push, map-set, set-get_or, set_at, set-append_left, get_or-map, get_or_append_left, get_or_push, get_or-set_same, get_or-set_other}
use Rattle.std.proofs.lemmas.Bool.{cases_lt, cases_eq, eq-eqb, ne_eqb, or_left, true≢false}
use Rattle.film.specs.Refusals.{Answer, given, refused}
use Rattle.film.specs.Schemes.{SchemeMeaning}
use Rattle.film.specs.declared.address.Address.{Address}
use Rattle.draws.specs.Counting.{count_in, count_below}
use Rattle.draws.specs.Draws.{DrawMeaning, Allowed, more}
use Rattle.draws.specs.Entries.{state_of, frame_of, frames_of}
use Rattle.draws.specs.declared.entry.Entry.{Entry}
use Rattle.draws.specs.declared.entry.State.{State}
use Rattle.draws.specs.declared.entry.State.TheVariants.{Empty, Out, Good, Bad}
use Rattle.draws.specs.Tallies.{count_in_push}
use Rattle.plans.specs.Standings.{is_bad_mark}
use Rattle.inspection.specs.Tables.{Held, size_of, ticket_place, ticket_frame, blank, sent_out, with_state, state_for, is_out, is_good, counts_of, drawn_of}
use Rattle.inspection.specs.Answers.{mark_held, Pulls, Marks}
use Rattle.inspection.specs.Runs.{Event, pulled, marked, pull_events, mark_events, drawn_by, is_good_event, is_bad_event, pulls_in, good_in, bad_in, has_mark, is_pull_at}
use Rattle.inspection.specs.declared.report.Counts.{Counts}
use Rattle.inspection.specs.declared.ticket.Mark.{Mark}
use Rattle.inspection.specs.declared.ticket.Mark.TheVariants.{Good as GoodMark, Bad as BadMark}
use Rattle.inspection.specs.declared.ticket.Stub.{Stub}
use Rattle.inspection.proofs.Shapes.{Shape, is_pulled, goods, bads, count_in_set, tallied, taken, at_pulled, at_empty}
use Rattle.inspection.proofs.Givens.{pull_given, Marked, mark_given}

-- the events tell the pulled entries xs: their frames, which of them are good, bad and out
pub record Told (events : List Event) (xs : List Entry) : Type 0 where
  pub pulls : pulls_in events ≡ length xs
  pub frames : frames_of xs ≡ drawn_by events
  pub good : goods xs ≡ good_in events
  pub bad : bads xs ≡ bad_in events
  pub out : (p : ℕ) → p < length xs → is_out (state_of (get_or xs p blank)) ≡ not (has_mark p events)
  pub unmarked : (p : ℕ) → length xs ≤ p → has_mark p events ≡ false
  -- the accepted pulls have the places 0, 1 and so on
  pub places : (q : ℕ → Bool) → count_in (is_pull_at q) events ≡ count_below q (length xs)

pub told_none : Told [] []
told_none = record { pulls = refl; frames = refl; good = refl; bad = refl; out = λ p h. absurd (omega arith); unmarked = λ p h. refl; places = λ q. refl }

-- one more frame is sent out
module _ (past : List Event) (xs : List Entry) (told : Told past xs) (t : Stub) (place : ticket_place t ≡ length xs) where
  abbrev sent : List Entry
  sent = xs ++ sent_out (ticket_frame t) ∷ []

  out_sent : (p : ℕ) → p < length sent → is_out (state_of (get_or sent p blank)) ≡ not (has_mark p (pulled t ∷ past))
  out_sent p h =
      ⊎_elim
      (λ lt. ap (λ e. is_out (state_of e)) (get_or_append_left xs (sent_out (ticket_frame t) ∷ []) blank p lt) ∙ told.out p lt)
      (λ ge. ap (λ e. is_out (state_of e)) (get_or_push xs (sent_out (ticket_frame t)) blank p (omega (arith, length_push xs (sent_out (ticket_frame t))))) ∙ ap not (sym (told.unmarked p ge)))
      (cases_lt p (length xs))

  pub told_pull : Told (pulled t ∷ past) sent
  told_pull =
      let longer : length sent ≡ suc (length xs) = omega (arith, length_push xs (sent_out (ticket_frame t))) in
      record {
        pulls = omega (arith, told.pulls);
        frames = map_push frame_of xs (sent_out (ticket_frame t)) ∙ ap (λ l. l ++ ticket_frame t ∷ []) told.frames;
        good = omega (arith, told.good, count_in_push (λ e. is_good (state_of e)) xs (sent_out (ticket_frame t)));
        bad = omega (arith, told.bad, count_in_push (λ e. is_bad_mark (state_of e)) xs (sent_out (ticket_frame t)));
        out = out_sent;
        unmarked = λ p h. told.unmarked p (omega arith);
        places = λ q.
            ap (λ n. cond (q (ticket_place t)) 1 0 + n) (told.places q)
            ∙ ap (λ p. cond (q p) 1 0 + count_below q (length xs)) place
            ∙ ap (count_below q) (sym longer);
      }

good_for : (mark : Mark) (t : Stub) → is_good (state_for mark) ≡ is_good_event (marked t mark)
good_for GoodMark t = refl
good_for BadMark t = refl

bad_for : (mark : Mark) (t : Stub) → is_bad_mark (state_for mark) ≡ is_bad_event (marked t mark)
bad_for GoodMark t = refl
bad_for BadMark t = refl

not_out : (mark : Mark) → is_out (state_for mark) ≡ false
not_out GoodMark = refl
not_out BadMark = refl

pub is_out_lem : (s : State) → is_out s ≡ true → s ≡ Out
is_out_lem Empty e = absurd (true≢false (sym e))
is_out_lem Out e = refl
is_out_lem Good e = absurd (true≢false (sym e))
is_out_lem Bad e = absurd (true≢false (sym e))

pulled_for : (mark : Mark) → is_pulled (state_for mark) ≡ true
pulled_for GoodMark = refl
pulled_for BadMark = refl

-- the entry of a frame that was out is marked
module _ (past : List Event) (xs : List Entry) (told : Told past xs) (t : Stub) (mark : Mark) (below : ticket_place t < length xs) (out : is_out (state_of (get_or xs (ticket_place t) blank)) ≡ true) where
  abbrev was : Entry
  was = get_or xs (ticket_place t) blank

  abbrev judged : Entry
  judged = with_state was (state_for mark)

  abbrev after : List Entry
  after = set xs (ticket_place t) judged

  counts_on : (p : State → Bool) → p Out ≡ false → count_in (λ e. p (state_of e)) after ≡ cond (p (state_for mark)) 1 0 + count_in (λ e. p (state_of e)) xs
  counts_on p none =
      let before : cond {A = ℕ} (p (state_of was)) 1 0 ≡ 0 = ap (λ s. cond {A = ℕ} (p s) 1 0) (is_out_lem (state_of was) out) ∙ ap (λ b. cond {A = ℕ} b 1 0) none in
      omega (arith, count_in_set (λ e. p (state_of e)) xs (ticket_place t) judged blank below)

  same_frames : frames_of after ≡ frames_of xs
  same_frames =
      map-set frame_of xs (ticket_place t) judged
      ∙ ap (set (frames_of xs) (ticket_place t)) (sym (get_or-map frame_of xs (ticket_place t) blank 0 below))
      ∙ set-get_or (frames_of xs) (ticket_place t) 0

  out_marked : (p : ℕ) → p < length after → is_out (state_of (get_or after p blank)) ≡ not (has_mark p (marked t mark ∷ past))
  out_marked p h =
      ⊎_elim
      (λ here.
      ap (λ n. is_out (state_of (get_or after n blank))) here
      ∙ ap (λ e. is_out (state_of e)) (get_or-set_same xs (ticket_place t) judged blank below)
      ∙ not_out mark
      ∙ sym (ap not (or_left _ (has_mark p past) (eq-eqb (ticket_place t) p (sym here)))))
      (λ there.
      ap (λ e. is_out (state_of e)) (get_or-set_other xs (ticket_place t) p judged blank there)
      ∙ told.out p (omega (arith, length-set xs (ticket_place t) judged))
      ∙ sym (ap (λ b. not (b || has_mark p past)) (ne_eqb (ticket_place t) p (λ e. there (sym e)))))
      (cases_eq p (ticket_place t))

  pub told_mark : Told (marked t mark ∷ past) after
  told_mark =
      let same = length-set xs (ticket_place t) judged in
      record {
        pulls = omega (arith, told.pulls);
        frames = same_frames ∙ told.frames;
        good = counts_on is_good refl ∙ (λ i. cond (good_for mark t i) 1 0 + told.good i);
        bad = counts_on is_bad_mark refl ∙ (λ i. cond (bad_for mark t i) 1 0 + told.bad i);
        out = out_marked;
        unmarked = λ p h. ap (λ b. b || has_mark p past) (ne_eqb (ticket_place t) p (λ e. omega arith)) ∙ told.unmarked p (omega arith);
        places = λ q. zero-add _ ∙ told.places q ∙ ap (count_below q) (sym same);
      }

-- after a run from where nothing was pulled
pub record Traced (m : DrawMeaning) (events : List Event) (h : Held) (table : List Entry) : Type 0 where
  pub xs : List Entry
  pub empty : ℕ
  pub rest : List Entry
  pub shape : Shape h.terms xs empty rest table
  pub told : Told events xs
  pub allowed : Allowed m h.terms.N (drawn_by events)

module _ (m : DrawMeaning) (past : List Event) (h : Held) (table : List Entry) (traced : Traced m past h table) where
  pulled_now : (counts_of h table).pulled ≡ length traced.xs
  pulled_now = ap (λ (c : Counts). c.pulled) (tallied h.terms traced.xs traced.empty traced.rest table traced.shape)

  pub drawn_now : drawn_of h table ≡ drawn_by past
  drawn_now = ap frames_of (taken h.terms traced.xs traced.empty traced.rest table traced.shape _ pulled_now) ∙ traced.told.frames

  -- one more entry is filled
  shape_pull : (frame : ℕ) → length traced.xs < size_of h.terms → (empty : ℕ) → Shape h.terms traced.xs empty traced.rest table → (left : List Entry) → left ≡ set table (length traced.xs) (sent_out frame)
      → (b : ℕ) × Shape h.terms (traced.xs ++ sent_out frame ∷ []) b traced.rest left
  shape_pull frame room zero shape left e = absurd (omega (arith, shape.fills))
  shape_pull frame room (suc b) shape left e = (
    b,
    record {
      is = e ∙ ap (λ t. set t (length traced.xs) (sent_out frame)) shape.is
          ∙ set_at traced.xs blank (replicate b blank ++ traced.rest) (sent_out frame) (length traced.xs) refl
          ∙ sym (append_assoc traced.xs (sent_out frame ∷ []) (replicate b blank ++ traced.rest));
      fills = omega (arith, shape.fills, length_push traced.xs (sent_out frame));
      filled = All-push (λ e. is_pulled (state_of e) ≡ true) traced.xs (sent_out frame) shape.filled refl;
    },
  )

  pub traced_pull : (s : SchemeMeaning) (a : Address) (answer : Answer Stub) (left : List Entry) → Pulls m s h table a answer left → Traced m (pull_events answer past) h left
  traced_pull s a (refused r) left p = subst (Traced m past h) (sym p.table_left) traced
  traced_pull s a (given t) left p =
      let is = pull_given m h table t s a p.value in
      let place = is.place ∙ pulled_now in
      let next = shape_pull (ticket_frame t) (subst (λ n. n < size_of h.terms) pulled_now is.room) traced.empty traced.shape left (p.table_left ∙ ap (λ n. set table n (sent_out (ticket_frame t))) place) in
      record {
        xs = traced.xs ++ sent_out (ticket_frame t) ∷ [];
        empty = next.0;
        rest = traced.rest;
        shape = next.1;
        told = told_pull past traced.xs traced.told t place;
        allowed = more traced.allowed (ap (λ l. m.follows h.terms.N l (ticket_frame t)) (sym drawn_now) ∙ is.follows);
      }

  -- an accepted mark is of a pulled entry
  out_pulled : (t : Stub) → Marked h table t → ticket_place t < length traced.xs
  out_pulled t is =
      ⊎_elim (λ lt. lt)
      (λ ge. absurd (true≢false (sym is.out ∙ ap (λ e. is_out (state_of e)) (at_empty h.terms traced.xs traced.empty traced.rest table traced.shape (ticket_place t) ge is.below))))
      (cases_lt (ticket_place t) (length traced.xs))

  pub traced_mark : (t : Stub) (mark : Mark) (answer : Answer (Unit {0})) (held : Held) (left : List Entry) → Marks h table t mark answer held left → Traced m (mark_events t mark answer past) held left
  traced_mark t mark (refused r) held left p =
      let whole : Traced m past h left = subst (Traced m past h) (sym p.table_left) traced in
      subst (λ h. Traced m past h left) (sym p.held_left) whole
  traced_mark t mark (given done) held left p =
      let is = mark_given h table t p.value in
      let below = out_pulled t is in
      let here = at_pulled h.terms traced.xs traced.empty traced.rest table traced.shape (ticket_place t) below in
      let judged = with_state (get_or traced.xs (ticket_place t) blank) (state_for mark) in
      let same = length-set traced.xs (ticket_place t) judged in
      let whole : Traced m (marked t mark ∷ past) (mark_held h left (given done)) left = record {
        xs = set traced.xs (ticket_place t) judged;
        empty = traced.empty;
        rest = traced.rest;
        shape = record {
          is = p.table_left
              ∙ ap (λ e. set table (ticket_place t) (with_state e (state_for mark))) here
              ∙ ap (λ l. set l (ticket_place t) judged) traced.shape.is
              ∙ set-append_left traced.xs (replicate traced.empty blank ++ traced.rest) (ticket_place t) judged below;
          fills = ap (λ n. n + traced.empty) same ∙ traced.shape.fills;
          filled = All-set (λ e. is_pulled (state_of e) ≡ true) traced.xs (ticket_place t) judged (pulled_for mark) traced.shape.filled;
        };
        told = told_mark past traced.xs traced.told t mark below (ap (λ e. is_out (state_of e)) (sym here) ∙ is.out);
        allowed = traced.allowed;
      } in
      subst (λ h. Traced m (marked t mark ∷ past) h left) (sym p.held_left) whole
