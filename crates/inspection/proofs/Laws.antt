-- The law of all runs. Assumes nothing.
use Rattle.std.proofs.Common.{◌≡◌, ℕ, cond, not, eqb, List, [], ◌++◌, length, get_or, drop, sym, refl, ap, ◌∙◌, subst, ⊎_elim, zero-add, arith}
use Rattle.std.proofs.lemmas.Bool.{le-ltb, cond-false}
use Rattle.film.specs.Refusals.{Answer, given, refused}
use Rattle.draws.specs.Draws.{DrawMeaning, none}
use Rattle.draws.specs.Entries.{state_of}
use Rattle.draws.specs.declared.entry.Entry.{Entry}
use Rattle.draws.specs.Tallies.{count_below_same}
use Rattle.inspection.specs.Tables.{Held, size_of, blank, is_out, table_standing}
use Rattle.inspection.specs.Answers.{mark_held, open_table}
use Rattle.inspection.specs.Runs.{Event, pull_events, mark_events, Run, start, pulls, marks, stands, tears, pulls_in, has_mark, out_in, After, Settled, LawOfRuns}
use Rattle.inspection.specs.declared.report.Counts.{Counts}
use Rattle.inspection.specs.declared.ticket.Mark.{Mark}
use Rattle.inspection.specs.declared.ticket.Stub.{Stub}
use Rattle.inspection.proofs.Shapes.{outs, count_in_places, filled_adds, long, tallied, taken}
use Rattle.inspection.proofs.Traces.{Told, told_none, Traced, drawn_now, traced_pull, traced_mark}

-- the entries that are out are the pulls that no mark has
outs_told : (events : List Event) (xs : List Entry) → Told events xs → outs xs ≡ out_in events
outs_told events xs told =
    count_in_places (λ e. is_out (state_of e)) blank xs
    ∙ count_below_same (λ i. is_out (state_of (get_or xs i blank))) (λ p. not (has_mark p events)) (length xs) told.out
    ∙ sym (told.places (λ p. not (has_mark p events)))

pub after_traced : (m : DrawMeaning) (events : List Event) (h : Held) (table : List Entry) → Traced m events h table → After m events h table
after_traced m events h table traced =
    let xs = traced.xs in
    let told = traced.told in
    let out = outs_told events xs told in
    let counts = tallied h.terms xs traced.empty traced.rest table traced.shape in
    record {
      adds = omega (arith, filled_adds xs traced.shape.filled, told.pulls, told.good, told.bad);
      answers =
          cond-false _ _ _ (le-ltb _ _ (long h.terms xs traced.empty traced.rest table traced.shape))
          ∙ ap (λ (c : Counts). given (record { code = h.standing; counts = c })) (counts ∙ (λ i. record { pulled = sym told.pulls i; good = told.good i; bad = told.bad i }));
      outs = ap outs (taken h.terms xs traced.empty traced.rest table traced.shape (pulls_in events) told.pulls) ∙ out;
      drawn = drawn_now m events h table traced;
      allowed = traced.allowed;
    }

-- every run is traced
pub trace : {m : DrawMeaning} {h₀ : Held} {table₀ : List Entry} {events : List Event} {h : Held} {table : List Entry} → Traced m [] h₀ table₀ → Run m h₀ table₀ events h table → Traced m events h table
trace from start = from
trace {m} from (pulls {past} {h} {table} r s a {answer} {left} p) = traced_pull m past h table (trace from r) s a answer left p
trace {m} from (marks {past} {h} {table} r t mark {answer} {after} {left} p) = traced_mark m past h table (trace from r) t mark answer after left p
trace from (stands r p) = trace from r
trace from (tears r p) = trace from r

settled_moved : (code table : ℕ) → Settled code → cond (eqb code 1) 1 (cond (eqb code 2) 2 table) ≡ code
settled_moved code table s =
    ⊎_elim
    (λ e. ap (λ n. cond (eqb n 1) 1 (cond (eqb n 2) 2 table)) e ∙ sym e)
    (λ e. ap (λ n. cond (eqb n 1) 1 (cond (eqb n 2) 2 table)) e ∙ sym e) s

stays_mark : (h : Held) (now : List Entry) (answer : Answer (Unit {0})) → Settled h.standing → (mark_held h now answer).standing ≡ h.standing
stays_mark h now (refused r) s = refl
stays_mark h now (given done) s = settled_moved h.standing (table_standing h.terms.plan now) s

-- a standing that is settled stays
pub stays : {m : DrawMeaning} {h₀ : Held} {table₀ : List Entry} {events : List Event} {h : Held} {table : List Entry} → Settled h₀.standing → Run m h₀ table₀ events h table → h.standing ≡ h₀.standing
stays s start = refl
stays s (pulls r scheme a p) = stays s r
stays s (marks {past} {h} {table} r t mark {answer} {after} {left} p) =
    let same = stays s r in
    ap (λ (h : Held). h.standing) p.held_left ∙ stays_mark h left answer (subst Settled (sym same) s) ∙ same
stays s (stands r p) = stays s r
stays s (tears r p) = stays s r

pulls_behind : (answer : Answer Stub) (more events : List Event) → pull_events answer (more ++ events) ≡ pull_events answer more ++ events
pulls_behind (refused r) more events = refl
pulls_behind (given t) more events = refl

marks_behind : (t : Stub) (mark : Mark) (answer : Answer (Unit {0})) (more events : List Event) → mark_events t mark answer (more ++ events) ≡ mark_events t mark answer more ++ events
marks_behind t mark (refused r) more events = refl
marks_behind t mark (given done) more events = refl

-- a run behind a run
pub longer : {m : DrawMeaning} {h₀ : Held} {table₀ : List Entry} {events : List Event} {h : Held} {table : List Entry} {more : List Event} {later : Held} {left : List Entry} → Run m h₀ table₀ events h table → Run m h table more later left → Run m h₀ table₀ (more ++ events) later left
longer r start = r
longer {m} {h₀} {table₀} {events} r (pulls {past} {h} {table} q s a {answer} {left} p) =
    subst (λ es. Run m h₀ table₀ es h left) (pulls_behind answer past events) (pulls (longer r q) s a p)
longer {m} {h₀} {table₀} {events} r (marks {past} {h} {table} q t mark {answer} {after} {left} p) =
    subst (λ es. Run m h₀ table₀ es after left) (marks_behind t mark answer past events) (marks (longer r q) t mark p)
longer r (stands q p) = stands (longer r q) p
longer r (tears q p) = tears (longer r q) p

keeps_mark : (h : Held) (now : List Entry) (answer : Answer (Unit {0})) → ((mark_held h now answer).number ≡ h.number) × ((mark_held h now answer).terms ≡ h.terms)
keeps_mark h now (refused r) = (refl, refl)
keeps_mark h now (given done) = (refl, refl)

pub keeps : {m : DrawMeaning} {h₀ : Held} {table₀ : List Entry} {events : List Event} {h : Held} {table : List Entry} → Run m h₀ table₀ events h table → (h.number ≡ h₀.number) × (h.terms ≡ h₀.terms)
keeps start = (refl, refl)
keeps (pulls r s a p) = keeps r
keeps (marks {past} {h} {table} r t mark {answer} {after} {left} p) =
    let before = keeps r in
    let step = keeps_mark h left answer in
    (ap (λ (h : Held). h.number) p.held_left ∙ step.0 ∙ before.0, ap (λ (h : Held). h.terms) p.held_left ∙ step.1 ∙ before.1)
keeps (stands r p) = keeps r
keeps (tears r p) = keeps r

-- what open leaves: nothing pulled
pub opened : (m : DrawMeaning) (h : Held) (table : List Entry) → Traced m [] h (open_table table (given h))
opened m h table =
    record {
      xs = [];
      empty = size_of h.terms;
      rest = drop (size_of h.terms) table;
      shape = record { is = refl; fills = zero-add (size_of h.terms); filled = tt };
      told = told_none;
      allowed = none;
    }

pub law : (m : DrawMeaning) (h : Held) (table : List Entry) → LawOfRuns m h (open_table table (given h))
law m h table =
    record {
      after = λ {events} {h = now} {table = left} r. after_traced m events now left (trace (opened m h table) r);
      stays = λ r s q. stays s q;
      longer = λ r q. longer r q;
      keeps = λ r. keeps r;
    }
