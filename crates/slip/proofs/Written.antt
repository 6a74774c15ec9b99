-- What the writer's answers amount to.
use Rattle.std.proofs.Common.{◌≡◌, ℕ, ◌+◌, ◌-◌, ◌*◌, ◌<◌, ◌≤◌, Bool, true, false, cond, ltb, List, [], ◌++◌, map, length, take, drop, Ok, codes, sym, refl, ap, ◌∙◌, arith}
use Rattle.std.proofs.lemmas.List.{length-append, take-append-drop}
use Rattle.std.proofs.lemmas.Bool.{ltb-false, lt-ltb, le-ltb}
use Rattle.film.specs.Refusals.{Refusal, Answer, given, refused, refuse}
use Rattle.film.specs.Schemes.{SchemeMeaning}
use Rattle.draws.specs.declared.entry.Entry.{Entry}
use Rattle.inspection.specs.Answers.{Reported, standing_answer}
use Rattle.inspection.specs.Readings.{held_of, standing_reading}
use Rattle.inspection.specs.Tables.{Held, size_of, counts_of, standing_code}
use Rattle.inspection.specs.declared.calls.Inspection.{Inspection}
use Rattle.inspection.specs.declared.report.Counts.{Counts}
use Rattle.inspection.specs.declared.report.Report.{Report}
use Rattle.std.specs.List.{flat_map}
use Rattle.slip.specs.Answers.{passed_on, all_addressed, or_unaddressed, write_answer, Writes}
use Rattle.slip.specs.Cursors.{Wrote, done, left}
use Rattle.slip.specs.Fields.{bad_frames, bad_frames_of, field_bytes, frame_field, head_fields, slip_bytes}
use Rattle.slip.specs.declared.put.Cursor.{Cursor}
use Rattle.slip.proofs.Counted.{pulled_few, slip_long, slip_parts}

-- what standing's answer tells
pub record Told (h : Held) (table : List Entry) (report : Reported) : Type 0 where
  pub long : size_of h.terms ≤ length table
  pub code : report.code ≡ h.standing
  pub counts : report.counts ≡ counts_of h table

told_by : (test : Bool) (x y : Reported) (r : Refusal) → given x ≡ cond test (refused r) (given y) → (x ≡ y) × (test ≡ false)
told_by true x y r e = absurd (cc)
told_by false x y r e = (cc, refl)

pub told : (h : Held) (table : List Entry) (report : Reported) → given report ≡ standing_answer h table → Told h table report
told h table report e =
    let p = told_by (ltb (length table) (size_of h.terms)) report (record { code = h.standing; counts = counts_of h table }) (record { number = 41; place = size_of h.terms; layers = codes "I" }) e in
    record {
      long = ltb-false (length table) (size_of h.terms) p.1;
      code = ap (λ (r : Reported). r.code) p.0;
      counts = ap (λ (r : Reported). r.counts) p.0;
    }

short_by : (test : Bool) (x r : Refusal) (y : Reported) → refused x ≡ cond test (refused r) (given y) → (x ≡ r) × (test ≡ true)
short_by true x r y e = (cc, refl)
short_by false x r y e = absurd (cc)

-- the four ends
pub short_table : (rule : ℕ) (s : SchemeMeaning) (h : Held) (table : List Entry) (buffer : List ℕ) (r : Refusal) → refused r ≡ standing_answer h table → Writes rule s h table buffer (refused (passed_on r)) buffer
short_table rule s h table buffer r e =
    let size = size_of h.terms in
    let short : Refusal = record { number = 41; place = size; layers = codes "I" } in
    let p = short_by (ltb (length table) size) r short (record { code = h.standing; counts = counts_of h table }) e in
    let rest = cond (ltb (length buffer) (length (slip_bytes rule s h table))) (refuse 51 (length (slip_bytes rule s h table)) (codes "S")) (or_unaddressed (all_addressed s h.terms.N (bad_frames_of h table)) (given (length (slip_bytes rule s h table)))) in
    record {
      value =
          ap (λ (x : Refusal). refused (passed_on x)) p.0
          ∙ sym (ap (λ (test : Bool). cond test (refuse 41 size (codes "IS")) rest) p.1);
      buffer_left = refl;
    }

-- the table is long enough
past_table : (s : SchemeMeaning) (h : Held) (table : List Entry) (needed room : ℕ) → size_of h.terms ≤ length table → write_answer s h table needed room ≡ cond (ltb room needed) (refuse 51 needed (codes "S")) (or_unaddressed (all_addressed s h.terms.N (bad_frames_of h table)) (given needed))
past_table s h table needed room long =
    ap (λ (test : Bool). cond test (refuse 41 (size_of h.terms) (codes "IS")) (cond (ltb room needed) (refuse 51 needed (codes "S")) (or_unaddressed (all_addressed s h.terms.N (bad_frames_of h table)) (given needed)))) (le-ltb (length table) (size_of h.terms) long)

past_buffer : (s : SchemeMeaning) (h : Held) (table : List Entry) (needed room : ℕ) → size_of h.terms ≤ length table → needed ≤ room → write_answer s h table needed room ≡ or_unaddressed (all_addressed s h.terms.N (bad_frames_of h table)) (given needed)
past_buffer s h table needed room long fits =
    past_table s h table needed room long
    ∙ ap (λ (test : Bool). cond test (refuse 51 needed (codes "S")) (or_unaddressed (all_addressed s h.terms.N (bad_frames_of h table)) (given needed))) (le-ltb room needed fits)

pub short_buffer : (rule : ℕ) (s : SchemeMeaning) (h : Held) (table : List Entry) (buffer : List ℕ) (needed : ℕ) → size_of h.terms ≤ length table → needed ≡ length (slip_bytes rule s h table) → length buffer < needed → Writes rule s h table buffer (refuse 51 needed (codes "S")) buffer
short_buffer rule s h table buffer needed long is short =
    let slip = length (slip_bytes rule s h table) in
    let less : length buffer < slip = omega arith in
    record {
      value =
          ap (λ n. refuse 51 n (codes "S")) is
          ∙ sym (ap (λ (test : Bool). cond test (refuse 51 slip (codes "S")) (or_unaddressed (all_addressed s h.terms.N (bad_frames_of h table)) (given slip))) (lt-ltb (length buffer) slip less))
          ∙ sym (past_table s h table slip (length buffer) long);
      buffer_left = refl;
    }

pub unaddressed : (rule : ℕ) (s : SchemeMeaning) (h : Held) (table : List Entry) (buffer : List ℕ) (r : Refusal) → size_of h.terms ≤ length table → length (slip_bytes rule s h table) ≤ length buffer → refused r ≡ all_addressed s h.terms.N (bad_frames_of h table) → Writes rule s h table buffer (refused (passed_on r)) buffer
unaddressed rule s h table buffer r long fits e =
    let slip = length (slip_bytes rule s h table) in
    record {
      value = ap (λ (x : Answer (Unit {0})). or_unaddressed x (given slip)) e ∙ sym (past_buffer s h table slip (length buffer) long fits);
      buffer_left = refl;
    }

pub written : (rule : ℕ) (s : SchemeMeaning) (h : Held) (table : List Entry) (buffer : List ℕ) → size_of h.terms ≤ length table → length (slip_bytes rule s h table) ≤ length buffer → given tt ≡ all_addressed s h.terms.N (bad_frames_of h table)
    → {start end : Cursor} → done start ≡ [] → left start ≡ buffer → Wrote start (slip_bytes rule s h table) end
    → (count : ℕ) (now : List ℕ) → count ≡ length (done end) → now ≡ end.buffer.now → Writes rule s h table buffer (given count) now
written rule s h table buffer long fits all {start} {end} before behind put count now counted same =
    let slip = slip_bytes rule s h table in
    let front : done end ≡ slip = put.before ∙ ap (λ l. l ++ slip) before in
    let whole : count ≡ length slip = counted ∙ ap length front in
    record {
      value =
          ap (λ n. given n) whole
          ∙ ap (λ (x : Answer (Unit {0})). or_unaddressed x (given (length slip))) all
          ∙ sym (past_buffer s h table (length slip) (length buffer) long fits);
      buffer_left =
          same
          ∙ sym (take-append-drop end.at end.buffer.now)
          ∙ (λ i. front i ++ (put.behind ∙ ap (drop (length slip)) behind ∙ ap (λ n. drop n buffer) (sym whole)) i);
    }

-- what the writer knows once standing has answered
pub record Known {R : Type 0} (i : Inspection R) (table : List Entry) (report : Report) : Type 0 where
  pub long : size_of (held_of i).terms ≤ length table
  pub code : standing_code report.standing ≡ (held_of i).standing
  pub counts : report.counts ≡ counts_of (held_of i) table
  pub inside : report.counts.pulled ≤ length table
  pub frames : bad_frames (take (report.counts.pulled - 0) table) ≡ bad_frames_of (held_of i) table
  pub needed : (rule : ℕ) (s : SchemeMeaning) → 74 + 9 * report.counts.bad ≡ length (slip_bytes rule s (held_of i) table)
  pub room : (rule : ℕ) (s : SchemeMeaning) → 74 + length (flat_map field_bytes (map (frame_field s) (bad_frames (take (report.counts.pulled - 0) table)))) ≡ length (slip_bytes rule s (held_of i) table)

pub known : {R : Type 0} (i : Inspection R) (table : List Entry) (report : Report) → standing_reading (Ok report) ≡ standing_answer (held_of i) table → Known i table report
known i table report e =
    let h = held_of i in
    let t = told h table (record { code = standing_code report.standing; counts = report.counts }) e in
    let start : report.counts.pulled - 0 ≡ (counts_of h table).pulled = omega (arith, ap (λ (counts : Counts). counts.pulled) t.counts) in
    let frames_are : bad_frames (take (report.counts.pulled - 0) table) ≡ bad_frames_of h table = ap (λ n. bad_frames (take n table)) start in
    record {
      long = t.long;
      code = t.code;
      counts = t.counts;
      inside = omega (arith, pulled_few h table, ap (λ (counts : Counts). counts.pulled) t.counts, t.long);
      frames = frames_are;
      needed = λ rule s. ap (λ (counts : Counts). 74 + 9 * counts.bad) t.counts ∙ sym (slip_long rule s h table);
      room = λ rule s.
          ap (λ (frames : List ℕ). 74 + length (flat_map field_bytes (map (frame_field s) frames))) frames_are
          ∙ sym (ap length (slip_parts rule s h table) ∙ length-append (flat_map field_bytes (head_fields rule h (counts_of h table))) (flat_map field_bytes (map (frame_field s) (bad_frames_of h table))));
    }
