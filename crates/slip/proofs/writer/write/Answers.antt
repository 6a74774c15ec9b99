use Rattle.std.proofs.Common.{◌≡◌, ℕ, ◌+◌, ◌-◌, ◌*◌, ◌≤◌, List, map, length, take, Err, Result, sym, ap, ◌∙◌, subst, arith, rules}
use Rattle.std.proofs.lemmas.Result.{err_from_is_err_and}
use Rattle.std.specs.List.{flat_map}
use Rattle.film.specs.Faults.{refusal_of}
use Rattle.film.specs.Refusals.{Answer, given, refused, reading}
use Rattle.inspection.specs.Faults.{inspection_refusal}
use Rattle.inspection.specs.Readings.{held_of, rule_of}
use Rattle.sampling.specs.declared.certified.Certified.{Certified}
use Rattle.slip.specs.Answers.{all_addressed, Writes}
use Rattle.slip.specs.Faults.{slip_refusal}
use Rattle.slip.specs.Fields.{bad_frames, bad_frames_of, field_bytes, frame_field, head_fields}
use Rattle.slip.specs.declared.fault.SlipFault.{SlipFault}
use Rattle.slip.proofs.Counted.{slip_parts}
use Rattle.slip.proofs.Joins.{room_for, wrote_more, wrote_same}
use Rattle.slip.proofs.Written.{known, short_table, short_buffer, unaddressed, written}
use Rattle.slip.proofs.writer.write.Goals as goal

pub returns-in_err-report : goal.returns-in_err-report
returns-in_err-report g c =
    let i = c.args.inspection.now in
    let rule = (g.R.DrawRule.meaning (rule_of i)).code in
    let s = g.S.Scheme.meaning c.args.scheme.now in
    let p = err_from_is_err_and c.from_residual.result c.from_residual.ensures.1 in
    let answer : reading slip_refusal c.from_residual.result ≡ _ = ap (λ (r : Result ℕ SlipFault). reading slip_refusal r) p.1 ∙ ap (λ (fault : SlipFault). refused (slip_refusal fault)) p.2 in
    let W : Answer ℕ → Type 0 = λ answer. Writes rule s (held_of i) c.args.table.now c.args.buffer.now answer c.args.buffer.now in
    subst W (sym answer) (short_table rule s (held_of i) c.args.table.now c.args.buffer.now (inspection_refusal c.in_err-report.field-0.0) c.in_err-report.ensures.answer.value)

pub returns-then-buffer-needed : goal.returns-then-buffer-needed
returns-then-buffer-needed g c =
    let i = c.args.inspection.now in
    let rule = (g.R.DrawRule.meaning (rule_of i)).code in
    let s = g.S.Scheme.meaning c.args.scheme.now in
    let k = known i c.args.table.now c.in_ok-report.report c.in_ok-report.ensures.answer.value in
    short_buffer rule s (held_of i) c.args.table.now c.args.buffer.now (74 + 9 * c.in_ok-report.report.counts.bad) k.long (k.needed rule s) c.if-buffer-needed.true

pub slice_bounds-pulled-end : goal.slice_bounds-pulled-end
slice_bounds-pulled-end g c =
    let k = known c.args.inspection.now c.args.table.now c.in_ok-report.report c.in_ok-report.ensures.answer.value in
    let inside : c.in_ok-report.report.counts.pulled ≤ length c.args.table.now = k.inside in
    search rules

pub returns-in_err-check_addresses : goal.returns-in_err-check_addresses
returns-in_err-check_addresses g c =
    let i = c.args.inspection.now in
    let rule = (g.R.DrawRule.meaning (rule_of i)).code in
    let s = g.S.Scheme.meaning c.args.scheme.now in
    let table = c.args.table.now in
    let buffer = c.args.buffer.now in
    let report = c.in_ok-report.report in
    let fault = c.in_err-check_addresses.field-0.0 in
    let k = known i table report c.in_ok-report.ensures.answer.value in
    let reel : c.reel.result ≡ (held_of i).terms.N = c.reel.ensures ∙ ap (λ (p : Certified _). p.reel) c.certified-certified.ensures in
    let first : reading {A = Unit {0}} refusal_of (Err fault) ≡ all_addressed s c.reel.result (bad_frames (take (report.counts.pulled - 0) table)) = c.in_err-check_addresses.ensures in
    let none : refused (refusal_of fault) ≡ all_addressed s (held_of i).terms.N (bad_frames_of (held_of i) table) =
    first
    ∙ ap (λ N. all_addressed s N (bad_frames (take (report.counts.pulled - 0) table))) reel
    ∙ ap (λ (frames : List ℕ). all_addressed s (held_of i).terms.N frames) k.frames in
    let fits = subst (λ n. n ≤ length buffer) (k.needed rule s) c.if-buffer-needed.false in
    let p = err_from_is_err_and c.from_residual-in_err-check_addresses.result c.from_residual-in_err-check_addresses.ensures.1 in
    let answer : reading slip_refusal c.from_residual-in_err-check_addresses.result ≡ _ = ap (λ (r : Result ℕ SlipFault). reading slip_refusal r) p.1 ∙ ap (λ (fault : SlipFault). refused (slip_refusal fault)) p.2 in
    let W : Answer ℕ → Type 0 = λ answer. Writes rule s (held_of i) table buffer answer buffer in
    subst W (sym answer) (unaddressed rule s (held_of i) table buffer (refusal_of fault) k.long fits none)

pub head-requires-clause-room : goal.head-requires-clause-room
head-requires-clause-room g c = omega (arith, c.if-buffer-needed.false, ap length c.new-cursor.ensures.behind)

pub bad_frames-requires-clause-room : goal.bad_frames-requires-clause-room
bad_frames-requires-clause-room g c =
    let i = c.args.inspection.now in
    let rule = (g.R.DrawRule.meaning (rule_of i)).code in
    let s = g.S.Scheme.meaning c.args.scheme.now in
    let report = c.in_ok-report.report in
    let k = known i c.args.table.now report c.in_ok-report.ensures.answer.value in
    let frames = flat_map field_bytes (map (frame_field s) (bad_frames (take (report.counts.pulled - 0) c.args.table.now))) in
    room_for (length frames) c.head.ensures (omega (arith, ap length c.new-cursor.ensures.behind, k.room rule s, k.needed rule s, c.if-buffer-needed.false))

pub returns : goal.returns
returns g c =
    let i = c.args.inspection.now in
    let h = held_of i in
    let rule = (g.R.DrawRule.meaning (rule_of i)).code in
    let s = g.S.Scheme.meaning c.args.scheme.now in
    let table = c.args.table.now in
    let buffer = c.args.buffer.now in
    let report = c.in_ok-report.report in
    let k = known i table report c.in_ok-report.ensures.answer.value in
    let reel : c.reel.result ≡ h.terms.N = c.reel.ensures ∙ ap (λ (p : Certified _). p.reel) c.certified-certified.ensures in
    let first : given tt ≡ all_addressed s c.reel.result (bad_frames (take (report.counts.pulled - 0) table)) = c.in_ok-check_addresses.ensures in
    let all : given tt ≡ all_addressed s h.terms.N (bad_frames_of h table) = first ∙ (λ t. all_addressed s (reel t) (k.frames t)) in
    let fits = subst (λ n. n ≤ length buffer) (k.needed rule s) c.if-buffer-needed.false in
    let head = wrote_same (λ t. flat_map field_bytes (head_fields rule (record { number = h.number; terms = h.terms; standing = k.code t }) (k.counts t))) c.head.ensures in
    let frames = wrote_same (λ t. flat_map field_bytes (map (frame_field s) (k.frames t))) c.bad_frames.ensures in
    written rule s h table buffer k.long fits all c.new-cursor.ensures.before c.new-cursor.ensures.behind (wrote_same (sym (slip_parts rule s h table)) (wrote_more head frames)) _ _ c.count.ensures (search rules)
