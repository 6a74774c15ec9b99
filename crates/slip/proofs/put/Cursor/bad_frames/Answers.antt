use Rattle.std.proofs.Common.{◌≡◌, ℕ, ◌+◌, ◌<◌, true, List, [], ◌∷◌, length, get_or, drop, sym, ap, ◌∙◌, arith}
use Rattle.std.specs.List.{flat_map}
use Rattle.film.specs.Refusals.{given}
use Rattle.film.specs.Schemes.{SchemeMeaning}
use Rattle.draws.specs.Entries.{frame_of, state_of}
use Rattle.draws.specs.declared.entry.Entry.{Entry}
use Rattle.inspection.specs.Tables.{blank}
use Rattle.slip.specs.Answers.{all_addressed}
use Rattle.slip.specs.Cursors.{HasRoom}
use Rattle.slip.specs.Fields.{bad_frames, is_bad}
use Rattle.slip.proofs.Addressing.{entry_bytes, entry_by_entry, first_addressed, bytes_if_bad, bytes_if_other, left_if_bad, left_if_other}
use Rattle.slip.proofs.Joins.{wrote_none, wrote_same, turn_room, turn, turns_end}
use Rattle.slip.proofs.put.Cursor.bad_frames.Goals as goal
use Rattle.slip.proofs.put.Cursor.bad_frames.Goals.{then-is_bad, else-is_bad}

-- this entry and those behind it, where it is bad
addressed_here : (m : SchemeMeaning) (N : ℕ) (entries : List Entry) (i : ℕ) → i < length entries → is_bad (state_of (get_or entries i blank)) ≡ true → all_addressed m N (bad_frames (drop i entries)) ≡ given tt → (all_addressed m N (frame_of (get_or entries i blank) ∷ []) ≡ given tt) × (all_addressed m N (bad_frames (drop (i + 1) entries)) ≡ given tt)
addressed_here m N entries i inside bad all =
    first_addressed m N (frame_of (get_or entries i blank)) (bad_frames (drop (i + 1) entries)) (sym (ap (all_addressed m N) (left_if_bad entries i blank inside bad)) ∙ all)

pub bad_frame-requires-clause-room : goal.bad_frame-requires-clause-room
bad_frame-requires-clause-room g c =
    let m = g.S.Scheme.meaning c.args.scheme.now in
    let entries = c.args.pulled.now in
    let i = c.loop-entry.entry-index in
    let whole : HasRoom c.args.self.now (flat_map (entry_bytes m) entries) = omega (arith, ap length (entry_by_entry m entries), c.requires.room) in
    let here : HasRoom c.loop-entry.self (entry_bytes m (get_or entries i blank)) = turn_room (entry_bytes m) entries i blank c.loop-entry-test.true c.loop-entry.invariant.0 whole in
    omega (arith, here, ap length (bytes_if_bad m (get_or entries i blank) (sym c.is_bad.ensures ∙ c.if-is_bad.true)))

pub loop-entry-preserved : goal.loop-entry-preserved
loop-entry-preserved g c =
    let m = g.S.Scheme.meaning c.args.scheme.now in
    let i = c.loop-entry.entry-index in
    let entries = c.args.pulled.now in
    elim c.if-is_bad.branch [
      | then-is_bad w ↦
          let bad = sym c.is_bad.ensures ∙ w.if-is_bad.true in
          rw w.self-is (
            turn (entry_bytes m) entries i blank c.loop-entry-test.true c.loop-entry.invariant.0 (wrote_same (sym (bytes_if_bad m (get_or entries i blank) bad)) w.bad_frame.ensures),
            (addressed_here m c.args.reel entries i c.loop-entry-test.true bad c.loop-entry.invariant.1).1,
          )
      | else-is_bad w ↦
          let other = sym c.is_bad.ensures ∙ w.if-is_bad.false in
          rw w.self-is (
            turn (entry_bytes m) entries i blank c.loop-entry-test.true c.loop-entry.invariant.0 (wrote_same (sym (bytes_if_other m (get_or entries i blank) other)) (wrote_none c.loop-entry.self)),
            sym (ap (all_addressed m c.args.reel) (left_if_other entries i blank c.loop-entry-test.true other)) ∙ c.loop-entry.invariant.1,
          )
    ]

pub returns : goal.returns
returns g c =
    let m = g.S.Scheme.meaning c.args.scheme.now in
    wrote_same (sym (entry_by_entry m c.args.pulled.now)) (turns_end (entry_bytes m) c.args.pulled.now c.loop-entry.entry-index c.loop-entry-test.false c.loop-entry.invariant.0)
