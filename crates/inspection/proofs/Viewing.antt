-- One frame viewed: its pull and its true mark are accepted, and the table is as if that much of the list were viewed. Assumes nothing.
use Rattle.std.proofs.Common.{◌≡◌, ℕ, zero, suc, ◌+◌, Bool, true, false, cond, eqb, List, [], ◌∷◌, ◌++◌, map, length, get_or, set, replicate, sym, refl, ap, ◌∙◌, subst, inl, inr, ⊎_elim, arith}
use Rattle.std.proofs.lemmas.List.{append_assoc, length_push, length-map, length-set, map-append, map_push, set_at, get_or_at}
use Rattle.std.proofs.lemmas.Bool.{cond-true, cond-false, le-ltb, lt-ltb, lt-leb, eq-eqb, ne_eqb, and_from}
use Rattle.film.specs.Refusals.{given}
use Rattle.film.specs.Schemes.{SchemeMeaning, located}
use Rattle.film.specs.declared.address.Address.{Address}
use Rattle.draws.specs.Draws.{DrawMeaning}
use Rattle.draws.specs.Entries.{state_of, frame_of, frames_of}
use Rattle.draws.specs.declared.entry.State.TheVariants.{Empty, Good, Bad}
use Rattle.draws.specs.declared.entry.Entry.{Entry}
use Rattle.plans.specs.Plans.{samples_of}
use Rattle.plans.specs.Standings.{standing, true_mark, true_marks}
use Rattle.sampling.specs.Certified.{CertifiedNumbers}
use Rattle.inspection.specs.Tables.{Held, size_of, blank, sent_out, with_state, state_for, is_out, counts_of, drawn_of, table_standing}
use Rattle.inspection.specs.Answers.{no_more, asked, pull_answer, pull_table, mark_answer, mark_table, moved_on, standing_answer}
use Rattle.inspection.specs.Runs.{Settled}
use Rattle.inspection.specs.Views.{judgement}
use Rattle.inspection.specs.declared.report.Counts.{Counts}
use Rattle.inspection.specs.declared.ticket.Mark.TheVariants.{Good as GoodMark, Bad as BadMark}
use Rattle.inspection.specs.declared.ticket.Stub.{Stub}
use Rattle.inspection.proofs.Shapes.{Shape, Filled, is_pulled, both_samples, long, tallied, taken}
use Rattle.inspection.proofs.Stages.{Roomy, roomy}

-- an entry whose frame is marked truly
abbrev pub true_entry : (ℕ → Bool) → ℕ → Entry
true_entry is_bad frame = record { frame = frame; state = true_mark is_bad frame }

abbrev pub true_entries : (ℕ → Bool) → List ℕ → List Entry
true_entries is_bad frames = map (true_entry is_bad) frames

true_filled : (is_bad : ℕ → Bool) (frames : List ℕ) → Filled (true_entries is_bad frames)
true_filled is_bad [] = tt
true_filled is_bad (f ∷ frames) = (pulled (is_bad f), true_filled is_bad frames)
  where
    pulled : (b : Bool) → is_pulled (cond b Bad Good) ≡ true
    pulled true = refl
    pulled false = refl

true_frames : (is_bad : ℕ → Bool) (frames : List ℕ) → frames_of (true_entries is_bad frames) ≡ frames
true_frames is_bad [] = refl
true_frames is_bad (f ∷ frames) = ap (λ l. f ∷ l) (true_frames is_bad frames)

true_states : (is_bad : ℕ → Bool) (frames : List ℕ) → map state_of (true_entries is_bad frames) ≡ true_marks is_bad frames
true_states is_bad [] = refl
true_states is_bad (f ∷ frames) = ap (λ l. true_mark is_bad f ∷ l) (true_states is_bad frames)

blank_states : (b : ℕ) → map state_of (replicate b blank) ≡ replicate b Empty
blank_states zero = refl
blank_states (suc b) = ap (λ l. Empty ∷ l) (blank_states b)

judged_truly : (is_bad : ℕ → Bool) (frame : ℕ) → state_for (judgement is_bad frame) ≡ true_mark is_bad frame
judged_truly is_bad frame = by (is_bad frame)
  where
    by : (b : Bool) → state_for (cond b BadMark GoodMark) ≡ cond b Bad Good
    by true = refl
    by false = refl

module _ (is_bad : ℕ → Bool) (number : ℕ) (c : CertifiedNumbers) where
  abbrev pub held : (code : ℕ) → Held
  held code = record { number = number; terms = c; standing = code }

  -- the standing while a list's first frames are viewed
  abbrev pub so_far : List ℕ → ℕ → ℕ
  so_far pre b = standing (samples_of c.plan) (true_marks is_bad pre ++ replicate b Empty)

  -- these frames are viewed, b entries of both samples are empty, and the standing is what they give
  pub record Seen (pre : List ℕ) (b : ℕ) (code : ℕ) (back table : List Entry) : Type 0 where
    pub is : table ≡ true_entries is_bad pre ++ (replicate b blank ++ back)
    pub fills : length pre + b ≡ size_of c
    pub code_is : code ≡ so_far pre b

  seen_shape : (pre : List ℕ) (b code : ℕ) (back table : List Entry) → Seen pre b code back table → Shape c (true_entries is_bad pre) b back table
  seen_shape pre b code back table seen = record { is = seen.is; fills = ap (λ n. n + b) (length-map pre (true_entry is_bad)) ∙ seen.fills; filled = true_filled is_bad pre }

  -- standing is answered, with the code that stands
  pub standing_given : (pre : List ℕ) (b code : ℕ) (back table : List Entry) → Seen pre b code back table → standing_answer (held code) table ≡ given (record { code = code; counts = counts_of (held code) table })
  standing_given pre b code back table seen = cond-false _ _ _ (le-ltb _ _ (long c (true_entries is_bad pre) b back table (seen_shape pre b code back table seen)))

  -- the table gives the standing so far
  gives : (pre : List ℕ) (b : ℕ) (back table : List Entry) → Shape c (true_entries is_bad pre) b back table → table_standing c.plan table ≡ so_far pre b
  unfolding table_standing
  gives pre b back table shape =
      ap (λ l. standing (samples_of c.plan) (map state_of l)) (both_samples c (true_entries is_bad pre) b back table shape)
      ∙ ap (standing (samples_of c.plan)) (map-append state_of (true_entries is_bad pre) (replicate b blank) ∙ (λ i. true_states is_bad pre i ++ blank_states b i))

  -- an unsettled standing leaves room
  room : (code pulled : ℕ) (pre : List ℕ) → pulled ≡ length pre → (Settled code → ⊥) → Roomy is_bad c.plan.n1 c.plan.n2 pre code → no_more (held code) pulled ≡ false
  room code pulled pre e going r =
      ⊎_elim (λ s. absurd (going s))
      (⊎_elim
      (λ first. ap (λ n. no_more (held n) pulled) first.0 ∙ lt-leb c.plan.n1 pulled (omega (arith, first.1)))
      (λ second. ap (λ n. no_more (held n) pulled) second.0 ∙ lt-leb (size_of c) pulled (omega (arith, second.1)))) r

  unsettled_moves : (code now : ℕ) → (Settled code → ⊥) → cond (eqb code 1) 1 (cond (eqb code 2) 2 now) ≡ now
  unsettled_moves code now going =
      cond-false (eqb code 1) 1 _ (ne_eqb code 1 (λ e. going (inl e))) ∙ cond-false (eqb code 2) 2 now (ne_eqb code 2 (λ e. going (inr e)))

  abbrev pub ticket : List ℕ → ℕ → Stub
  ticket pre frame = record { reel = number; place = length pre; frame = frame }

  module _ (m : DrawMeaning) (s : SchemeMeaning) (pre : List ℕ) (b code : ℕ) (back table : List Entry) (seen : Seen pre (suc b) code back table) (going : Settled code → ⊥)
      (a : Address) (frame : ℕ) (found : located s c.N a ≡ given frame) (follows : m.follows c.N pre frame ≡ true) where
    abbrev pub sent : List Entry
    sent = pull_table table (given (ticket pre frame))

    abbrev pub left : List Entry
    left = mark_table sent (ticket pre frame) (judgement is_bad frame) (given tt)

    shape : Shape c (true_entries is_bad pre) (suc b) back table
    shape = seen_shape pre (suc b) code back table seen

    many : length (true_entries is_bad pre) ≡ length pre
    many = length-map pre (true_entry is_bad)

    pulled_is : (counts_of (held code) table).pulled ≡ length pre
    pulled_is = ap (λ (k : Counts). k.pulled) (tallied c (true_entries is_bad pre) (suc b) back table shape) ∙ many

    drawn_is : drawn_of (held code) table ≡ pre
    drawn_is = ap frames_of (taken c (true_entries is_bad pre) (suc b) back table shape _ (pulled_is ∙ sym many)) ∙ true_frames is_bad pre

    pub pull_accepted : pull_answer m s (held code) table a ≡ given (ticket pre frame)
    pull_accepted =
        cond-false _ _ _ (le-ltb _ _ (long c (true_entries is_bad pre) (suc b) back table shape))
        ∙ cond-false _ _ _ (room code _ pre pulled_is going (subst (Roomy is_bad c.plan.n1 c.plan.n2 pre) (sym seen.code_is) (roomy is_bad c.plan.n1 c.plan.ac1 c.plan.re1 c.plan.n2 c.plan.ac2 pre (suc b))))
        ∙ ap (asked m (held code) table) found
        ∙ cond-true _ _ _ (ap (λ l. m.follows c.N l frame) drawn_is ∙ follows)
        ∙ (λ i. given (record { reel = number; place = pulled_is i; frame = frame }))

    sent_is : sent ≡ true_entries is_bad pre ++ (sent_out frame ∷ (replicate b blank ++ back))
    sent_is = ap (λ t. set t (length pre) (sent_out frame)) seen.is ∙ set_at (true_entries is_bad pre) blank (replicate b blank ++ back) (sent_out frame) (length pre) many

    entry_is : get_or sent (length pre) blank ≡ sent_out frame
    entry_is = ap (λ t. get_or t (length pre) blank) sent_is ∙ get_or_at (true_entries is_bad pre) (sent_out frame) (replicate b blank ++ back) blank (length pre) many

    pub mark_accepted : mark_answer (held code) sent (ticket pre frame) ≡ given tt
    mark_accepted =
        let fits = long c (true_entries is_bad pre) (suc b) back table shape in
        cond-false _ _ _ (le-ltb (length sent) (size_of c) (omega (arith, length-set table (length pre) (sent_out frame))))
        ∙ cond-true _ _ _ (and_from (eqb number number) _ (eq-eqb number number refl)
        (and_from _ _ (lt-ltb (length pre) (size_of c) (omega (arith, seen.fills))) (eq-eqb _ frame (ap frame_of entry_is))))
        ∙ cond-true _ _ _ (ap (λ e. is_out (state_of e)) entry_is)

    left_is : left ≡ true_entries is_bad (pre ++ frame ∷ []) ++ (replicate b blank ++ back)
    left_is =
        ap (set sent (length pre)) ((λ i. with_state (entry_is i) (judged_truly is_bad frame i)))
        ∙ ap (λ t. set t (length pre) (true_entry is_bad frame)) sent_is
        ∙ set_at (true_entries is_bad pre) (sent_out frame) (replicate b blank ++ back) (true_entry is_bad frame) (length pre) many
        ∙ sym (append_assoc (true_entries is_bad pre) (true_entry is_bad frame ∷ []) (replicate b blank ++ back))
        ∙ ap (λ l. l ++ (replicate b blank ++ back)) (sym (map_push (true_entry is_bad) pre frame))

    -- after the frame is viewed
    pub seen_more : Seen (pre ++ frame ∷ []) b (moved_on (held code) left) back left
    seen_more =
        let shorter : Shape c (true_entries is_bad (pre ++ frame ∷ [])) b back left = record {
          is = left_is;
          fills = omega (arith, seen.fills, length-map (pre ++ frame ∷ []) (true_entry is_bad), length_push pre frame);
          filled = true_filled is_bad (pre ++ frame ∷ []);
        } in
        record {
          is = left_is;
          fills = omega (arith, seen.fills, length_push pre frame);
          code_is = unsettled_moves code _ going ∙ gives (pre ++ frame ∷ []) b back left shorter;
        }
