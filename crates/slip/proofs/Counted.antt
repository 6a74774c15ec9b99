-- The counts of an inspection are small, and the slip is as long as they say.
use Rattle.std.proofs.Common.{◌≡◌, ℕ, suc, ◌+◌, ◌*◌, ◌≤◌, cond, List, [], ◌∷◌, ◌++◌, map, length, take, sym, refl, ap, ◌∙◌, arith}
use Rattle.std.specs.List.{flat_map}
use Rattle.std.proofs.lemmas.List.{length-append, length-take, take-take}
use Rattle.film.specs.Schemes.{SchemeMeaning}
use Rattle.draws.specs.Entries.{frame_of, state_of}
use Rattle.draws.specs.declared.entry.Entry.{Entry}
use Rattle.draws.specs.declared.entry.State.{State}
use Rattle.draws.specs.declared.entry.State.TheVariants.{Empty, Out, Good, Bad}
use Rattle.inspection.specs.Tables.{Held, size_of, counted, tally, counts_of}
use Rattle.slip.specs.Fields.{field_bytes, frame_field, head_fields, is_bad, bad_frames, bad_frames_of, slip_bytes}
use Rattle.inspection.proofs.Shapes.{tally_few}
use Rattle.std.proofs.lemmas.Grind.{flat_map-append}

-- no more are pulled than both samples take
pub pulled_few : (h : Held) (table : List Entry) → (counts_of h table).pulled ≤ size_of h.terms
pulled_few h table = omega (arith, (tally_few (take (size_of h.terms) table)).0, length-take (size_of h.terms) table)

-- the bad frames before the first empty entry are as many as were counted
one_more_bad : (state : State) (e : Entry) (es : List Entry) → state_of e ≡ state → length (bad_frames (take (tally es).pulled es)) ≡ (tally es).bad → length (bad_frames (take (counted state (tally es)).pulled (e ∷ es))) ≡ (counted state (tally es)).bad
one_more_bad Empty e es is rest = refl
one_more_bad Out e es is rest = ap (λ (s : State). length (cond (is_bad s) (frame_of e ∷ []) [] ++ bad_frames (take (tally es).pulled es))) is ∙ rest
one_more_bad Good e es is rest = ap (λ (s : State). length (cond (is_bad s) (frame_of e ∷ []) [] ++ bad_frames (take (tally es).pulled es))) is ∙ rest
one_more_bad Bad e es is rest = ap (λ (s : State). length (cond (is_bad s) (frame_of e ∷ []) [] ++ bad_frames (take (tally es).pulled es))) is ∙ ap suc rest

tally_bad : (entries : List Entry) → length (bad_frames (take (tally entries).pulled entries)) ≡ (tally entries).bad
tally_bad [] = refl
tally_bad (e ∷ es) = one_more_bad (state_of e) e es refl (tally_bad es)

pub bad_counted : (h : Held) (table : List Entry) → length (bad_frames_of h table) ≡ (counts_of h table).bad
bad_counted h table =
    let size = size_of h.terms in
    let within = pulled_few h table in
    ap (λ (entries : List Entry). length (bad_frames entries)) (sym (take-take (counts_of h table).pulled size table within))
    ∙ tally_bad (take size table)

frames_long : (s : SchemeMeaning) (frames : List ℕ) → length (flat_map field_bytes (map (frame_field s) frames)) ≡ 9 * length frames
frames_long s [] = refl
frames_long s (frame ∷ frames) =
    length-append (field_bytes (frame_field s frame)) (flat_map field_bytes (map (frame_field s) frames)) ∙ omega (arith, frames_long s frames)

-- the two parts of a slip
pub slip_parts : (rule : ℕ) (s : SchemeMeaning) (h : Held) (table : List Entry) → slip_bytes rule s h table ≡ flat_map field_bytes (head_fields rule h (counts_of h table)) ++ flat_map field_bytes (map (frame_field s) (bad_frames_of h table))
unfolding slip_bytes
slip_parts rule s h table = flat_map-append field_bytes (head_fields rule h (counts_of h table)) (map (frame_field s) (bad_frames_of h table))

pub slip_long : (rule : ℕ) (s : SchemeMeaning) (h : Held) (table : List Entry) → length (slip_bytes rule s h table) ≡ 74 + 9 * (counts_of h table).bad
slip_long rule s h table =
    ap length (slip_parts rule s h table)
    ∙ length-append (flat_map field_bytes (head_fields rule h (counts_of h table))) (flat_map field_bytes (map (frame_field s) (bad_frames_of h table)))
    ∙ ap (λ n. 74 + n) (frames_long s (bad_frames_of h table) ∙ ap (λ n. 9 * n) (bad_counted h table))
