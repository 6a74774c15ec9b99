-- What it tells that frames have their addresses.
use Rattle.std.proofs.Common.{◌≡◌, ℕ, ◌+◌, ◌<◌, Bool, true, false, cond, ◌&&◌, ltb, List, [], ◌∷◌, ◌++◌, map, length, get_or, drop, codes, refl, ap, ◌∙◌, arith}
use Rattle.std.specs.List.{flat_map}
use Rattle.std.proofs.lemmas.List.{at_drop_more, map-append}
use Rattle.std.proofs.lemmas.Bool.{and_parts, ltb-true}
use Rattle.film.specs.Refusals.{Refusal, Answer, given, refused}
use Rattle.film.specs.Schemes.{SchemeMeaning, Lawful, addressed, address_at}
use Rattle.film.specs.declared.address.Address.{Address}
use Rattle.draws.specs.Entries.{frame_of, state_of}
use Rattle.draws.specs.declared.entry.Entry.{Entry}
use Rattle.slip.specs.Answers.{if_given, all_addressed}
use Rattle.slip.specs.Fields.{field_bytes, frame_field, frame_if_bad, is_bad, bad_frames}
use Rattle.std.proofs.lemmas.Grind.{flat_map-append}

-- an address that was given is the frame's, and the scheme reaches it
pub record Reached (m : SchemeMeaning) (frame : ℕ) (a : Address) : Type 0 where
  pub same : a ≡ address_at m frame
  pub reach : frame < m.reach

given_by : (test : Bool) (a x : Address) (r : Refusal) → given a ≡ cond test (given x) (refused r) → (a ≡ x) × (test ≡ true)
given_by true a x r e = (cc, refl)
given_by false a x r e = absurd (cc)

pub reached : (m : SchemeMeaning) (N frame : ℕ) (a : Address) → given a ≡ addressed m N frame → Reached m frame a
unfolding addressed
reached m N frame a e =
    let p = given_by (ltb frame N && ltb frame m.reach) a (address_at m frame) (record { number = 12; place = 1; layers = codes "A" }) e in
    record { same = p.0; reach = ltb-true frame m.reach (and_parts (ltb frame N) (ltb frame m.reach) p.1).1 }

pub part_small : (m : SchemeMeaning) → Lawful m → (frame : ℕ) (a : Address) → Reached m frame a → a.part < 256
part_small m lawful frame a r =
    omega (arith, lawful.held frame r.reach, lawful.few (address_at m frame).whole, ap (λ (b : Address). b.part) r.same)

-- the first of several frames, and the others
both_given : {A : Type 0} (x : Answer A) (y : Answer (Unit {0})) → if_given x y ≡ given tt → (if_given {B = Unit {0}} x (given tt) ≡ given tt) × (y ≡ given tt)
both_given (given a) y e = (refl, e)
both_given (refused r) y e = absurd (cc)

pub first_addressed : (m : SchemeMeaning) (N frame : ℕ) (frames : List ℕ) → all_addressed m N (frame ∷ frames) ≡ given tt → (all_addressed m N (frame ∷ []) ≡ given tt) × (all_addressed m N frames ≡ given tt)
first_addressed m N frame frames e = both_given (addressed m N frame) (all_addressed m N frames) e

-- what one entry adds to a slip
abbrev pub entry_bytes : SchemeMeaning → Entry → List ℕ
entry_bytes m e = flat_map field_bytes (map (frame_field m) (frame_if_bad e))

pub entry_by_entry : (m : SchemeMeaning) (entries : List Entry) → flat_map field_bytes (map (frame_field m) (bad_frames entries)) ≡ flat_map (entry_bytes m) entries
entry_by_entry m [] = refl
entry_by_entry m (e ∷ es) =
    ap (flat_map field_bytes) (map-append (frame_field m) (frame_if_bad e) (bad_frames es))
    ∙ flat_map-append field_bytes (map (frame_field m) (frame_if_bad e)) (map (frame_field m) (bad_frames es))
    ∙ ap (λ rest. entry_bytes m e ++ rest) (entry_by_entry m es)

-- an entry that is bad, and one that is not
pub bytes_if_bad : (m : SchemeMeaning) (e : Entry) → is_bad (state_of e) ≡ true → entry_bytes m e ≡ field_bytes (frame_field m (frame_of e))
bytes_if_bad m e bad = ap (λ (test : Bool). flat_map field_bytes (map (frame_field m) (cond test (frame_of e ∷ []) []))) bad

pub bytes_if_other : (m : SchemeMeaning) (e : Entry) → is_bad (state_of e) ≡ false → entry_bytes m e ≡ []
bytes_if_other m e other = ap (λ (test : Bool). flat_map field_bytes (map (frame_field m) (cond test (frame_of e ∷ []) []))) other

pub left_if_bad : (entries : List Entry) (i : ℕ) (d : Entry) → i < length entries → is_bad (state_of (get_or entries i d)) ≡ true → bad_frames (drop i entries) ≡ frame_of (get_or entries i d) ∷ bad_frames (drop (i + 1) entries)
left_if_bad entries i d inside bad =
    at_drop_more bad_frames entries i d inside
    ∙ ap (λ (test : Bool). cond test (frame_of (get_or entries i d) ∷ []) [] ++ bad_frames (drop (i + 1) entries)) bad

pub left_if_other : (entries : List Entry) (i : ℕ) (d : Entry) → i < length entries → is_bad (state_of (get_or entries i d)) ≡ false → bad_frames (drop i entries) ≡ bad_frames (drop (i + 1) entries)
left_if_other entries i d inside other =
    at_drop_more bad_frames entries i d inside
    ∙ ap (λ (test : Bool). cond test (frame_of (get_or entries i d) ∷ []) [] ++ bad_frames (drop (i + 1) entries)) other
