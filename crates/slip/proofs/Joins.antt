-- Bytes put one after another are put as one.
use Rattle.std.proofs.Common.{◌≡◌, ℕ, ◌+◌, ◌-◌, ◌<◌, ◌≤◌, List, [], ◌++◌, length, get_or, take, drop, sym, refl, ap, ◌∙◌, subst, arith}
use borrow.Rule.Slice.PartMut.{put_mid}
use Rattle.std.specs.List.{flat_map}
use Rattle.std.proofs.lemmas.List.{append-nil, append_assoc, length-append, length-drop, length-take-le, take_at, take_more, take_all, drop_at, drop-drop, flat_map_more}
use Rattle.std.proofs.lemmas.List.Folds.{length-flat_map-take}
use Rattle.slip.specs.Cursors.{HasRoom, Wrote, done, left}
use Rattle.slip.specs.declared.put.Cursor.{Cursor}

-- a copy into a part of the buffer
pub copied : (at : ℕ) (buffer bytes part : List ℕ) → part ≡ bytes → at + length bytes ≤ length buffer
    → (take (at + length bytes) (put_mid at ((at + length bytes) - at) buffer part) ≡ take at buffer ++ bytes)
    × (drop (at + length bytes) (put_mid at ((at + length bytes) - at) buffer part) ≡ drop (length bytes) (drop at buffer))
copied at buffer bytes part same fits =
    let width : (at + length bytes) - at ≡ length bytes = omega arith in
    let rest = drop (length bytes) (drop at buffer) in
    let whole : put_mid at ((at + length bytes) - at) buffer part ≡ (take at buffer ++ bytes) ++ rest =
    (λ i. take at buffer ++ (same i ++ drop (width i) (drop at buffer))) ∙ sym (append_assoc (take at buffer) bytes rest) in
    let front : length (take at buffer ++ bytes) ≡ at + length bytes = omega (arith, length-append (take at buffer) bytes, length-take-le at buffer (omega arith)) in (
      ap (take (at + length bytes)) whole ∙ take_at (take at buffer ++ bytes) rest (at + length bytes) front,
      ap (drop (at + length bytes)) whole ∙ drop_at (take at buffer ++ bytes) rest (at + length bytes) front,
    )

pub wrote_none : (c : Cursor) → Wrote c [] c
wrote_none c = record { before = sym (append-nil (done c)); behind = refl; same = refl }

pub wrote_more : {a b c : Cursor} {xs ys : List ℕ} → Wrote a xs b → Wrote b ys c → Wrote a (xs ++ ys) c
wrote_more {a} {b} {c} {xs} {ys} one two =
    record {
      before = two.before ∙ ap (λ l. l ++ ys) one.before ∙ append_assoc (done a) xs ys;
      behind = two.behind ∙ ap (drop (length ys)) one.behind ∙ drop-drop (length ys) (length xs) (left a) ∙ ap (λ n. drop n (left a)) (sym (length-append xs ys));
      same = two.same ∙ one.same;
    }

pub wrote_same : {a b : Cursor} {xs ys : List ℕ} → xs ≡ ys → Wrote a xs b → Wrote a ys b
wrote_same {a} {b} same one = subst (λ bytes. Wrote a bytes b) same one

-- what is left of the room
pub room_for : {a b : Cursor} {xs : List ℕ} (n : ℕ) → Wrote a xs b → length xs + n ≤ length (left a) → n ≤ length (left b)
room_for {a} {b} {xs} n one room = omega (arith, ap length one.behind, length-drop (length xs) (left a))

-- a loop that puts the bytes of each element, one turn on
module _ {X : Type 0} (f : X → List ℕ) (xs : List X) (i : ℕ) (d : X) (inside : i < length xs) {a b : Cursor} (so_far : Wrote a (flat_map f (take i xs)) b) where
  pub turn_room : HasRoom a (flat_map f xs) → HasRoom b (f (get_or xs i d))
  turn_room room =
      omega (arith, length-flat_map-take f xs i d inside, ap length so_far.behind, length-drop (length (flat_map f (take i xs))) (left a))

  pub turn : {c : Cursor} → Wrote b (f (get_or xs i d)) c → Wrote a (flat_map f (take (i + 1) xs)) c
  turn {c} more =
      subst (λ bytes. Wrote a bytes c)
      (flat_map_more f [] (take i xs) (get_or xs i d) ∙ ap (flat_map f) (sym (take_more xs i d inside)))
      (wrote_more so_far more)

pub turns_end : {X : Type 0} (f : X → List ℕ) (xs : List X) (i : ℕ) → length xs ≤ i → {a b : Cursor} → Wrote a (flat_map f (take i xs)) b → Wrote a (flat_map f xs) b
turns_end f xs i past {a} {b} so_far = subst (λ xs. Wrote a (flat_map f xs) b) (take_all i xs past) so_far
