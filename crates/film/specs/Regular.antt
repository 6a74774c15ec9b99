-- A scheme that fills unit after unit is lawful. Assumes nothing.
use Rattle.std.specs.Prelude.{◌≡◌, ℕ, ◌/◌, ◌%◌, ◌<◌, ◌≤◌, length, refl}
use Rattle.std.proofs.Common.{mod-lt, arith}
use Rattle.std.proofs.Math.Nat.{div-add-mod}
use Rattle.std.proofs.lemmas.List.FromFn.{length-map-range_with_len, get_or-map-range_with_len}
use Rattle.film.specs.Schemes.{Lawful, InUnitsOf, regular, filled, at, address_at}

pub length_filled : (F reach : ℕ) → length (filled F reach) ≡ reach
unfolding filled
length_filled F reach = length-map-range_with_len (λ i. at (i / F) (i % F)) 0 reach

pub regular_at : (code F reach i : ℕ) → i < reach → address_at (regular code F reach) i ≡ at (i / F) (i % F)
unfolding filled
regular_at code F reach i h = get_or-map-range_with_len (λ j. at (j / F) (j % F)) 0 reach i i (at 0 0) h (omega arith)

pub regular_in_units : (code F reach : ℕ) → InUnitsOf F (regular code F reach)
regular_in_units code F reach = record { parts = λ _. refl; order = λ i h. regular_at code F reach i h }

pub regular_lawful : (code F reach : ℕ) → 0 < F → F ≤ 256 → Lawful (regular code F reach)
regular_lawful code F reach some few = record {
  long = length_filled F reach;
  -- a frame is its whole units and its part
  single = λ i j hi hj e. grind (arith, regular_at code F reach i hi, regular_at code F reach j hj, div-add-mod i F, div-add-mod j F);
  held = λ i h. grind (arith, regular_at code F reach i h, mod-lt i some);
  some = λ _. some;
  few = λ _. few;
}
