-- In a lawful scheme a frame has one address, found from either side. Assumes nothing.
use Rattle.std.proofs.Common.{◌≡◌, ℕ, zero, suc, ◌+◌, ◌*◌, ◌<◌, min, List, [], ◌∷◌, length, get_or, Some, IfSome, IsSome, sym, ◌∙◌, arith}
use native.Mathlib.Nat.{div-add-mod'}
use lib.Arith.{digits_div, digits_mod}
use Rattle.std.proofs.lemmas.Bool.Decides.{nat_tests}
use Rattle.film.specs.declared.address.Address.{Address}
use Rattle.film.specs.Refusals.{Answer, given}
use Rattle.film.specs.Schemes.{SchemeMeaning, Lawful, InUnitsOf, Locates, Addresses, at, place_of, located, addressed, unit_frame, unit_address}

-- the address stands at the place i of the list
abbrev Stands : Address → List Address → ℕ → Type 0
Stands a l i = (i < length l) × (get_or l i (at 0 0) ≡ a)

-- what the search finds stands there
place_of_stands : (a : Address) (l : List Address) → IfSome (place_of a l) (Stands a l)
place_of_stands a [] = tt
place_of_stands a (b ∷ bs) = grind (arith, nat_tests, place_of_stands a bs)

-- what stands somewhere is found
place_of_finds : (a : Address) (l : List Address) (i : ℕ) → Stands a l i → IsSome (place_of a l)
place_of_finds a [] i s = absurd (omega (arith, s.0))
place_of_finds a (b ∷ bs) zero s = grind (arith, nat_tests)
place_of_finds a (b ∷ bs) (suc i) s = grind (arith, nat_tests, place_of_finds a bs i)

pub located_found : (m : SchemeMeaning) (N : ℕ) (a : Address) (frame : ℕ) → located m N a ≡ given frame → (place_of a m.addresses ≡ Some frame) × (frame < N)
unfolding located
located_found m N a frame e = grind (arith, nat_tests)

module _ (m : SchemeMeaning) (law : Lawful m) (N : ℕ) where
  located_addressed : (a : Address) (frame : ℕ) → located m N a ≡ given frame → addressed m N frame ≡ given a
  unfolding located addressed
  located_addressed a frame e = grind (arith, nat_tests, place_of_stands a m.addresses, law.long)

  addressed_located : (a : Address) (frame : ℕ) → addressed m N frame ≡ given a → located m N a ≡ given frame
  unfolding located addressed
  addressed_located a frame e = grind (arith, nat_tests, law.held frame, law.long, law.single, place_of_finds a m.addresses frame, place_of_stands a m.addresses)

  pub locates : (a : Address) (answer : Answer ℕ) → answer ≡ located m N a → Locates m N a answer
  locates a answer e = record { value = e; back = λ frame is. located_addressed a frame (sym e ∙ is); found = λ frame is. e ∙ addressed_located a frame is }

  pub addresses : (frame : ℕ) (answer : Answer Address) → answer ≡ addressed m N frame → Addresses m N frame answer
  addresses frame answer e = record { value = e; back = λ a is. addressed_located a frame (sym e ∙ is); found = λ a is. e ∙ located_addressed a frame is }

  module _ (F : ℕ) (units : InUnitsOf F m) (end : ℕ) (ends : end ≡ min N m.reach) where
    -- an address's frame is its whole units and its part
    place_in_units : (a : Address) → IfSome (place_of a m.addresses) (λ i. i ≡ a.whole * F + a.part)
    place_in_units a = grind (arith, place_of_stands a m.addresses, law.long, units.order, div-add-mod')

    units_addressed : (a : Address) → a.part < F → a.whole * F + a.part < end → addressed m N (a.whole * F + a.part) ≡ given a
    unfolding addressed
    units_addressed a part below = grind (arith, nat_tests, units.order (a.whole * F + a.part), digits_div a.whole part, digits_mod a.whole part)

    pub unit_located : (a : Address) → unit_frame F end a ≡ located m N a
    unfolding located
    unit_located a = grind (arith, nat_tests, units.parts a.whole, place_of_stands a m.addresses, law.long, units_addressed a, addressed_located a, place_in_units a)

    pub unit_addressed : (frame : ℕ) → unit_address F end frame ≡ addressed m N frame
    unfolding addressed
    unit_addressed frame = grind (arith, nat_tests, units.order frame)
