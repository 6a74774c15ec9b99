-- What an address scheme means, and what locate and address answer in any scheme. Assumes nothing.
use Rattle.std.specs.Prelude.{◌≡◌, ℕ, suc, ◌+◌, ◌*◌, ◌/◌, ◌%◌, ◌<◌, ◌≤◌, Bool, cond, ◌&&◌, List, [], ◌∷◌, map, length, Some, None, codes, Option, ◌==◌, nat_le, nat_lt, slice_index_or}
use Rattle.std.specs.List.{range_with_len}
use Rattle.film.specs.Refusals.{Answer, given, refuse}
use Rattle.film.specs.declared.address.Address.{Address}

-- the scheme's byte on a slip, how many frames each whole unit holds, how many frames have an address, and
-- the addresses in frame order
pub record SchemeMeaning : Type 0 where
  pub code : ℕ
  pub parts : (whole : ℕ) → ℕ
  pub reach : ℕ
  pub addresses : List Address

abbrev pub at : ℕ → ℕ → Address
at whole part = record { whole = whole; part = part }

-- the address that stands at a frame
abbrev pub address_at : SchemeMeaning → ℕ → Address
address_at m frame = slice_index_or m.addresses frame (at 0 0)

-- what every scheme owes
pub record Lawful (m : SchemeMeaning) : Type 0 where
  -- the list is as long as the scheme reaches
  pub long : length m.addresses ≡ m.reach
  -- no address stands twice
  pub single : (i j : ℕ) → i < m.reach → j < m.reach → address_at m i ≡ address_at m j → i ≡ j
  -- an address's part is one that its unit holds
  pub held : (i : ℕ) → i < m.reach → (address_at m i).part < m.parts (address_at m i).whole
  -- a unit holds 1 to 256 frames
  pub some : (whole : ℕ) → 0 < m.parts whole
  pub few : (whole : ℕ) → m.parts whole ≤ 256

-- every unit holds F frames, and unit after unit is full
pub record InUnitsOf (F : ℕ) (m : SchemeMeaning) : Type 0 where
  pub parts : (whole : ℕ) → m.parts whole ≡ F
  pub order : (i : ℕ) → i < m.reach → address_at m i ≡ at (i / F) (i % F)

-- the addresses that fill unit after unit with F frames, up to a reach
unfoldable pub filled : (F reach : ℕ) → List Address
filled F reach = map (λ i. at (i / F) (i % F)) (range_with_len 0 reach)

abbrev pub regular : (code F reach : ℕ) → SchemeMeaning
regular code F reach = record { code = code; parts = λ _. F; reach = reach; addresses = filled F reach }

-- 35 mm film and 16 mm film by feet and frames, and timecode at 24 frames a second over a day
abbrev pub feet35 : SchemeMeaning
feet35 = regular 1 16 1000000

abbrev pub feet16 : SchemeMeaning
feet16 = regular 2 40 1000000

abbrev pub timecode24 : SchemeMeaning
timecode24 = regular 3 24 2073600

-- an address's frame where each unit holds F, below an end
abbrev pub unit_frame : (F end : ℕ) → Address → Answer ℕ
unit_frame F end a = cond (nat_le F a.part) (refuse 11 2 (codes "A")) (cond (nat_lt (a.whole * F + a.part) end) (given (a.whole * F + a.part)) (refuse 12 1 (codes "A")))

-- and a frame's address
abbrev pub unit_address : (F end frame : ℕ) → Answer Address
unit_address F end frame = cond (nat_lt frame end) (given (at (frame / F) (frame % F))) (refuse 12 1 (codes "A"))

abbrev pub same : Address → Address → Bool
same a b = a.whole == b.whole && a.part == b.part

abbrev pub onward : Option ℕ → Option ℕ
onward None = None
onward (Some i) = Some (suc i)

-- where an address stands in a list
abbrev pub place_of : Address → List Address → Option ℕ
place_of a [] = None
place_of a (b ∷ bs) = cond (same a b) (Some 0) (onward (place_of a bs))

-- a frame that was found, if the reel has it
abbrev pub on_reel : ℕ → Option ℕ → Answer ℕ
on_reel N None = refuse 12 1 (codes "A")
on_reel N (Some frame) = cond (nat_lt frame N) (given frame) (refuse 12 1 (codes "A"))

-- locate, on a reel of N frames
unfoldable pub located : SchemeMeaning → ℕ → Address → Answer ℕ
located m N a = cond (nat_le (m.parts a.whole) a.part) (refuse 11 2 (codes "A")) (on_reel N (place_of a m.addresses))

-- address, on a reel of N frames
unfoldable pub addressed : SchemeMeaning → ℕ → ℕ → Answer Address
addressed m N frame = cond (nat_lt frame N && nat_lt frame m.reach) (given (address_at m frame)) (refuse 12 1 (codes "A"))

-- what locate promises of its answer: it is the definition's, and a frame's one address is found from either side
pub record Locates (m : SchemeMeaning) (N : ℕ) (a : Address) (answer : Answer ℕ) : Type 0 where
  pub value : answer ≡ located m N a
  pub back : (frame : ℕ) → answer ≡ given frame → addressed m N frame ≡ given a
  pub found : (frame : ℕ) → addressed m N frame ≡ given a → answer ≡ given frame

-- and address of its
pub record Addresses (m : SchemeMeaning) (N frame : ℕ) (answer : Answer Address) : Type 0 where
  pub value : answer ≡ addressed m N frame
  pub back : (a : Address) → answer ≡ given a → located m N a ≡ given frame
  pub found : (a : Address) → located m N a ≡ given frame → answer ≡ given a
