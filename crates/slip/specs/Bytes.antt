-- Numbers as bytes, the highest first. Assumes nothing.
use Rattle.std.specs.Prelude.{ℕ, zero, suc, ◌/◌, ◌%◌, ◌^◌, List, [], ◌∷◌}
use Rattle.std.specs.List.{flat_map}
use Rattle.slip.specs.declared.put.Number.{Number}
use Rattle.slip.specs.declared.put.Number.TheVariants.{One, Two, Four, Eight}

abbrev pub be : (width : ℕ) → ℕ → List ℕ
be zero n = []
be (suc k) n = (n / 256 ^ k) % 256 ∷ be k n

-- a number in as many bytes as its type has
abbrev pub number_bytes : Number → List ℕ
number_bytes (One n) = be 1 n
number_bytes (Two n) = be 2 n
number_bytes (Four n) = be 4 n
number_bytes (Eight n) = be 8 n

abbrev pub bytes_of : List Number → List ℕ
bytes_of numbers = flat_map number_bytes numbers
