-- The address layer's refusals, case by case. Assumes nothing.
use Rattle.std.specs.Prelude.{ℕ, codes}
use Rattle.film.specs.Refusals.{Refusal}
use Rattle.film.specs.declared.address.AddressFault.{AddressFault}
use Rattle.film.specs.declared.address.AddressFault.TheVariants.{NoSuchPart, OffReel}

abbrev pub number_of : AddressFault → ℕ
number_of NoSuchPart = 11
number_of OffReel = 12

abbrev pub place_of : AddressFault → ℕ
place_of NoSuchPart = 2
place_of OffReel = 1

abbrev pub refusal_of : AddressFault → Refusal
refusal_of fault = record { number = number_of fault; place = place_of fault; layers = codes "A" }
