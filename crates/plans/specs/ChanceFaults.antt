-- The refusals of the chance layer, case by case. Assumes nothing.
use Rattle.std.specs.Prelude.{ℕ, codes}
use Rattle.film.specs.Refusals.{Refusal}
use Rattle.plans.specs.declared.fault.ChanceFault.{ChanceFault}
use Rattle.plans.specs.declared.fault.ChanceFault.TheVariants.{ReelSize, BadFrames, ShortRow, TooManyDraws, Accept, Limit, Undecided, NoSample}

abbrev pub chance_number : ChanceFault → ℕ
chance_number ReelSize = 21
chance_number (BadFrames bad) = 22
chance_number (ShortRow cells) = 23
chance_number (TooManyDraws draws) = 24
chance_number (Accept accept) = 25
chance_number (Limit limit) = 26
chance_number (Undecided size) = 27
chance_number (NoSample size) = 28

abbrev pub chance_place : ChanceFault → ℕ
chance_place ReelSize = 0
chance_place (BadFrames bad) = bad
chance_place (ShortRow cells) = cells
chance_place (TooManyDraws draws) = draws
chance_place (Accept accept) = accept
chance_place (Limit limit) = limit
chance_place (Undecided size) = size
chance_place (NoSample size) = size

abbrev pub chance_refusal : ChanceFault → Refusal
chance_refusal fault = record { number = chance_number fault; place = chance_place fault; layers = codes "R" }
