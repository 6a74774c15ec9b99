-- The slip layer's refusals, case by case. Assumes nothing.
use Rattle.std.specs.Prelude.{ℕ, List, ◌++◌, codes}
use Rattle.film.specs.Refusals.{Refusal}
use Rattle.film.specs.Faults.{number_of, place_of}
use Rattle.inspection.specs.Faults.{inspection_number, inspection_place, inspection_layers}
use Rattle.slip.specs.declared.fault.SlipFault.{SlipFault}
use Rattle.slip.specs.declared.fault.SlipFault.TheVariants.{Inspection, ShortBuffer, Address}

abbrev pub slip_number : SlipFault → ℕ
slip_number (Inspection fault) = inspection_number fault
slip_number (ShortBuffer needed) = 51
slip_number (Address fault) = number_of fault

abbrev pub slip_place : SlipFault → ℕ
slip_place (Inspection fault) = inspection_place fault
slip_place (ShortBuffer needed) = needed
slip_place (Address fault) = place_of fault

abbrev pub slip_layers : SlipFault → List ℕ
slip_layers (Inspection fault) = inspection_layers fault ++ codes "S"
slip_layers (ShortBuffer needed) = codes "S"
slip_layers (Address fault) = codes "AS"

abbrev pub slip_refusal : SlipFault → Refusal
slip_refusal fault = record { number = slip_number fault; place = slip_place fault; layers = slip_layers fault }
