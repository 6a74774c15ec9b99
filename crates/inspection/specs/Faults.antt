-- The refusals of the inspection layer, case by case. Assumes nothing.
use Rattle.std.specs.Prelude.{ℕ, List, codes}
use Rattle.film.specs.Refusals.{Refusal}
use Rattle.film.specs.Faults.{number_of, place_of}
use Rattle.inspection.specs.declared.fault.InspectionFault.{InspectionFault}
use Rattle.inspection.specs.declared.fault.InspectionFault.TheVariants.{Unlocated, ShortTable, NoMorePulls, MayNotFollow, OtherTicket, NotOut}

abbrev pub inspection_number : InspectionFault → ℕ
inspection_number (Unlocated fault) = number_of fault
inspection_number (ShortTable needed) = 41
inspection_number (NoMorePulls pulled) = 42
inspection_number (MayNotFollow frame) = 43
inspection_number (OtherTicket place) = 44
inspection_number (NotOut place) = 45

abbrev pub inspection_place : InspectionFault → ℕ
inspection_place (Unlocated fault) = place_of fault
inspection_place (ShortTable needed) = needed
inspection_place (NoMorePulls pulled) = pulled
inspection_place (MayNotFollow frame) = frame
inspection_place (OtherTicket place) = place
inspection_place (NotOut place) = place

-- an address fault came through the layer below
abbrev pub inspection_layers : InspectionFault → List ℕ
inspection_layers (Unlocated fault) = codes "AI"
inspection_layers (ShortTable needed) = codes "I"
inspection_layers (NoMorePulls pulled) = codes "I"
inspection_layers (MayNotFollow frame) = codes "I"
inspection_layers (OtherTicket place) = codes "I"
inspection_layers (NotOut place) = codes "I"

abbrev pub inspection_refusal : InspectionFault → Refusal
inspection_refusal fault = record { number = inspection_number fault; place = inspection_place fault; layers = inspection_layers fault }
