-- What the values that the calls take and answer say, in plain numbers. Assumes nothing.
use Rattle.std.specs.Prelude.{◌≡◌, ℕ, ◌<◌, ◌≤◌, true, false, List, length, take, codes, Ok, Err, Result}
use Rattle.std.specs.Borrow.{Bor}
use Rattle.film.specs.Refusals.{Answer, given, refused}
use Rattle.draws.specs.declared.entry.Entry.{Entry}
use Rattle.sampling.specs.Certified.{certified_numbers}
use Rattle.inspection.specs.Tables.{Held, standing_code}
use Rattle.inspection.specs.Answers.{Reported}
use Rattle.inspection.specs.Faults.{inspection_refusal}
use Rattle.inspection.specs.declared.calls.Inspection.{Inspection}
use Rattle.inspection.specs.declared.calls.Unmarked.{Unmarked}
use Rattle.inspection.specs.declared.fault.InspectionFault.{InspectionFault}
use Rattle.inspection.specs.declared.report.Report.{Report}
use Rattle.inspection.specs.declared.ticket.Stub.{Stub}
use Rattle.inspection.specs.declared.ticket.Ticket.{Ticket}

-- a ticket's numbers
abbrev pub numbers_of : Ticket → Stub
numbers_of t = t.stub

-- a ticket may be let fall once it is spent
abbrev pub IsSpent : Ticket → Type 0
IsSpent t = t.spent ≡ true

abbrev pub IsUnspent : Ticket → Type 0
IsUnspent t = t.spent ≡ false

-- what an inspection holds beside its rule
abbrev pub held_of : {R : Type 0} → Inspection R → Held
held_of i = record { number = i.number; terms = certified_numbers i.certified; standing = standing_code i.standing }

abbrev pub rule_of : {R : Type 0} → Inspection R → R
rule_of i = i.certified.rule

-- what the results say
abbrev pub open_reading : {R : Type 0} → Result (Inspection R) InspectionFault → Answer Held
open_reading (Ok i) = given (held_of i)
open_reading (Err fault) = refused (inspection_refusal fault)

-- an inspection that is opened keeps the certified plan's rule
abbrev pub OpensWith : {R : Type 0} → Result (Inspection R) InspectionFault → R → Type 0
OpensWith (Ok i) rule = rule_of i ≡ rule
OpensWith (Err fault) rule = Unit {0}

abbrev pub pull_reading : Result Ticket InspectionFault → Answer Stub
pull_reading (Ok t) = given (numbers_of t)
pull_reading (Err fault) = refused (inspection_refusal fault)

abbrev pub mark_reading : Result (Unit {0}) Unmarked → Answer (Unit {0})
mark_reading (Ok done) = given tt
mark_reading (Err unmarked) = refused (inspection_refusal unmarked.fault)

-- of a check alone
abbrev pub check_reading : Result (Unit {0}) InspectionFault → Answer (Unit {0})
check_reading (Ok done) = given tt
check_reading (Err fault) = refused (inspection_refusal fault)

-- a refused mark hands the ticket back
abbrev pub HandsBack : Result (Unit {0}) Unmarked → Ticket → Type 0
HandsBack (Ok done) t = Unit {0}
HandsBack (Err unmarked) t = unmarked.ticket ≡ t

abbrev pub standing_reading : Result Report InspectionFault → Answer Reported
standing_reading (Ok r) = given (record { code = standing_code r.standing; counts = r.counts })
standing_reading (Err fault) = refused (inspection_refusal fault)

-- the entries of both samples, if the table has so many
abbrev pub BothSamples : (size : ℕ) → List Entry → Result (Bor (List Entry)) InspectionFault → Type 0
BothSamples size table (Ok entries) = (entries.now ≡ take size table) × (length entries.now ≡ size) × (size ≤ length table)
BothSamples size table (Err fault) = (inspection_refusal fault ≡ record { number = 41; place = size; layers = codes "I" }) × (length table < size)
