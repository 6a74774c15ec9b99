-- What a frame viewed at once leaves. Assumes nothing.
use Rattle.std.specs.Prelude.{◌≡◌, ℕ, List, Ok, Err, Result}
use Rattle.film.specs.Refusals.{Answer, given, refused}
use Rattle.draws.specs.declared.entry.Entry.{Entry}
use Rattle.inspection.specs.Faults.{inspection_refusal}
use Rattle.inspection.specs.Tables.{Held, standing_code}
use Rattle.inspection.specs.declared.fault.InspectionFault.{InspectionFault}
use Rattle.inspection.specs.declared.report.Standing.{Standing}
use Rattle.console.specs.Sessions.{Viewing}

-- an inspection, its table and an answer, as a definition has them
pub record Leaves (v : Viewing) (h : Held) (table : List Entry) (answer : Answer ℕ) : Type 0 where
  pub held : h ≡ v.held
  pub table_left : table ≡ v.table
  pub value : answer ≡ v.answer

-- what the result says
abbrev pub view_reading : Result Standing InspectionFault → Answer ℕ
view_reading (Ok standing) = given (standing_code standing)
view_reading (Err fault) = refused (inspection_refusal fault)
