-- The program layer's refusals, case by case. Assumes nothing.
use Rattle.std.specs.Prelude.{ℕ, List, ◌++◌, codes, decimal}
use Rattle.film.specs.Refusals.{Refusal, refusal_text}
use Rattle.plans.specs.Faults.{plan_refusal}
use Rattle.inspection.specs.Faults.{inspection_refusal}
use Rattle.slip.specs.Faults.{slip_refusal}
use Rattle.console.specs.Sessions.{passed_on, unreadable, out_of_turn}
use Rattle.console.specs.Replies.{too_long}
use Rattle.console.specs.declared.fault.ConsoleFault.{ConsoleFault}
use Rattle.console.specs.declared.fault.ConsoleFault.TheVariants.{Unreadable, OutOfTurn, TooLong, Plan, Inspection, Slip}

-- as it is printed: a lower layer's refusal with the program's letter behind it
abbrev pub console_text : ConsoleFault → List ℕ
console_text (Unreadable line) = codes "no 61 " ++ (decimal line ++ codes " M")
console_text (OutOfTurn line) = codes "no 62 " ++ (decimal line ++ codes " M")
console_text TooLong = codes "no 63 0 M"
console_text (Plan fault) = refusal_text (plan_refusal fault) ++ codes "M"
console_text (Inspection fault) = refusal_text (inspection_refusal fault) ++ codes "M"
console_text (Slip fault) = refusal_text (slip_refusal fault) ++ codes "M"

abbrev pub console_refusal : ConsoleFault → Refusal
console_refusal (Unreadable line) = unreadable line
console_refusal (OutOfTurn line) = out_of_turn line
console_refusal TooLong = too_long
console_refusal (Plan fault) = passed_on (plan_refusal fault)
console_refusal (Inspection fault) = passed_on (inspection_refusal fault)
console_refusal (Slip fault) = passed_on (slip_refusal fault)
