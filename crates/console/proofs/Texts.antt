-- Refusals as they are printed. Assumes nothing.
use Rattle.std.proofs.Common.{◌≡◌, ◌++◌, codes, refl, append_assoc}
use Rattle.std.specs.Fmt.{digits}
use Rattle.film.specs.Refusals.{Refusal, refusal_text}
use Rattle.plans.specs.Faults.{plan_refusal}
use Rattle.inspection.specs.Faults.{inspection_refusal}
use Rattle.slip.specs.Faults.{slip_refusal}
use Rattle.console.specs.Sessions.{passed_on}
use Rattle.console.specs.Faults.{console_text, console_refusal}
use Rattle.console.specs.declared.fault.ConsoleFault.{ConsoleFault}
use Rattle.console.specs.declared.fault.ConsoleFault.TheVariants.{Unreadable, OutOfTurn, TooLong, Plan, Inspection, Slip}

passed_on_lem : (r : Refusal) → refusal_text r ++ codes "M" ≡ refusal_text (passed_on r)
passed_on_lem r = simp append_assoc

pub text_is : (fault : ConsoleFault) → console_text fault ≡ refusal_text (console_refusal fault)
unfolding digits
text_is (Unreadable line) = refl
text_is (OutOfTurn line) = refl
text_is TooLong = refl
text_is (Plan fault) = passed_on_lem (plan_refusal fault)
text_is (Inspection fault) = passed_on_lem (inspection_refusal fault)
text_is (Slip fault) = passed_on_lem (slip_refusal fault)
