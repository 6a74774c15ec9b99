-- What the samples of a plan whose numbers agree come to. Assumes nothing.
use Rattle.std.proofs.Common.{◌≡◌, ℕ, zero, suc, ◌+◌, sym, refl, add-zero, arith}
use Rattle.plans.specs.Plans.{samples_by, total, last_accept, AcceptsUpTo, AgreesBy}

pub total_plan : (n1 ac1 re1 n2 ac2 : ℕ) → total (samples_by n1 ac1 re1 n2 ac2) ≡ n1 + n2
total_plan n1 ac1 re1 zero ac2 = sym (add-zero n1)
total_plan n1 ac1 re1 (suc n2) ac2 = refl

pub last_accept_plan : (n1 ac1 re1 n2 ac2 : ℕ) → AgreesBy ac1 re1 n2 ac2 → last_accept (samples_by n1 ac1 re1 n2 ac2) ≡ ac2
last_accept_plan n1 ac1 re1 zero ac2 agrees = sym (agrees.1 refl)
last_accept_plan n1 ac1 re1 (suc n2) ac2 agrees = refl

pub accepts_plan : (n1 ac1 re1 n2 ac2 : ℕ) → AgreesBy ac1 re1 n2 ac2 → AcceptsUpTo (last_accept (samples_by n1 ac1 re1 n2 ac2)) (samples_by n1 ac1 re1 n2 ac2)
accepts_plan n1 ac1 re1 zero ac2 agrees = (omega arith, tt)
accepts_plan n1 ac1 re1 (suc n2) ac2 agrees = (omega (arith, agrees.2 (omega arith), agrees.3 (omega arith)), (omega arith, tt))
