-- The plan's refusal and chance's answer cross as they are: the lowest letter is chance's own.
use Rattle.std.proofs.Common.{rules, refl}
use Rattle.capi.proofs.risk_calls.enclose.Goals as goal

pub returns : goal.returns
returns g c = rw c.in_ok-plan.was (record { answer = _; promised = c.in_ok-chance.ensures; crossed = refl })

pub returns-in_err-chance : goal.returns-in_err-chance
returns-in_err-chance g c = rw c.in_ok-plan.was (record { answer = _; promised = c.in_err-chance.ensures; crossed = search rules })
