use Rattle.std.proofs.Common.{◌≡◌, Err, sym, ap, ◌∙◌, rules, arith}
use Rattle.std.proofs.lemmas.List.{with_items_is}
use Rattle.std.proofs.lemmas.Result.{err_from_is_err_and}
use Rattle.inspection.specs.Readings.{held_of, rule_of}
use Rattle.console.specs.Readings.{answer_of}
use Rattle.console.specs.Phases.{phase_of}
use Rattle.console.specs.Sessions.{opened, step, plan_step, bounds}
use Rattle.console.proofs.Begun.{opened_step, refused_step}
use Rattle.console.proofs.state.Session.begin_plan.Goals as goal

pub returns-in_err-inspection : goal.returns-in_err-inspection
returns-in_err-inspection c =
    let self = c.args.self.now in
    let left = with_items_is self.table c.begin.new.table (omega arith) in
    let p = err_from_is_err_and c.from_residual.result c.from_residual.ensures.1 in
    (λ i. step (phase_of (c.in-Noted.is i)) (left i) (answer_of ((p.1 ∙ ap Err p.2) i) self.buffer.items)) ∙
    refused_step c.in-Noted.reel _ _ _ _ _ (omega arith) (omega arith) _ c.in_err-inspection.ensures.answer ∙
    (λ i. plan_step c.args.line c.args.numbers (phase_of (sym c.in-Noted.is i)) (c.as_mut_slice.ensures.value i))

pub returns : goal.returns
returns c =
    let self = c.args.self.now in
    let left = with_items_is self.table c.begin.new.table (omega arith) in
    let h = held_of c.in_ok-inspection.inspection in
    let rule = rule_of c.in_ok-inspection.inspection in
    let lo : c.lo.result ≡ h.terms.lo = search rules in
    let hi : c.hi.result ≡ h.terms.hi = search rules in
    (λ i. step (opened rule h) (left i) (bounds (lo i) (hi i))) ∙
    opened_step c.in-Noted.reel _ _ _ _ _ (omega arith) (omega arith) h rule c.in_ok-inspection.ensures.answer c.in_ok-inspection.ensures.kept ∙
    (λ i. plan_step c.args.line c.args.numbers (phase_of (sym c.in-Noted.is i)) (c.as_mut_slice.ensures.value i))
