-- One size more, and the end of the search.
use Rattle.std.proofs.Common.{◌≡◌, ◌+◌, ◌-◌, ◌*◌, min, false, true, cond, length, codes, sym, refl, ap, ◌∙◌, subst, arith}
use Rattle.std.proofs.lemmas.Bool.{lt-leb}
use Rattle.film.specs.Refusals.{given, refuse}
use Rattle.plans.specs.Working.{whole}
use Rattle.sampling.specs.Certifies.{is_within}
use Rattle.sampling.proofs.Searching.{Tried, tried_none, tried_more, low_next, high_next, size_fits, size_roomy, found, over}
use Rattle.sampling.proofs.draw.Drawing.search.Goals as goal

pub loop-drawn-init : goal.loop-drawn-init
loop-drawn-init g c =
    subst (Tried _ _ _ c.args.limit _ _ _ _ _) (sym (lt-leb (whole * 1000000) (c.args.limit * whole) (omega arith))) (tried_none _ (g.met.R.DrawRule.lawful c.args.rule.now) _ _ _ _ _ _ _ _ _ c.requires.a_share (omega arith) (omega arith) c.start.ensures c.start-2.ensures)

pub draw-requires : goal.draw-requires
draw-requires g c =
    let law = g.met.R.DrawRule.lawful c.args.rule.now in
    record {
      draws = omega arith;
      few_draws = omega arith;
      same_cells = omega arith;
      low_row = size_roomy _ law _ c.args.self.reel c.args.self.bad false _ _ _ (omega arith) (omega arith) c.loop-drawn.invariant.low_row;
      high_row = size_roomy _ law _ c.args.self.reel c.args.self.bad true _ _ _ (omega arith) (omega arith) c.loop-drawn.invariant.high_row;
    }

pub total-requires : goal.total-requires
total-requires g c =
    let next = high_next _ _ _ _ _ _ _ _ _ _ _ _ c.loop-drawn.invariant c.draw.ensures in
    let fits = size_fits _ (g.met.R.DrawRule.lawful c.args.rule.now) _ c.args.self.reel _ true (c.loop-drawn.drawn + 1) (length c.args.low.now - 1) _ (omega arith) (omega arith) (omega arith) next in
    omega arith

pub total-before-requires : goal.total-before-requires
total-before-requires g c =
    let next = low_next _ _ _ _ _ _ _ _ _ _ _ _ c.loop-drawn.invariant c.draw.ensures in
    let fits = size_fits _ (g.met.R.DrawRule.lawful c.args.rule.now) _ c.args.self.reel _ false (c.loop-drawn.drawn + 1) (length c.args.low.now - 1) _ (omega arith) (omega arith) (omega arith) next in
    omega arith

pub loop-drawn-preserved : goal.loop-drawn-preserved
loop-drawn-preserved g c =
    tried_more _ _ _ _ _ _ _ _ _ _ _ _ c.loop-drawn.invariant c.draw.ensures c.loop-drawn-test.true _ _ _ _ c.total.ensures c.total-before.ensures
    (c.within.ensures ∙ ap (is_within c.args.limit) c.min.ensures) c.if-within.false refl

pub returns-then-within-2 : goal.returns-then-within-2
returns-then-within-2 g c =
    found _ _ _ _ _ _ _ _ _ _ _ _ c.loop-drawn.invariant c.draw.ensures c.loop-drawn-test.true _ _ _ (c.min-last.ensures ∙ ap (λ l. min l 32768) c.longest.ensures) c.total.ensures
    (c.within.ensures ∙ ap (is_within c.args.limit) c.min.ensures) c.if-within.true (sym (ap (λ b. cond b (refuse 27 c.loop-drawn.drawn (codes "R")) (given (c.loop-drawn.drawn + 1))) (sym c.within-then-within.ensures ∙ c.if-within-2.true)))

pub returns-then-within : goal.returns-then-within
returns-then-within g c =
    found _ _ _ _ _ _ _ _ _ _ _ _ c.loop-drawn.invariant c.draw.ensures c.loop-drawn-test.true _ _ _ (c.min-last.ensures ∙ ap (λ l. min l 32768) c.longest.ensures) c.total.ensures
    (c.within.ensures ∙ ap (is_within c.args.limit) c.min.ensures) c.if-within.true (sym (ap (λ b. cond b (refuse 27 c.loop-drawn.drawn (codes "R")) (given (c.loop-drawn.drawn + 1))) (sym c.within-then-within.ensures ∙ c.if-within-2.false)))

pub returns-then-within-3 : goal.returns-then-within-3
returns-then-within-3 g c =
    let end : c.min-last.result ≡ c.loop-drawn.drawn = omega arith in
    over _ _ _ _ _ _ c.loop-drawn.drawn _ _ _ _ (c.min-last.ensures ∙ ap (λ l. min l 32768) c.longest.ensures) c.loop-drawn.invariant c.loop-drawn-test.false
    (ap (λ n. refuse 27 n (codes "R")) end ∙ sym (ap (λ b. cond b (refuse 27 c.loop-drawn.drawn (codes "R")) (refuse 28 c.loop-drawn.drawn (codes "R"))) (sym c.within-2.ensures ∙ c.if-within-3.true)))

pub returns : goal.returns
returns g c =
    let end : c.min-last.result ≡ c.loop-drawn.drawn = omega arith in
    over _ _ _ _ _ _ c.loop-drawn.drawn _ _ _ _ (c.min-last.ensures ∙ ap (λ l. min l 32768) c.longest.ensures) c.loop-drawn.invariant c.loop-drawn-test.false
    (ap (λ n. refuse 28 n (codes "R")) end ∙ sym (ap (λ b. cond b (refuse 27 c.loop-drawn.drawn (codes "R")) (refuse 28 c.loop-drawn.drawn (codes "R"))) (sym c.within-2.ensures ∙ c.if-within-3.false)))
