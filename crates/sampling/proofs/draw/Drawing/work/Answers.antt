-- Both samples, as the working has them.
use Rattle.std.proofs.Common.{false, true, ap, ◌∙◌, arith}
use Rattle.plans.specs.Makes.{numbers_of}
use Rattle.plans.specs.Working.{start_row}
use Rattle.sampling.specs.Rows.{row_of}
use Rattle.sampling.proofs.Phases.{roomy_on, start_small}
use Rattle.sampling.proofs.Samples.{accepts_less, cleared_roomy, works_one, works_two}
use Rattle.sampling.proofs.draw.Drawing.work.Goals as goal

pub sample-first-requires-clause-ready : goal.sample-first-requires-clause-ready
sample-first-requires-clause-ready g c =
    let few = c.args.plan.agrees.2 in
    record {
      draws = omega arith;
      few_draws = omega (arith, c.args.plan.agrees.1);
      same_cells = omega arith;
      low_row = roomy_on _ 0 start_row _ c.start.ensures (omega arith) (omega arith) (start_small _ (omega arith));
      high_row = roomy_on _ 0 start_row _ c.start-2.ensures (omega arith) (omega arith) (start_small _ (omega arith));
    }

pub returns-then-n2-eq0 : goal.returns-then-n2-eq0
returns-then-n2-eq0 g c =
    works_one _ _ _ (numbers_of c.args.plan) _ _ _ _ (c.start.ensures ∙ ap (λ n. row_of n start_row) c.requires.low_cells) (c.start-2.ensures ∙ ap (λ n. row_of n start_row) c.requires.high_cells)
    (accepts_less _ _ _ _ _ c.args.plan.agrees) _ (rw (c.n1-n1.ensures, c.ac1-ac1.ensures) at c.sample-first.ensures) _ (omega arith) c.min.ensures

pub sample-second-requires-clause-ready : goal.sample-second-requires-clause-ready
sample-second-requires-clause-ready g c =
    let law = g.met.R.DrawRule.lawful c.args.rule.now in
    let few = c.args.plan.agrees.2 in
    record {
      draws = omega arith;
      few_draws = omega (arith, c.args.plan.agrees.1);
      same_cells = omega arith;
      low_row = cleared_roomy false _ _ _ law c.args.self.reel _ _ _ _ _ _ _ (omega arith) (omega arith) (omega arith) c.start.ensures c.sample-first.ensures.moved.low_row c.clear.ensures;
      high_row = cleared_roomy true _ _ _ law c.args.self.reel _ _ _ _ _ _ _ (omega arith) (omega arith) (omega arith) c.start-2.ensures c.sample-first.ensures.moved.high_row c.clear-2.ensures;
    }

pub returns : goal.returns
returns g c =
    works_two _ _ _ (numbers_of c.args.plan) _ _ _ _ (c.start.ensures ∙ ap (λ n. row_of n start_row) c.requires.low_cells) (c.start-2.ensures ∙ ap (λ n. row_of n start_row) c.requires.high_cells)
    (accepts_less _ _ _ _ _ c.args.plan.agrees) _ (rw (c.n1-n1.ensures, c.ac1-ac1.ensures) at c.sample-first.ensures) _ _ _ _ _ _ (omega arith)
    (rw (c.ac1-ac1.ensures, c.re1-re1.ensures) at c.clear.ensures) (rw (c.ac1-ac1.ensures, c.re1-re1.ensures) at c.clear-2.ensures)
    (rw (c.n1-n1.ensures, c.n2-n2.ensures, c.ac2.ensures) at c.sample-second.ensures) c.min-2.ensures
