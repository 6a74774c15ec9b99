-- What open leaves is where the law of all runs and the share of false passes start.
use Rattle.std.proofs.Common.{◌≡◌, ◌++◌, ◌-◌, length, drop, sym, refl, subst, arith}
use Rattle.std.proofs.lemmas.Bool.{cond-false, le-ltb}
use Rattle.std.proofs.lemmas.Grind.{common_steps}
use Rattle.film.specs.Refusals.{given}
use Rattle.sampling.specs.Certified.{certified_numbers}
use Rattle.inspection.specs.Answers.{open_table}
use Rattle.inspection.specs.Runs.{LawOfRuns}
use Rattle.inspection.specs.Tables.{Held, size_of}
use Rattle.inspection.specs.Views.{FalsePasses}
use Rattle.inspection.proofs.Laws.{law}
use Rattle.inspection.proofs.Shares.{false_passes}
use Rattle.inspection.proofs.calls.open.Goals as goal

pub returns : goal.returns
returns g c =
    let terms = certified_numbers c.args.certified in
    let h : Held = record { number = c.args.number; terms = terms; standing = 0 } in
    let m = g.R.DrawRule.meaning c.args.certified.rule in
    let table = c.args.table.now in
    let entries = c.in_ok-size.field-0.now in
    let left : c.fill.new.self ++ drop (length entries - 0) table ≡ open_table table (given h) = grind (arith, common_steps) in
    record {
      answer = record { value = sym (cond-false _ _ _ (le-ltb (length table) (size_of terms) (omega (arith, c.in_ok-size.ensures)))); table_left = left };
      rule = refl;
      runs = subst (LawOfRuns m h) (sym left) (law m h table);
      share = record {
        share = λ certified s lawful reaches is_bad enough.
            subst (λ t. FalsePasses m s h t is_bad) (sym left) (false_passes m (g.met.R.DrawRule.lawful c.args.certified.rule) s lawful c.args.number terms certified reaches is_bad enough table);
      };
    }
