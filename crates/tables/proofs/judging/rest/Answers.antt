use Rattle.std.proofs.Common.{◌≡◌, sym, refl, subst}
use Rattle.sampling.specs.declared.chance.Ends.{Ends}
use Rattle.tables.specs.Verdicts.{Rests, rest_of}
use Rattle.tables.proofs.Rounding.{lies_rest}
use Rattle.tables.proofs.judging.rest.Goals as goal

pub returns : goal.returns
returns c =
    let value : ◌≡◌ {A = Ends} (record { lo = c.saturating_sub.result; hi = c.saturating_sub-2.result }) (rest_of c.args.ends) = cc in
    subst (Rests c.args.ends) (sym value) (record { value = refl; lies = lies_rest c.args.ends.lo c.args.ends.hi })
