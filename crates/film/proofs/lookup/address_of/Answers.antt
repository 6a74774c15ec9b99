use Rattle.std.proofs.Common.{◌∙◌, subst}
use Rattle.film.specs.Schemes.{InUnitsOf}
use Rattle.film.proofs.Single.{unit_addressed, addresses}
use Rattle.film.proofs.lookup.address_of.Goals as goal

pub returns : goal.returns
returns g c =
    let m = g.S.Scheme.meaning c.args.scheme.now in
    let law = g.met.S.Scheme.lawful c.args.scheme.now in
    let units = subst (λ F. InUnitsOf F m) (c.frames_to_unit.ensures 0) (g.met.S.Scheme.units c.args.scheme.now) in
    addresses m law _ _ _ (c.address_in_units.ensures ∙ unit_addressed m law _ _ units _ c.end_of.ensures _)
