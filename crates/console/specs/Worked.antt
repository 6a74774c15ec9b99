-- Worked values: addresses, counts of lists, samples, certified plans and standings, together. Assumes nothing.
use Rattle.std.specs.Prelude.{◌≡◌, codes}
use Rattle.film.specs.Refusals.{given, refuse}
use Rattle.film.specs.Schemes.{at, located, addressed, feet35, feet16, timecode24}
use Rattle.draws.specs.Rules.{without_replacement}
use Rattle.plans.specs.Examples.{Examples}
use Rattle.plans.specs.Plans.{PlanNumbers}
use Rattle.sampling.specs.Certifies.{certified_by}

-- one frame, and one that is bad is too many
abbrev pub one_frame : PlanNumbers
one_frame = record { n1 = 1; ac1 = 0; re1 = 1; n2 = 0; ac2 = 0 }

pub record Worked : Type 0 where
  -- frame 100 of a reel of 1,000, found from either side
  pub film35 : (located feet35 1000 (at 6 4) ≡ given 100) × (addressed feet35 1000 100 ≡ given (at 6 4))
  pub film16 : (located feet16 1000 (at 2 20) ≡ given 100) × (addressed feet16 1000 100 ≡ given (at 2 20))
  pub seconds24 : (located timecode24 1000 (at 4 4) ≡ given 100) × (addressed timecode24 1000 100 ≡ given (at 4 4))
  -- a foot of 35 mm film has no frame 16
  pub no_part : located feet35 1000 (at 0 16) ≡ refuse 11 2 (codes "A")
  -- one frame of 10 of which 3 are bad passes 7 times in 10: above one limit, too close to the next, within the third
  pub above : certified_by without_replacement 10 3 699999 one_frame 1 1 ≡ refuse 35 3 (codes "P")
  pub close : certified_by without_replacement 10 3 700000 one_frame 1 1 ≡ refuse 36 3 (codes "P")
  pub within : certified_by without_replacement 10 3 700001 one_frame 1 1 ≡ given (record { N = 10; T = 3; limit = 700001; plan = one_frame; lo = 769658139443; hi = 769658139444 })
  -- the counts of lists by both rules, the smallest samples, the plans that do not agree, and the standings
  pub samples : Examples
