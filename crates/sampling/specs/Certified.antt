-- What it means that a plan is certified. Assumes nothing.
use Rattle.std.specs.Prelude.{◌≡◌, ℕ, ◌+◌, ◌<◌, ◌≤◌}
use Rattle.draws.specs.Draws.{DrawMeaning, Reel}
use Rattle.plans.specs.Plans.{PlanNumbers, samples_of, Agrees}
use Rattle.plans.specs.Makes.{numbers_of}
use Rattle.plans.specs.Working.{low_of, high_of}
use Rattle.plans.specs.Limits.{Within}
use Rattle.sampling.specs.declared.certified.Certified.{Certified}

-- what a certified plan holds beside its rule: the reel's frames, the tolerance, the limit in millionths, the plan's
-- numbers, and the two ends of the enclosure in units of one part in 2^40
pub record CertifiedNumbers : Type 0 where
  pub N : ℕ
  pub T : ℕ
  pub limit : ℕ
  pub plan : PlanNumbers
  pub lo : ℕ
  pub hi : ℕ

abbrev pub certified_numbers : {R : Type 0} → Certified R → CertifiedNumbers
certified_numbers c = record { N = c.reel; T = c.tolerance; limit = c.limit; plan = numbers_of c.plan; lo = c.lo; hi = c.hi }

-- by a rule with this meaning, the ends are those of the working with T bad frames, and the high end is within the limit
pub record CertifiedFor (m : DrawMeaning) (c : CertifiedNumbers) : Type 0 where
  pub reel : Reel c.N
  pub some_bad : 0 < c.T
  pub tolerable : c.T ≤ c.N
  pub some_limit : 0 < c.limit
  pub a_share : c.limit ≤ 999999
  pub agrees : Agrees c.plan.n1 c.plan.ac1 c.plan.re1 c.plan.n2 c.plan.ac2
  pub room : c.plan.n1 + c.plan.n2 ≤ m.longest c.N
  pub low : c.lo ≡ low_of m c.N c.T (samples_of c.plan)
  pub high : c.hi ≡ high_of m c.N c.T (samples_of c.plan)
  pub within : Within c.limit c.hi
