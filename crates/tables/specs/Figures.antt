-- Shares, the enclosures they lie in, and the figures they are printed as. Assumes nothing.
use Rattle.std.specs.Prelude.{ℕ, ◌+◌, ◌*◌, ◌/◌, ◌<◌, ◌≤◌}
use Rattle.plans.specs.Working.{whole}
use Rattle.tables.specs.declared.places.Places.{Places}
use Rattle.tables.specs.declared.places.Places.TheVariants.{Four, Nine}

-- the figure of p / a in parts of 1 / scale, rounded half up
abbrev pub rounded : (scale p a : ℕ) → ℕ
rounded scale p a = (2 * p * scale + a) / (2 * a)

abbrev pub scale_of : Places → ℕ
scale_of Four = 10000
scale_of Nine = 1000000000

-- p / a is a share that lies between lo and hi, in units of one part in 2^40
pub record Lies (lo hi p a : ℕ) : Type 0 where
  pub some : 0 < a
  pub low : lo * a ≤ p * whole
  pub high : p * whole ≤ hi * a
