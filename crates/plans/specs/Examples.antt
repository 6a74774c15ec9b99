-- Worked plans and samples on a reel of 10 frames. Assumes nothing.
use Rattle.std.specs.Prelude.{◌≡◌, ℕ, Bool, List, [], ◌∷◌, codes}
use Rattle.film.specs.Refusals.{refuse}
use Rattle.draws.specs.Counting.{count_below}
use Rattle.draws.specs.Rules.{without_replacement, with_replacement}
use Rattle.draws.specs.declared.entry.State.TheVariants.{Good, Bad}
use Rattle.plans.specs.Plans.{Sample, single, samples_by}
use Rattle.plans.specs.Standings.{standing}
use Rattle.plans.specs.Exact.{all, passing}
use Rattle.plans.specs.Working.{low_of, high_of}
use Rattle.plans.specs.Limits.{Within, Smallest}
use Rattle.plans.specs.Makes.{made}

-- 3 frames, and where 1 of them is bad 3 more: at most 1 bad frame of all 6 passes
abbrev pub three_and_three : List Sample
three_and_three = samples_by 3 0 2 3 1

pub record Examples : Type 0 where
  -- whichever 3 frames of 10 are bad
  pub without_passing : (is_bad : ℕ → Bool) → count_below is_bad 10 ≡ 3 → passing without_replacement 10 is_bad three_and_three ≡ 66780
  pub without_all : all without_replacement 10 three_and_three ≡ 151200
  pub with_passing : (is_bad : ℕ → Bool) → count_below is_bad 10 ≡ 3 → passing with_replacement 10 is_bad three_and_three ≡ 494263
  pub with_all : all with_replacement 10 three_and_three ≡ 1000000
  pub without_smallest : (is_bad : ℕ → Bool) → count_below is_bad 10 ≡ 3 → Smallest without_replacement 10 is_bad 0 50000 6
  pub with_smallest : (is_bad : ℕ → Bool) → count_below is_bad 10 ≡ 3 → Smallest with_replacement 10 is_bad 0 50000 9
  -- one frame of 10 of which 3 are bad: 7 of 10 pass
  pub one_low : low_of without_replacement 10 3 (single 1 0) ≡ 769658139443
  pub one_high : high_of without_replacement 10 3 (single 1 0) ≡ 769658139444
  pub one_above : Within 699999 (low_of without_replacement 10 3 (single 1 0)) → ⊥
  pub one_between : Within 700000 (low_of without_replacement 10 3 (single 1 0)) × (Within 700000 (high_of without_replacement 10 3 (single 1 0)) → ⊥)
  pub one_within : Within 700001 (high_of without_replacement 10 3 (single 1 0))
  -- reject numbers too low and too high for a second sample
  pub reject_low : made 3 0 1 3 1 ≡ refuse 33 3 (codes "P")
  pub reject_high : made 3 0 3 3 1 ≡ refuse 33 3 (codes "P")
  pub rejects : standing three_and_three (Bad ∷ Bad ∷ Good ∷ []) ≡ 2
  pub goes_on : standing three_and_three (Bad ∷ Good ∷ Good ∷ []) ≡ 3
