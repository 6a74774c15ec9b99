-- For every lawful rule the working's two answers enclose the exact chance of PASS, closely. Assumes nothing.
use Rattle.std.proofs.Common.{mul-le-mul_right, ◌≡◌, ℕ, zero, suc, ◌+◌, ◌-◌, ◌*◌, ◌≤◌, min, Bool, true, false, List, refl, subst, zero-add, arith}
use Rattle.draws.specs.Counting.{count_below}
use Rattle.draws.specs.Draws.{DrawMeaning, Reel, Lawful, lists}
use Rattle.draws.specs.Tallies.{count_in_most}
use Rattle.plans.specs.Plans.{Sample, samples_of, total, last_accept, AcceptsUpTo}
use Rattle.plans.specs.Exact.{passes, all, passing}
use Rattle.plans.specs.Working.{whole, sum_below, start_row, worked_from0, low_of, high_of}
use Rattle.plans.specs.Enclosure.{Encloses, Enclosure}
use Rattle.plans.proofs.Agreed.{total_plan, accepts_plan}
use Rattle.plans.proofs.Rounding.{Side}
use Rattle.plans.proofs.Enclosing.{worked_side, start_side}
use Rattle.plans.proofs.Spread.{worked_gap}
use Rattle.draws.proofs.Recurrence.{ways_most}

no_gap : (row : ℕ → ℕ) (n : ℕ) → sum_below (λ d. row d - row d) n ≡ 0
no_gap row zero = refl
no_gap row (suc n) = omega (arith, no_gap row n)

-- what is at most a certainty stays below an answer cut to a certainty
cut : (count all answer : ℕ) → count ≤ all → count * whole ≤ answer * all → count * whole ≤ min whole answer * all
cut count all answer few h = grind (arith, mul-le-mul_right whole few)

module _ (m : DrawMeaning) (law : Lawful m) (N : ℕ) (reel : Reel N) where
  pub passing_side : (is_bad : ℕ → Bool) (up : Bool) (samples : List Sample) → total samples ≤ m.longest N → Side up ((worked_from0 up m N (count_below is_bad N) samples).units * all m N samples) (passing m N is_bad samples * whole)
  unfolding all passing
  passing_side is_bad up samples le = worked_side m law N reel is_bad up samples (λ _. true) 0 0 (λ l f h. refl) start_row (start_side up m N is_bad) (total samples) (zero-add (total samples)) le

  pub passing_most : (is_bad : ℕ → Bool) (samples : List Sample) → passing m N is_bad samples ≤ all m N samples
  unfolding all passing
  passing_most is_bad samples = count_in_most (passes samples is_bad) (lists m N (total samples))

  pub ends_close : (D : ℕ) (samples : List Sample) → AcceptsUpTo (last_accept samples) samples → total samples ≤ m.longest N → high_of m N D samples ≤ low_of m N D samples + 2 * total samples * (last_accept samples + 1)
  ends_close D samples fit le =
      omega (
        arith,
        worked_gap m N D (λ k. law.some_follow N k reel) (ways_most m N law reel D) (last_accept samples) samples fit 0 start_row start_row (omega arith),
        no_gap start_row (suc (last_accept samples)),
      )

  pub encloses_at : (is_bad : ℕ → Bool) (D : ℕ) → count_below is_bad N ≡ D → (samples : List Sample) → AcceptsUpTo (last_accept samples) samples → total samples ≤ m.longest N → Encloses m N is_bad samples (low_of m N D samples) (high_of m N D samples)
  encloses_at is_bad D e samples fit le = subst (λ D. Encloses m N is_bad samples (low_of m N D samples) (high_of m N D samples)) e here
    where
      here : Encloses m N is_bad samples (low_of m N (count_below is_bad N) samples) (high_of m N (count_below is_bad N) samples)
      here =
          record {
            low = passing_side is_bad false samples le;
            high = cut (passing m N is_bad samples) (all m N samples) (worked_from0 true m N (count_below is_bad N) samples).units (passing_most is_bad samples) (passing_side is_bad true samples le);
            width = ends_close (count_below is_bad N) samples fit le;
          }

pub enclosure : (m : DrawMeaning) → Lawful m → Enclosure m
enclosure m law =
    record {
      encloses = λ N D reel is_bad e samples fit le. encloses_at m law N reel is_bad D e samples fit le;
      of_plans = λ N D reel is_bad e p agrees le.
          encloses_at m law N reel is_bad D e (samples_of p) (accepts_plan p.n1 p.ac1 p.re1 p.n2 p.ac2 agrees) (omega (arith, total_plan p.n1 p.ac1 p.re1 p.n2 p.ac2));
    }
