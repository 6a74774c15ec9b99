-- The worked plans and samples, computed. Assumes nothing.
use Rattle.std.proofs.Common.{refl, ap, ◌∙◌, arith, lit<, lit≤}
use Rattle.draws.specs.Draws.{Reel}
use Rattle.draws.specs.Rules.{without_replacement, with_replacement}
use Rattle.draws.specs.Without as Without
use Rattle.draws.specs.With as With
use Rattle.plans.specs.Working.{draw_on, draws_on, worked}
use Rattle.plans.specs.Examples.{Examples, three_and_three}
use Rattle.plans.proofs.Exactly.{exactly, one_list, all_exactly, passing_exactly}
use Rattle.plans.proofs.Limited.{shows}

ten : Reel 10
ten = record { some = lit< tt; few = lit≤ tt }

pub examples : Examples
unfolding worked draws_on draw_on
examples =
    record {
      without_passing = λ is_bad e. passing_exactly without_replacement Without.lawful 10 ten is_bad three_and_three ∙ ap (λ D. exactly without_replacement 10 D three_and_three 0 one_list) e;
      without_all = all_exactly without_replacement Without.lawful 10 ten three_and_three;
      with_passing = λ is_bad e. passing_exactly with_replacement With.lawful 10 ten is_bad three_and_three ∙ ap (λ D. exactly with_replacement 10 D three_and_three 0 one_list) e;
      with_all = all_exactly with_replacement With.lawful 10 ten three_and_three;
      without_smallest = λ is_bad e. (shows without_replacement Without.lawful).smallest 10 3 ten is_bad e 0 50000 5 (lit< tt) (lit≤ tt) (λ h. omega arith);
      with_smallest = λ is_bad e. (shows with_replacement With.lawful).smallest 10 3 ten is_bad e 0 50000 8 (lit< tt) (lit≤ tt) (λ h. omega arith);
      one_low = refl;
      one_high = refl;
      one_above = λ h. omega arith;
      one_between = (lit≤ tt, λ h. omega arith);
      one_within = lit≤ tt;
      reject_low = refl;
      reject_high = refl;
      rejects = refl;
      goes_on = refl;
    }
