-- Where fewer frames are bad, no list that ended in PASS ends otherwise; so what holds for T bad frames holds for more. Assumes nothing.
use Rattle.std.proofs.Common.{◌≡◌, ℕ, zero, suc, ◌+◌, ◌<◌, ◌≤◌, min, Bool, true, false, ◌&&◌, ltb, List, [], ◌∷◌, length, take, drop, refl, mul-le-mul_right, arith}
use Rattle.std.proofs.lemmas.Bool.Decides.{nat_tests}
use Rattle.draws.specs.Counting.{count_below, count_in}
use Rattle.draws.specs.Draws.{DrawMeaning, Lawful, lists, bad_in}
use Rattle.plans.specs.Plans.{Sample, total}
use Rattle.plans.specs.Standings.{marked_up_to, waiting, ruling, true_marks}
use Rattle.plans.specs.Exact.{passes, passing}
use Rattle.plans.specs.Limits.{Guards}
use Rattle.plans.proofs.Rulings.{ruling_true}
use Rattle.plans.proofs.Limited.{tells}

-- the first test passes only where the second does
abbrev pub Inside : (fewer more : ℕ → Bool) → Type 0
Inside fewer more = (f : ℕ) → fewer f ≡ true → more f ≡ true

module _ {A : Type 0} (p q : A → Bool) (only : (x : A) → p x ≡ true → q x ≡ true) where
  pub count_less : (xs : List A) → count_in p xs ≤ count_in q xs
  count_less [] = omega arith
  count_less (x ∷ xs) = grind (arith, only x, count_less xs)

waiting_no_pass : (stage : ℕ) → waiting stage ≡ 1 → ⊥
waiting_no_pass zero e = omega arith
waiting_no_pass (suc stage) e = omega arith

-- samples that are short of frames wait
short : (is_bad : ℕ → Bool) (n : ℕ) (l : List ℕ) → length l < n → marked_up_to n (true_marks is_bad l) ≡ false
short is_bad zero l h = absurd (omega arith)
short is_bad (suc n) [] h = refl
short is_bad (suc n) (f ∷ l) h = grind (arith, short is_bad n l)

module _ (fewer more : ℕ → Bool) (inside : Inside fewer more) where
  still_passes : (samples : List Sample) (stage b c : ℕ) (l : List ℕ) → b ≤ c → ruling samples stage c (true_marks more l) ≡ 1 → ruling samples stage b (true_marks fewer l) ≡ 1
  still_passes [] stage b c l le e = absurd (omega arith)
  still_passes (s ∷ rest) stage b c l le e = grind (
    arith,
    nat_tests,
    count_less fewer more inside (take s.size l),
    waiting_no_pass stage,
    short more s.size l,
    ruling_true fewer s rest stage b l,
    ruling_true more s rest stage c l,
    still_passes rest (suc stage) (b + bad_in fewer (take s.size l)) (c + bad_in more (take s.size l)) (drop s.size l),
  )

  -- a list that ends in PASS does so where fewer frames are bad
  pub passes_still : (samples : List Sample) (l : List ℕ) → passes samples more l ≡ true → passes samples fewer l ≡ true
  passes_still samples l e = grind (arith, nat_tests, still_passes samples 0 0 0 l)

  pub passing_more : (m : DrawMeaning) (N : ℕ) (samples : List Sample) → passing m N more samples ≤ passing m N fewer samples
  unfolding passing
  passing_more m N samples = count_less (passes samples more) (passes samples fewer) (passes_still samples) (lists m N (total samples))

-- the first T of the bad frames
abbrev pub first_bad : (T : ℕ) → (ℕ → Bool) → ℕ → Bool
first_bad T is_bad f = is_bad f && ltb (count_below is_bad f) T

pub first_bad_inside : (T : ℕ) (is_bad : ℕ → Bool) → Inside (first_bad T is_bad) is_bad
first_bad_inside T is_bad f e = grind arith

pub first_bad_count : (T : ℕ) (is_bad : ℕ → Bool) (N : ℕ) → count_below (first_bad T is_bad) N ≡ min T (count_below is_bad N)
first_bad_count T is_bad zero = omega arith
first_bad_count T is_bad (suc n) = grind (arith, nat_tests, first_bad_count T is_bad n)

pub guards : (m : DrawMeaning) → Lawful m → Guards m
guards m law =
    record {
      guards = λ N T reel samples fit le limit within is_bad enough.
          let first = first_bad T is_bad in
          let count : count_below first N ≡ T = omega (arith, first_bad_count T is_bad N) in
          let kept = (tells m law).kept N T reel first count samples fit le limit within in
          let fewer = mul-le-mul_right 1000000 (passing_more first is_bad (first_bad_inside T is_bad) m N samples) in
          omega arith;
    }
