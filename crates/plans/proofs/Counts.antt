-- Counts of the members of a list, by tests that agree or add up. Assumes nothing.
use Rattle.std.proofs.Common.{◌≡◌, ℕ, zero, suc, ◌+◌, Bool, cond, ◌&&◌, eqb, leb, List, [], ◌∷◌, refl, ap, ◌∙◌, arith}
use Rattle.std.specs.List.{AllByRecursion}
use Rattle.std.proofs.lemmas.Bool.Decides.{nat_tests}
use Rattle.draws.specs.Counting.{count_in}
use Rattle.plans.specs.Working.{sum_below}

module _ {A : Type 0} (P : A → Type 0) where
  -- tests that agree
  pub count_same : (p q : A → Bool) → ((x : A) → P x → p x ≡ q x) → (xs : List A) → AllByRecursion P xs → count_in p xs ≡ count_in q xs
  count_same p q same [] h = refl
  count_same p q same (x ∷ xs) h = grind (arith, count_same p q same xs, same x)

  -- a test that two others share out
  pub count_add : (p q r : A → Bool) → ((x : A) → P x → cond {A = ℕ} (p x) 1 0 ≡ cond (q x) 1 0 + cond (r x) 1 0) → (xs : List A) → AllByRecursion P xs → count_in p xs ≡ count_in q xs + count_in r xs
  count_add p q r share [] h = refl
  count_add p q r share (x ∷ xs) h = omega (arith, count_add p q r share xs h.1, share x h.0)

pub all_any : {A : Type 0} (xs : List A) → AllByRecursion (λ x. Unit {0}) xs
all_any [] = tt
all_any (x ∷ xs) = (tt, all_any xs)

-- one more is at most the number before, or that one
one_more : (w : Bool) (n a : ℕ) → cond {A = ℕ} (w && leb n (suc a)) 1 0 ≡ cond (w && leb n a) 1 0 + cond (w && eqb n (suc a)) 1 0
one_more w n a = grind (arith, nat_tests)

-- those with at most a of something are those with 0, 1, up to a of it
pub count_up_to : {A : Type 0} (w : A → Bool) (n : A → ℕ) (xs : List A) (a : ℕ) → count_in (λ x. w x && leb (n x) a) xs ≡ sum_below (λ d. count_in (λ x. w x && eqb (n x) d) xs) (suc a)
count_up_to w n xs zero = omega (arith, count_same (λ _. Unit {0}) (λ x. w x && leb (n x) 0) (λ x. w x && eqb (n x) 0) (λ x _. grind (arith, nat_tests)) xs (all_any xs))
count_up_to w n xs (suc a) =
    count_add (λ _. Unit {0}) (λ x. w x && leb (n x) (suc a)) (λ x. w x && leb (n x) a) (λ x. w x && eqb (n x) (suc a)) (λ x _. one_more (w x) (n x) a) xs (all_any xs)
    ∙ ap (λ z. z + count_in (λ x. w x && eqb (n x) (suc a)) xs) (count_up_to w n xs a)
