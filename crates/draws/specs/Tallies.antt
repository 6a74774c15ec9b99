-- Laws of counting below a number and in a list. Assumes nothing.
use Rattle.std.specs.Prelude.{◌≡◌, ℕ, zero, suc, ◌+◌, ◌*◌, ◌<◌, ◌≤◌, Bool, true, false, cond, not, ◌&&◌, ltb, List, [], ◌∷◌, ◌++◌, map, length, ◌==◌, nat_eq, refl}
use Rattle.std.proofs.Common.{ap, ◌∙◌, add-mul, zero-mul, arith}
use Rattle.std.specs.List.{flat_map, AllByRecursion}
use Rattle.std.proofs.lemmas.Bool.Decides.{nat_tests}
use Rattle.draws.specs.Counting.{count_below, count_in, all_below}

-- tests that agree below n count the same
pub count_below_same : (p q : ℕ → Bool) (n : ℕ) → ((x : ℕ) → x < n → p x ≡ q x) → count_below p n ≡ count_below q n
count_below_same p q zero h = refl
count_below_same p q (suc n) h = grind (arith, h n, count_below_same p q n)

pub count_below_less : (p q : ℕ → Bool) (n : ℕ) → ((x : ℕ) → x < n → p x ≡ true → q x ≡ true) → count_below p n ≤ count_below q n
count_below_less p q zero h = omega arith
count_below_less p q (suc n) h = grind (arith, h n, count_below_less p q n (λ x l. h x (omega arith)))

pub count_below_none : (p : ℕ → Bool) (n : ℕ) → ((x : ℕ) → x < n → p x ≡ false) → count_below p n ≡ 0
count_below_none p zero h = refl
count_below_none p (suc n) h = grind (arith, h n, count_below_none p n (λ x l. h x (omega arith)))

pub count_below_every : (p : ℕ → Bool) (n : ℕ) → ((x : ℕ) → x < n → p x ≡ true) → count_below p n ≡ n
count_below_every p zero h = refl
count_below_every p (suc n) h = grind (arith, h n, count_below_every p n (λ x l. h x (omega arith)))

pub count_below_most : (p : ℕ → Bool) (n : ℕ) → count_below p n ≤ n
count_below_most p zero = omega arith
count_below_most p (suc n) = grind (arith, count_below_most p n)

-- what passes q is what passes p too and what does not
pub count_below_split : (q p : ℕ → Bool) (n : ℕ) → count_below (λ x. q x && p x) n + count_below (λ x. q x && not (p x)) n ≡ count_below q n
count_below_split q p zero = refl
count_below_split q p (suc n) = grind (arith, count_below_split q p n)

-- at one number
pub count_below_at : (q : ℕ → Bool) (x n : ℕ) → x < n → count_below (λ y. q y && y == x) n ≡ cond (q x) 1 0
count_below_at q x zero l = absurd (omega arith)
count_below_at q x (suc n) l = grind (arith, nat_tests, count_below_at q x n, count_below_none (λ y. q y && y == x) n)

pub count_below_without : (q : ℕ → Bool) (x n : ℕ) → x < n → count_below (λ y. q y && not (y == x)) n + cond (q x) 1 0 ≡ count_below q n
count_below_without q x n l = omega (arith, count_below_split q (λ y. nat_eq y x) n, count_below_at q x n l)

-- where none is counted none passes
pub count_below_zero : (p : ℕ → Bool) (n : ℕ) → count_below p n ≡ 0 → (x : ℕ) → x < n → p x ≡ false
count_below_zero p n e x l = grind (arith, count_below_without p x n l)

-- what does not pass
pub count_below_others : (p : ℕ → Bool) (n : ℕ) → count_below p n + count_below (λ x. not (p x)) n ≡ n
count_below_others p n = count_below_split (λ _. true) p n ∙ count_below_every (λ _. true) n (λ _ _. refl)

-- the numbers below a smaller one
pub count_below_first : (D n : ℕ) → D ≤ n → count_below (λ x. ltb x D) n ≡ D
count_below_first D zero le = omega arith
count_below_first D (suc n) le = grind (arith, nat_tests, count_below_first D n, count_below_every (λ x. ltb x D) n)

-- where a test stands aside, it passes all or none
pub count_below_choice : (q p : ℕ → Bool) (a b : Bool) (n : ℕ)
    → count_below (λ x. q x && cond (p x) b a) n ≡ cond a (count_below (λ x. q x && not (p x)) n) 0 + cond b (count_below (λ x. q x && p x) n) 0
count_below_choice q p a b zero = grind arith
count_below_choice q p a b (suc n) = grind (arith, count_below_choice q p a b n)

module _ {A : Type 0} (p : A → Bool) where
  pub count_in_append : (xs ys : List A) → count_in p (xs ++ ys) ≡ count_in p xs + count_in p ys
  count_in_append [] ys = omega arith
  count_in_append (x ∷ xs) ys = omega (arith, count_in_append xs ys)

  pub count_in_push : (xs : List A) (y : A) → count_in p (xs ++ y ∷ []) ≡ count_in p xs + cond (p y) 1 0
  count_in_push xs y = omega (arith, count_in_append xs (y ∷ []))

  pub count_in_map : {B : Type 0} (f : B → A) (xs : List B) → count_in p (map f xs) ≡ count_in (λ x. p (f x)) xs
  count_in_map f [] = refl
  count_in_map f (x ∷ xs) = ap (λ n. cond (p (f x)) 1 0 + n) (count_in_map f xs)

  pub count_in_most : (xs : List A) → count_in p xs ≤ length xs
  count_in_most [] = omega arith
  count_in_most (x ∷ xs) = grind (arith, count_in_most xs)

  -- what does not pass
  pub count_in_others : (xs : List A) → count_in p xs + count_in (λ x. not (p x)) xs ≡ length xs
  count_in_others [] = refl
  count_in_others (x ∷ xs) = grind (arith, count_in_others xs)

pub count_in_every : {A : Type 0} (xs : List A) → count_in (λ _. true) xs ≡ length xs
count_in_every [] = refl
count_in_every (x ∷ xs) = omega (arith, count_in_every xs)

pub count_in_none : {A : Type 0} (xs : List A) → count_in (λ _. false) xs ≡ 0
count_in_none [] = refl
count_in_none (x ∷ xs) = omega (arith, count_in_none xs)

pub count_in_all_below : (p q : ℕ → Bool) (n : ℕ) → count_in p (all_below q n) ≡ count_below (λ x. q x && p x) n
count_in_all_below p q zero = refl
count_in_all_below p q (suc n) = grind (arith, count_in_all_below p q n)

-- every member of f x is counted by what x itself passes
module _ {A B : Type 0} (P : A → Type 0) (p : B → Bool) (f : A → List B) where
  pub count_in_joined : (a b : A → Bool) (m n : ℕ) → ((x : A) → P x → count_in p (f x) ≡ cond (a x) m 0 + cond (b x) n 0)
      → (xs : List A) → AllByRecursion P xs → count_in p (flat_map f xs) ≡ count_in a xs * m + count_in b xs * n
  count_in_joined a b m n each [] all = omega (arith, zero-mul m, zero-mul n)
  count_in_joined a b m n each (x ∷ xs) all = grind (arith, count_in_append p (f x) (flat_map f xs), each x, count_in_joined a b m n each xs, add-mul 1 (count_in a xs) m, add-mul 1 (count_in b xs) n)

  pub count_in_joined_most : (a : A → Bool) (m : ℕ) → ((x : A) → P x → count_in p (f x) ≤ cond (a x) m 0)
      → (xs : List A) → AllByRecursion P xs → count_in p (flat_map f xs) ≤ count_in a xs * m
  count_in_joined_most a m each [] all = omega (arith, zero-mul m)
  count_in_joined_most a m each (x ∷ xs) all = grind (arith, count_in_append p (f x) (flat_map f xs), each x, count_in_joined_most a m each xs, add-mul 1 (count_in a xs) m)
