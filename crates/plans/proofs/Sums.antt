-- Sums of the first cells of a row. Assumes nothing.
use Rattle.std.proofs.Common.{◌≡◌, ℕ, zero, suc, ◌+◌, ◌*◌, ◌<◌, ◌≤◌, refl, ap, le_refl, suc-mul, add-mul, arith}
use Rattle.plans.specs.Working.{before, sum_below}

pub sum_le : (f g : ℕ → ℕ) → ((d : ℕ) → f d ≤ g d) → (n : ℕ) → sum_below f n ≤ sum_below g n
sum_le f g each zero = le_refl 0
sum_le f g each (suc n) = omega (arith, sum_le f g each n, each n)

pub sum_add : (f g : ℕ → ℕ) (n : ℕ) → sum_below (λ d. f d + g d) n ≡ sum_below f n + sum_below g n
sum_add f g zero = refl
sum_add f g (suc n) = omega (arith, sum_add f g n)

pub sum_times : (f : ℕ → ℕ) (k n : ℕ) → sum_below (λ d. f d * k) n ≡ sum_below f n * k
sum_times f k zero = omega arith
sum_times f k (suc n) = grind (arith, sum_times f k n, add-mul (sum_below f n) (f n) k)

pub sum_same : (c n : ℕ) → sum_below (λ d. c) n ≡ n * c
sum_same c zero = omega arith
sum_same c (suc n) = omega (arith, sum_same c n, suc-mul n c)

pub sum_before : (f : ℕ → ℕ) (n : ℕ) → sum_below (before f) (suc n) ≡ sum_below f n
sum_before f zero = refl
sum_before f (suc n) = ap (λ z. z + f n) (sum_before f n)

pub sum_before_le : (f : ℕ → ℕ) (n : ℕ) → sum_below (before f) n ≤ sum_below f n
sum_before_le f zero = le_refl 0
sum_before_le f (suc n) = omega (arith, sum_before f n)

pub sum_longer : (f : ℕ → ℕ) (n k : ℕ) → n ≤ k → sum_below f n ≤ sum_below f k
sum_longer f zero zero h = omega arith
sum_longer f (suc n) zero h = absurd (omega arith)
sum_longer f n (suc k) h = grind (arith, sum_longer f n k, at)
  where
    at : n ≡ suc k → sum_below f n ≤ sum_below f (suc k)
    at e = omega (arith, ap (sum_below f) e)

-- the cells up to accept, and what a row holds of those behind it, are at most the whole row
pub sum_split : (f rest : ℕ → ℕ) (accept : ℕ) → ((d : ℕ) → rest d ≤ f d) → ((d : ℕ) → d ≤ accept → rest d ≡ 0) → (n : ℕ) → accept < n → sum_below f (suc accept) + sum_below rest n ≤ sum_below f n
sum_split f rest accept less gone zero h = absurd (omega arith)
sum_split f rest accept less gone (suc n) h = grind (arith, sum_split f rest accept less gone n, less n, gone n, none n)
  where
    none : (n : ℕ) → n ≤ suc accept → sum_below rest n ≡ 0
    none zero h = refl
    none (suc n) h = omega (arith, none n (omega arith), gone n (omega arith))
