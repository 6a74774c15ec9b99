-- Factorials, choices and products of a falling or steady factor. Assumes nothing.
use Rattle.std.proofs.Common.{◌≡◌, ℕ, zero, suc, ◌+◌, ◌-◌, ◌*◌, ◌^◌, ◌<◌, ◌≤◌, ◌⊎◌, sym, refl, ap, mul_assoc, pow-suc, mul-zero, zero-mul, arith}
use native.Mathlib.Nat.{pow-zero}
use Rattle.draws.specs.Closed.{factorial, choose}

-- f 0 * f 1 * .. * f (n - 1)
abbrev pub prod : (ℕ → ℕ) → ℕ → ℕ
prod f zero = 1
prod f (suc n) = prod f n * f n

pub prod_same : (f g : ℕ → ℕ) (n : ℕ) → ((i : ℕ) → i < n → f i ≡ g i) → prod f n ≡ prod g n
prod_same f g zero h = refl
prod_same f g (suc n) h = grind (arith, prod_same f g n, h n)

pub prod_steady : (c n : ℕ) → prod (λ _. c) n ≡ c ^ n
prod_steady c zero = sym (pow-zero c)
prod_steady c (suc n) = grind (arith, prod_steady c n, pow-suc c n)

-- one factor of 0 makes it 0
pub prod_zero : (f : ℕ → ℕ) (i n : ℕ) → i < n → f i ≡ 0 → prod f n ≡ 0
prod_zero f i zero l e = absurd (omega arith)
prod_zero f i (suc n) l e = times_zero (prod f n) (f n) (grind (arith, prod_zero f i n))
  where
    times_zero : (a b : ℕ) → (a ≡ 0) ⊎ (b ≡ 0) → a * b ≡ 0
    times_zero a b h = grind (arith, zero-mul b, mul-zero a)

pub choose_beyond : (n k : ℕ) → n < k → choose n k ≡ 0
choose_beyond n zero l = absurd (omega arith)
choose_beyond zero (suc k) l = refl
choose_beyond (suc n) (suc k) l = omega (arith, choose_beyond n k (omega arith), choose_beyond n (suc k) (omega arith))

-- choosing one more
choose_more : (n k : ℕ) → suc k * choose n (suc k) ≡ choose n k * (n - k)
choose_more zero k = grind (arith, choose_beyond zero, mul-zero (suc k), mul-zero (choose 0 k))
choose_more (suc n) zero = omega (arith, choose_more n zero)
choose_more (suc n) (suc k) = grind (arith, choose_more n (suc k), choose_more n k, choose_beyond n, step (n - suc k) (choose n k) (choose n (suc k)) (choose n (suc (suc k))))
  where
    step : (x C C' C'' : ℕ) → suc (suc k) * C'' ≡ C' * x → suc k * C' ≡ C * suc x → suc (suc k) * (C' + C'') ≡ (C + C') * suc x
    step x C C' C'' e f = omega arith

-- a falling product
pub prod_falling : (n k : ℕ) → prod (λ i. n - i) k ≡ factorial k * choose n k
prod_falling n zero = refl
prod_falling n (suc k) = omega (arith, ap (λ x. x * (n - k)) (prod_falling n k), ap (λ x. factorial k * x) (choose_more n k))

-- the factorial, split at d
prod_factorial : (n d j : ℕ) → n ≡ d + j → prod (λ i. n - i) d * factorial j ≡ factorial n
prod_factorial n zero j e = grind arith
prod_factorial n (suc d) j e = grind (arith, prod_factorial n d (suc j), mul_assoc (prod (λ i. n - i) d) (suc j) (factorial j))

pub choose_factorial : (k d : ℕ) → d ≤ k → choose k d * (factorial d * factorial (k - d)) ≡ factorial k
choose_factorial k d le = omega (arith, ap (λ x. x * factorial (k - d)) (prod_falling k d), prod_factorial k d (k - d) (omega arith))
