-- The recurrence solved: where the ways on to a good frame go by the good frames drawn and those to a bad one by the bad, the cells are products. Assumes nothing.
use Rattle.std.proofs.Common.{◌≡◌, ℕ, zero, suc, ◌+◌, ◌-◌, ◌*◌, ◌<◌, ◌≤◌, Bool, true, ◌⊎◌, length, refl, ap, ◌∙◌, mul-zero, zero-mul, arith}
use native.Mathlib.Nat.{sub-zero, suc-sub-suc}
use Rattle.std.proofs.lemmas.Bool.Decides.{nat_tests}
use Rattle.draws.specs.Counting.{count_below}
use Rattle.draws.specs.Draws.{DrawMeaning, Reel, Lawful, lists, cell}
use Rattle.draws.specs.Closed.{choose}
use Rattle.draws.proofs.Combinations.{prod, choose_beyond}
use Rattle.draws.proofs.Recurrence.{all_more, cell_more_zero, cell_more_suc}

pub all_product : (m : DrawMeaning) (N : ℕ) → Lawful m → Reel N → (k : ℕ) → k ≤ m.longest N → length (lists m N k) ≡ prod (λ i. m.good N 0 i 0) k
unfolding lists
all_product m N law reel zero le = refl
all_product m N law reel (suc k) le = all_more m N law reel k le ∙ ap (λ n. n * m.good N 0 k 0) (all_product m N law reel k (omega arith))

-- the d bad frames have places among k, and each of the draws its number of ways
abbrev pub form : (good bad : ℕ → ℕ) (k d : ℕ) → ℕ
form good bad k d = choose k d * (prod bad d * prod good (k - d))

-- a factor does not matter where the other is 0
times : (f c x y : ℕ) → c ≡ f → (f ≡ 0) ⊎ (x ≡ y) → c * x ≡ f * y
times f c x y e either = grind (arith, zero-mul x, zero-mul y)

-- a form of which one part is 0
pub vanish : (C B G : ℕ) → (C ≡ 0) ⊎ ((B ≡ 0) ⊎ (G ≡ 0)) → C * (B * G) ≡ 0
vanish C B G either = grind (arith, zero-mul (B * G), zero-mul G, mul-zero B, mul-zero C)

module _ (good bad : ℕ → ℕ) where
  form_zero : (k : ℕ) → form good bad k 0 * good (k - 0) ≡ form good bad (suc k) 0
  form_zero k = grind (arith, sub-zero k)

  form_suc : (k d : ℕ) → form good bad k (suc d) * good (k - suc d) + form good bad k d * bad d ≡ form good bad (suc k) (suc d)
  form_suc k d = grind (arith, suc-sub-suc k d, choose_beyond k (suc d), join (choose k d) (choose k (suc d)) (prod bad d) (bad d) (prod good (k - suc d)) (good (k - suc d)), alone (choose k d) (prod bad d) (bad d) (prod good (k - d)) (prod bad (suc d) * prod good (k - suc d)) (good (k - suc d)), within)
    where
      within : d < k → k - d ≡ suc (k - suc d)
      within l = omega arith

      join : (C C' B b P g : ℕ) → (C' * ((B * b) * P)) * g + (C * (B * (P * g))) * b ≡ (C + C') * ((B * b) * (P * g))
      join C C' B b P g = omega arith

      alone : (C B b P x y : ℕ) → (0 * x) * y + (C * (B * P)) * b ≡ (C + 0) * ((B * b) * P)
      alone C B b P x y = omega arith

module _ (m : DrawMeaning) (N : ℕ) (law : Lawful m) (reel : Reel N) (is_bad : ℕ → Bool) (good bad : ℕ → ℕ)
    (right : (k d : ℕ) → k < m.longest N → (form good bad k d ≡ 0) ⊎ ((m.good N (count_below is_bad N) k d ≡ good (k - d)) × (m.bad N (count_below is_bad N) k d ≡ bad d))) where
  pub cell_product : (k : ℕ) → k ≤ m.longest N → (d : ℕ) → cell m N (λ _. true) is_bad k d ≡ form good bad k d
  unfolding lists
  cell_product zero le zero = refl
  cell_product zero le (suc d) = grind (arith, nat_tests, zero-mul (prod bad (suc d) * prod good (0 - suc d)))
  cell_product (suc k) le zero = grind (
    arith,
    cell_more_zero m N law reel (λ _. true) is_bad k (λ _ _ _. refl),
    times (form good bad k 0) (cell m N (λ _. true) is_bad k 0) (m.good N (count_below is_bad N) k 0) (good (k - 0)),
    cell_product k (omega arith) 0,
    right k 0 le,
    form_zero good bad k,
  )
  cell_product (suc k) le (suc d) = grind (
    arith,
    cell_more_suc m N law reel (λ _. true) is_bad k (λ _ _ _. refl) d,
    times (form good bad k (suc d)) (cell m N (λ _. true) is_bad k (suc d)) (m.good N (count_below is_bad N) k (suc d)) (good (k - suc d)),
    times (form good bad k d) (cell m N (λ _. true) is_bad k d) (m.bad N (count_below is_bad N) k d) (bad d),
    cell_product k (omega arith) (suc d),
    cell_product k (omega arith) d,
    right k (suc d) le,
    right k d le,
    form_suc good bad k d,
  )
