-- Drawing without replacement has the hypergeometric numbers. Assumes nothing.
use Rattle.std.proofs.Common.{◌≡◌, ℕ, ◌-◌, ◌*◌, ◌<◌, ◌≤◌, true, false, Bool, ◌⊎◌, ap, ◌∙◌, inl, arith}
use Rattle.std.proofs.lemmas.Bool.Decides.{nat_tests}
use Rattle.draws.specs.Counting.{count_below}
use Rattle.draws.specs.Draws.{Reel, cell}
use Rattle.draws.specs.Rules.{gives_once, without_replacement}
use Rattle.draws.specs.Closed.{factorial, choose, Hypergeometric}
use Rattle.draws.specs.Tallies.{count_below_most}
use Rattle.draws.proofs.Combinations.{prod, prod_same, prod_zero, prod_falling, choose_beyond, choose_factorial}
use Rattle.draws.proofs.Products.{all_product, form, vanish, cell_product}
use Rattle.draws.specs.Without.{lawful}

module _ (N D k d : ℕ) (le : D ≤ N) where
  -- where the rule's counts are 0 without need, no list is counted
  nothing : gives_once N D k d ≡ false → form (λ j. (N - D) - j) (λ i. D - i) k d ≡ 0
  nothing e = vanish (choose k d) (prod (λ i. D - i) d) (prod (λ j. (N - D) - j) (k - d))
      (grind (arith, nat_tests, choose_beyond k d, prod_zero (λ i. D - i) D d, prod_zero (λ j. (N - D) - j) (N - D) (k - d)))

  right : (form (λ j. (N - D) - j) (λ i. D - i) k d ≡ 0) ⊎ ((without_replacement.good N D k d ≡ (N - D) - (k - d)) × (without_replacement.bad N D k d ≡ D - d))
  right = grind (arith, nothing)

falls : (N : ℕ) → Reel N → (k : ℕ) → k ≤ N → (i : ℕ) → i < k → without_replacement.good N 0 i 0 ≡ N - i
falls N reel k le i lt = grind (arith, nat_tests)

-- in order, out of order
regroup : (C f g p q K : ℕ) → C * (f * g) ≡ K → C * ((f * p) * (g * q)) ≡ K * (p * q)
regroup C f g p q K e = omega (arith, ap (λ n. n * (p * q)) e)

pub hypergeometric : Hypergeometric without_replacement
hypergeometric = record {
  all = λ N reel k le. all_product without_replacement N lawful reel k le ∙ prod_same (λ i. without_replacement.good N 0 i 0) (λ i. N - i) k (falls N reel k le) ∙ prod_falling N k;
  cells = λ N reel is_bad k d le few. cells N reel is_bad k d le ∙ closed (count_below is_bad N) (N - count_below is_bad N) k d few;
  no_more = λ N reel is_bad k d le many. cells N reel is_bad k d le ∙ vanish (choose k d) _ _ (inl (choose_beyond k d many));
}
  where
    cells : (N : ℕ) → Reel N → (is_bad : ℕ → Bool) (k d : ℕ) → k ≤ N → cell without_replacement N (λ _. true) is_bad k d ≡ form (λ j. (N - count_below is_bad N) - j) (λ i. count_below is_bad N - i) k d
    cells N reel is_bad k d le = cell_product without_replacement N lawful reel is_bad (λ j. (N - count_below is_bad N) - j) (λ i. count_below is_bad N - i)
        (λ k d _. right N (count_below is_bad N) k d (count_below_most is_bad N)) k le d

    closed : (D G k d : ℕ) → d ≤ k → form (λ j. G - j) (λ i. D - i) k d ≡ factorial k * (choose D d * choose G (k - d))
    closed D G k d le =
        grind (arith, prod_falling D d, prod_falling G (k - d), regroup (choose k d) (factorial d) (factorial (k - d)) (choose D d) (choose G (k - d)) (factorial k), choose_factorial k d)
