-- Drawing with replacement has the binomial numbers. Assumes nothing.
use Rattle.std.proofs.Common.{◌≡◌, ℕ, ◌-◌, ◌*◌, ◌<◌, ◌≤◌, ◌⊎◌, false, ◌∙◌, arith}
use Rattle.std.proofs.lemmas.Bool.Decides.{nat_tests}
use Rattle.draws.specs.Counting.{count_below}
use Rattle.draws.specs.Draws.{Reel}
use Rattle.draws.specs.Rules.{gives_again, with_replacement}
use Rattle.draws.specs.Closed.{choose, Binomial}
use Rattle.draws.specs.Tallies.{count_below_most}
use Rattle.draws.proofs.Combinations.{prod, prod_same, prod_zero, prod_steady, choose_beyond}
use Rattle.draws.proofs.Products.{all_product, form, vanish, cell_product}
use Rattle.draws.specs.With.{lawful}

module _ (N D k d : ℕ) (le : D ≤ N) (lt : k < 32768) where
  -- where the rule's counts are 0 without need, no list is counted
  nothing : gives_again N D k d ≡ false → form (λ _. N - D) (λ _. D) k d ≡ 0
  nothing e = vanish (choose k d) (prod (λ _. D) d) (prod (λ _. N - D) (k - d))
      (grind (arith, nat_tests, choose_beyond k d, prod_zero (λ _. D) 0 d, prod_zero (λ _. N - D) 0 (k - d)))

  right : (form (λ _. N - D) (λ _. D) k d ≡ 0) ⊎ ((with_replacement.good N D k d ≡ N - D) × (with_replacement.bad N D k d ≡ D))
  right = grind (arith, nothing)

steady : (N : ℕ) → Reel N → (k : ℕ) → k ≤ 32768 → (i : ℕ) → i < k → with_replacement.good N 0 i 0 ≡ N
steady N reel k le i lt = grind (arith, nat_tests, reel.some)

pub binomial : Binomial with_replacement
binomial = record {
  all = λ N reel k le. all_product with_replacement N lawful reel k le ∙ prod_same (λ i. with_replacement.good N 0 i 0) (λ _. N) k (steady N reel k le) ∙ prod_steady N k;
  cells = λ N reel is_bad k d le.
      cell_product with_replacement N lawful reel is_bad (λ _. N - count_below is_bad N) (λ _. count_below is_bad N)
      (λ k d lt. right N (count_below is_bad N) k d (count_below_most is_bad N) lt) k le d
      ∙ (λ t. choose k d * (prod_steady (count_below is_bad N) d t * prod_steady (N - count_below is_bad N) (k - d) t));
}
