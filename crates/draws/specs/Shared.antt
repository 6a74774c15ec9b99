-- What the laws of both rules rest on: a list with any number of good and bad frames, and what one law gives another. Assumes nothing.
use Rattle.std.specs.Prelude.{◌≡◌, ℕ, zero, suc, ◌+◌, ◌-◌, ◌<◌, ◌≤◌, Bool, true, false, cond, ◌&&◌, List, [], ◌∷◌, ◌++◌, length, nat_lt}
use Rattle.std.proofs.Common.{arith}
use Rattle.std.proofs.lemmas.Bool.Decides.{nat_tests}
use Rattle.std.proofs.lemmas.List.{length_push}
use Rattle.draws.specs.Counting.{count_below, count_in}
use Rattle.draws.specs.Draws.{DrawMeaning, Allowed, none, more, bad_in}
use Rattle.draws.specs.Tallies.{count_below_same, count_below_none, count_in_push, count_in_none}

-- n more frames behind a list
abbrev pub grown : List ℕ → (ℕ → ℕ) → ℕ → List ℕ
grown l frame zero = l
grown l frame (suc n) = grown l frame n ++ frame n ∷ []

module _ (l : List ℕ) (frame : ℕ → ℕ) where
  pub length_grown : (n : ℕ) → length (grown l frame n) ≡ length l + n
  length_grown zero = omega arith
  length_grown (suc n) = omega (arith, length_push (grown l frame n) (frame n), length_grown n)

  pub count_in_grown : (p : ℕ → Bool) (b : Bool) (n : ℕ) → ((i : ℕ) → i < n → p (frame i) ≡ b) → count_in p (grown l frame n) ≡ count_in p l + cond b n 0
  count_in_grown p b zero h = grind arith
  count_in_grown p b (suc n) h = grind (arith, count_in_push p (grown l frame n) (frame n), count_in_grown p b n (λ i b. h i (omega arith)), h n)

  pub allowed_grown : (m : DrawMeaning) (N : ℕ) → Allowed m N l → (n : ℕ) → ((i : ℕ) → i < n → m.follows N (grown l frame i) (frame i) ≡ true) → Allowed m N (grown l frame n)
  allowed_grown m N start zero h = start
  allowed_grown m N start (suc n) h = more (allowed_grown m N start n (λ i b. h i (omega arith))) (h n (omega arith))

-- a list of k frames whose first d lie below D and the others do not: with the frames below D bad, d of them are
module _ (m : DrawMeaning) (N D k d : ℕ) (early late : ℕ → ℕ) where
  pub mixed : List ℕ
  mixed = grown (grown [] early d) late (k - d)

  pub length_mixed : d ≤ k → length mixed ≡ k
  unfolding mixed
  length_mixed le = omega (arith, length_grown (grown [] early d) late (k - d), length_grown [] early d)

  pub bad_mixed : ((i : ℕ) → i < d → early i < D) → ((i : ℕ) → i < k - d → D ≤ late i) → bad_in (λ f. nat_lt f D) mixed ≡ d
  unfolding mixed
  bad_mixed below above = grind (
    arith,
    nat_tests,
    count_in_grown (grown [] early d) late (λ f. nat_lt f D) false (k - d),
    count_in_grown [] early (λ f. nat_lt f D) true d,
  )

  pub allowed_mixed : ((i : ℕ) → i < d → m.follows N (grown [] early i) (early i) ≡ true)
      → ((i : ℕ) → i < k - d → m.follows N (grown (grown [] early d) late i) (late i) ≡ true) → Allowed m N mixed
  unfolding mixed
  allowed_mixed before after = allowed_grown (grown [] early d) late m N (allowed_grown [] early m N none d before) (k - d) after

-- where no frame is bad, the good frames that may follow are all that may
pub alike_from : (m : DrawMeaning) (N : ℕ) (l : List ℕ)
    → m.good N (count_below (λ _. false) N) (length l) (bad_in (λ _. false) l) ≡ count_below (λ f. m.follows N l f && true) N
    → count_below (m.follows N l) N ≡ m.good N 0 (length l) 0
alike_from m N l right = grind (arith, count_below_same (m.follows N l) (λ f. m.follows N l f && true) N, count_below_none (λ _. false) N, count_in_none l)
