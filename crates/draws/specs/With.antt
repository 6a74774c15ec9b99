-- Drawing with replacement is lawful. Assumes nothing.
use Rattle.std.specs.Prelude.{◌≡◌, ℕ, ◌<◌, ◌≤◌, Bool, true, false, cond, not, ◌&&◌, ltb, List, [], length, ◌≢◌, refl}
use Rattle.std.proofs.Common.{ap, arith}
use Rattle.std.proofs.lemmas.Bool.Decides.{nat_tests}
use Rattle.draws.specs.Counting.{count_below, count_in}
use Rattle.draws.specs.Draws.{Allowed, none, more, bad_in, Reel, Lawful}
use Rattle.draws.specs.Rules.{gives_again, with_replacement}
use Rattle.draws.specs.Tallies.{count_below_same, count_below_none, count_below_zero, count_below_others, count_below_first, count_in_push, count_in_others}
use Rattle.draws.specs.Shared.{alike_from, grown, length_grown, mixed, length_mixed, bad_mixed, allowed_mixed}

inside : (N : ℕ) (l : List ℕ) (f : ℕ) → with_replacement.follows N l f ≡ true → f < N
inside N l f may = grind (arith, nat_tests)

-- where no frame of the reel passes a test, no drawn frame does
none_drawn : (N : ℕ) (p : ℕ → Bool) → count_below p N ≡ 0 → {l : List ℕ} → Allowed with_replacement N l → count_in p l ≡ 0
none_drawn N p none_pass none = refl
none_drawn N p none_pass (more {drawn} {frame} before may) =
    omega (arith, count_in_push p drawn frame, none_drawn N p none_pass before, ap (λ t. cond {A = ℕ} t 1 0) (count_below_zero p N none_pass frame (inside N drawn frame may)))

-- before the longest list every frame follows, and behind it none
any_follow : (N : ℕ) (l : List ℕ) (p : ℕ → Bool) → length l < 32768 → count_below (λ f. with_replacement.follows N l f && p f) N ≡ count_below p N
any_follow N l p short = count_below_same (λ f. with_replacement.follows N l f && p f) p N (λ f below. grind (arith, nat_tests))

none_follow : (N : ℕ) (l : List ℕ) (p : ℕ → Bool) → 32768 ≤ length l → count_below (λ f. with_replacement.follows N l f && p f) N ≡ 0
none_follow N l p full = count_below_none (λ f. with_replacement.follows N l f && p f) N (λ f _. grind (arith, nat_tests))

pub gives : (N D k d : ℕ) → k < 32768 → d ≤ k → D ≤ N → (D ≡ 0 → d ≡ 0) → (D ≡ N → d ≡ k) → gives_again N D k d ≡ true
gives N D k d a b c e f = grind (arith, nat_tests)

module _ (N : ℕ) (is_bad : ℕ → Bool) (l : List ℕ) (allowed : Allowed with_replacement N l) where
  both_right : (with_replacement.good N (count_below is_bad N) (length l) (bad_in is_bad l) ≡ count_below (λ f. with_replacement.follows N l f && not (is_bad f)) N)
      × (with_replacement.bad N (count_below is_bad N) (length l) (bad_in is_bad l) ≡ count_below (λ f. with_replacement.follows N l f && is_bad f) N)
  both_right = grind (
    arith,
    nat_tests,
    count_in_others is_bad l,
    count_below_others is_bad N,
    any_follow N l is_bad,
    any_follow N l (λ f. not (is_bad f)),
    none_follow N l is_bad,
    none_follow N l (λ f. not (is_bad f)),
    (λ (e : count_below is_bad N ≡ 0). none_drawn N is_bad e allowed),
    (λ (e : count_below (λ f. not (is_bad f)) N ≡ 0). none_drawn N (λ f. not (is_bad f)) e allowed),
  )

none_right : (N D k d : ℕ) → Reel N → ((is_bad : ℕ → Bool) (drawn : List ℕ) → count_below is_bad N ≡ D → Allowed with_replacement N drawn → length drawn ≡ k → bad_in is_bad drawn ≢ d)
    → (with_replacement.good N D k d ≡ 0) × (with_replacement.bad N D k d ≡ 0)
none_right N D k d reel no_list = grind (arith, nat_tests, there)
  where
    there : k < 32768 → d ≤ k → D ≤ N → (0 < d → 0 < D) → (d < k → D < N) → ⊥
    there a b c some_bad some_good = no_list (λ f. ltb f D) (mixed with_replacement N D k d (λ _. 0) (λ _. D)) (count_below_first D N c)
        (allowed_mixed with_replacement N D k d (λ _. 0) (λ _. D)
        (λ i lt. grind (arith, nat_tests, length_grown [] (λ _. 0) i, reel.some))
        (λ i lt. grind (arith, nat_tests, length_grown (grown [] (λ _. 0) d) (λ _. D) i, length_grown [] (λ _. 0) d, some_good)))
        (length_mixed with_replacement N D k d (λ _. 0) (λ _. D) b)
        (bad_mixed with_replacement N D k d (λ _. 0) (λ _. D) (λ i lt. some_bad (omega arith)) (λ i lt. omega arith))

pub lawful : Lawful with_replacement
lawful = record {
  inside = λ N _ drawn frame may. inside N drawn frame may;
  grows = λ N reel. omega arith;
  some_follow = λ N k reel lt. grind (arith, nat_tests, reel.some);
  alike = λ N _ l allowed _. alike_from with_replacement N l (both_right N (λ _. false) l allowed).0;
  ends = λ N _ l _ full frame. grind (arith, nat_tests);
  good_right = λ N _ is_bad l allowed. (both_right N is_bad l allowed).0;
  bad_right = λ N _ is_bad l allowed. (both_right N is_bad l allowed).1;
  none_right = none_right;
}
