-- Drawing without replacement is lawful. Assumes nothing.
use Rattle.std.specs.Prelude.{◌≡◌, ℕ, zero, suc, ◌+◌, ◌-◌, ◌<◌, ◌≤◌, Bool, true, false, not, ◌&&◌, ◌||◌, ltb, List, [], ◌∷◌, ◌++◌, length, ◌==◌, ◌≢◌, refl}
use Rattle.std.proofs.Common.{arith}
use Rattle.std.proofs.lemmas.Bool.Decides.{nat_tests}
use Rattle.draws.specs.Counting.{count_below, count_in}
use Rattle.draws.specs.Draws.{Allowed, none, more, bad_in, Reel, Lawful}
use Rattle.draws.specs.Rules.{holds, gives_once, without_replacement}
use Rattle.draws.specs.Tallies.{count_below_same, count_below_without, count_below_zero, count_below_others, count_below_every, count_below_first, count_in_push, count_in_every, count_in_others}
use Rattle.draws.specs.Shared.{alike_from, grown, mixed, length_mixed, bad_mixed, allowed_mixed}

holds_push : (f : ℕ) (xs : List ℕ) (x : ℕ) → holds f (xs ++ x ∷ []) ≡ (holds f xs || f == x)
holds_push f [] x = grind arith
holds_push f (y ∷ xs) x = grind (arith, holds_push f xs x)

inside : (N : ℕ) (drawn : List ℕ) (f : ℕ) → without_replacement.follows N drawn f ≡ true → f < N
inside N drawn f e = grind (arith, nat_tests)

-- of the reel's frames that pass a test, those drawn can not follow and the others can
left : (N : ℕ) {l : List ℕ} → Allowed without_replacement N l → (p : ℕ → Bool) → count_below (λ f. without_replacement.follows N l f && p f) N + count_in p l ≡ count_below p N
left N none p = omega (arith, count_below_same (λ f. without_replacement.follows N [] f && p f) p N (λ f below. grind (arith, nat_tests)))
left N (more {drawn} {frame} before may) p = grind (
  arith,
  left N before p,
  count_below_without (λ f. without_replacement.follows N drawn f && p f) frame N (inside N drawn frame may),
  count_below_same (λ f. without_replacement.follows N (drawn ++ frame ∷ []) f && p f) (λ f. (without_replacement.follows N drawn f && p f) && not (f == frame)) N
      (λ f _. grind (arith, nat_tests, holds_push f drawn frame)),
  count_in_push p drawn frame,
)

pub gives : (N D k d : ℕ) → d ≤ k → d ≤ D → D ≤ N → k - d ≤ N - D → gives_once N D k d ≡ true
gives N D k d a b c e = grind (arith, nat_tests)

module _ (N : ℕ) (is_bad : ℕ → Bool) (l : List ℕ) (allowed : Allowed without_replacement N l) where
  both_right : (without_replacement.good N (count_below is_bad N) (length l) (bad_in is_bad l) ≡ count_below (λ f. without_replacement.follows N l f && not (is_bad f)) N)
      × (without_replacement.bad N (count_below is_bad N) (length l) (bad_in is_bad l) ≡ count_below (λ f. without_replacement.follows N l f && is_bad f) N)
  both_right = grind (arith, nat_tests, left N allowed is_bad, left N allowed (λ f. not (is_bad f)), count_in_others is_bad l, count_below_others is_bad N)

-- a list of the whole reel leaves nothing
ends : (N : ℕ) (l : List ℕ) → Allowed without_replacement N l → length l ≡ N → (f : ℕ) → without_replacement.follows N l f ≡ false
ends N l allowed full f = grind (
  arith,
  nat_tests,
  left N allowed (λ _. true),
  count_in_every l,
  count_below_every (λ _. true) N (λ _ _. refl),
  count_below_zero (λ g. without_replacement.follows N l g && true) N,
)

holds_grown : (f : ℕ) (l : List ℕ) (frame : ℕ → ℕ) (n : ℕ) → holds f l ≡ false → ((i : ℕ) → i < n → f ≢ frame i) → holds f (grown l frame n) ≡ false
holds_grown f l frame zero start other = start
holds_grown f l frame (suc n) start other =
    grind (arith, nat_tests, holds_push f (grown l frame n) (frame n), holds_grown f l frame n start (λ i b. other i (omega arith)), other n)

-- wherever the counts may be above 0 there is a list: the first d of the bad frames, then good ones
none_right : (N D k d : ℕ) → Reel N → ((is_bad : ℕ → Bool) (drawn : List ℕ) → count_below is_bad N ≡ D → Allowed without_replacement N drawn → length drawn ≡ k → bad_in is_bad drawn ≢ d)
    → (without_replacement.good N D k d ≡ 0) × (without_replacement.bad N D k d ≡ 0)
none_right N D k d reel no_list = grind (arith, nat_tests, there)
  where
    early : (f n : ℕ) → n ≤ f → holds f (grown [] (λ j. j) n) ≡ false
    early f n le = holds_grown f [] (λ j. j) n refl (λ j l same. omega arith)

    there : d ≤ k → d ≤ D → D ≤ N → k - d ≤ N - D → ⊥
    there a b c e = no_list (λ f. ltb f D) (mixed without_replacement N D k d (λ i. i) (λ i. D + i)) (count_below_first D N c)
        (allowed_mixed without_replacement N D k d (λ i. i) (λ i. D + i)
        (λ i lt. grind (arith, nat_tests, early i i))
        (λ i lt. let apart = holds_grown (D + i) (grown [] (λ j. j) d) (λ j. D + j) i (early (D + i) d (omega arith)) (λ j l same. omega arith) in grind (arith, nat_tests)))
        (length_mixed without_replacement N D k d (λ i. i) (λ i. D + i) a)
        (bad_mixed without_replacement N D k d (λ i. i) (λ i. D + i) (λ i lt. omega arith) (λ i lt. omega arith))

pub lawful : Lawful without_replacement
lawful = record {
  inside = λ N _ drawn frame may. inside N drawn frame may;
  grows = λ N reel. reel.some;
  some_follow = λ N k reel lt. grind (arith, nat_tests);
  alike = λ N _ l allowed _. alike_from without_replacement N l (both_right N (λ _. false) l allowed).0;
  ends = λ N _ l allowed full frame. ends N l allowed full frame;
  good_right = λ N _ is_bad l allowed. (both_right N is_bad l allowed).0;
  bad_right = λ N _ is_bad l allowed. (both_right N is_bad l allowed).1;
  none_right = none_right;
}
