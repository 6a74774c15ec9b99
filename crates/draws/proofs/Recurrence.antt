-- How the numbers of allowed lists grow by one more frame, for every lawful rule. Assumes nothing.
use Rattle.std.proofs.Common.{◌≡◌, ℕ, zero, suc, ◌+◌, ◌*◌, ◌<◌, ◌≤◌, Bool, true, false, cond, ◌&&◌, eqb, List, [], ◌∷◌, ◌++◌, length, sym, refl, ap, ◌∙◌, mul-pos, mul-zero, arith}
use Rattle.std.specs.List.{flat_map, AllByRecursion}
use Rattle.std.proofs.lemmas.List.{length_push}
use Rattle.std.proofs.ByRecursion.{All-append, All-map, All-weaker}
use Rattle.std.proofs.lemmas.Bool.Decides.{nat_tests}
use Rattle.draws.specs.Counting.{count_below, count_in, all_below}
use Rattle.draws.specs.Draws.{DrawMeaning, Allowed, none, more, onward, lists, bad_in, cell, same_list, Enumerates, Reel, Lawful}
use Rattle.draws.specs.Tallies.{count_below_same, count_below_less, count_below_none, count_below_at, count_below_choice, count_below_split, count_in_push, count_in_map, count_in_every, count_in_all_below, count_in_joined, count_in_joined_most}

-- an allowed list of k frames
abbrev Drawn : DrawMeaning → ℕ → ℕ → List ℕ → Type 0
Drawn m N k l = Allowed m N l × (length l ≡ k)

all_all_below : (q : ℕ → Bool) (n : ℕ) → AllByRecursion (λ f. q f ≡ true) (all_below q n)
all_all_below q zero = tt
all_all_below q (suc n) = grind (arith, all_all_below q n)

all_joined : {A B : Type 0} (P : A → Type 0) (Q : B → Type 0) (f : A → List B) → ((x : A) → P x → AllByRecursion Q (f x)) → (xs : List A) → AllByRecursion P xs → AllByRecursion Q (flat_map f xs)
all_joined P Q f h [] all = tt
all_joined P Q f h (x ∷ xs) all = All-append Q (f x) (flat_map f xs) (h x all.0) (all_joined P Q f h xs all.1)

-- going on from a list, those that pass a test are the frames that may follow and pass it
count_in_onward : (m : DrawMeaning) (N : ℕ) (p : List ℕ → Bool) (l : List ℕ) → count_in p (onward m N l) ≡ count_below (λ f. m.follows N l f && p (l ++ f ∷ [])) N
count_in_onward m N p l = count_in_map p (λ f. l ++ f ∷ []) (all_below (m.follows N l) N) ∙ count_in_all_below (λ f. p (l ++ f ∷ [])) (m.follows N l) N

module _ (m : DrawMeaning) (N : ℕ) where
  onward_allowed : (k : ℕ) (l : List ℕ) → Drawn m N k l → AllByRecursion (Drawn m N (suc k)) (onward m N l)
  onward_allowed k l h = All-map (Drawn m N (suc k)) (λ f. l ++ f ∷ []) (all_below (m.follows N l) N)
      (All-weaker (λ f. m.follows N l f ≡ true) (λ f. Drawn m N (suc k) (l ++ f ∷ [])) (λ f may. (more h.0 may, omega (arith, length_push l f, h.1))) (all_below (m.follows N l) N) (all_all_below (m.follows N l) N))

  pub lists_allowed : (k : ℕ) → AllByRecursion (λ l. Allowed m N l × (length l ≡ k)) (lists m N k)
  unfolding lists
  lists_allowed zero = ((none, refl), tt)
  lists_allowed (suc k) = all_joined (Drawn m N k) (Drawn m N (suc k)) (onward m N) (onward_allowed k) (lists m N k) (lists_allowed k)

  -- how those that pass a test grow, where each list's number of ways on is told by two tests of the list itself
  push_both : (p a b : List ℕ → Bool) (k A B : ℕ)
      → ((l : List ℕ) → Drawn m N k l → count_below (λ f. m.follows N l f && p (l ++ f ∷ [])) N ≡ cond (a l) A 0 + cond (b l) B 0)
      → count_in p (lists m N (suc k)) ≡ count_in a (lists m N k) * A + count_in b (lists m N k) * B
  unfolding lists
  push_both p a b k A B each = count_in_joined (Drawn m N k) p (onward m N) a b A B (λ l h. count_in_onward m N p l ∙ each l h) (lists m N k) (lists_allowed k)

  push_one : (p a : List ℕ → Bool) (k A : ℕ)
      → ((l : List ℕ) → Drawn m N k l → count_below (λ f. m.follows N l f && p (l ++ f ∷ [])) N ≡ cond (a l) A 0)
      → count_in p (lists m N (suc k)) ≡ count_in a (lists m N k) * A
  push_one p a k A each = omega (arith, push_both p a (λ _. false) k A 0 (λ l h. omega (arith, each l h)), mul-zero (count_in {A = List ℕ} (λ _. false) (lists m N k)))

  ways : Lawful m → Reel N → (k : ℕ) → k < m.longest N → (l : List ℕ) → Drawn m N k l → count_below (m.follows N l) N ≡ m.good N 0 k 0
  ways law reel k lt l h = grind (arith, law.alike N reel l h.0)

  pub all_more : Lawful m → Reel N → (k : ℕ) → k < m.longest N → length (lists m N (suc k)) ≡ length (lists m N k) * m.good N 0 k 0
  all_more law reel k lt = grind (
    arith,
    count_in_every (lists m N (suc k)),
    count_in_every (lists m N k),
    push_one (λ _. true) (λ _. true) k (m.good N 0 k 0) (λ l h. count_below_same (λ f. m.follows N l f && true) (m.follows N l) N (λ f _. grind arith) ∙ ways law reel k lt l h),
  )

  pub all_positive : Lawful m → Reel N → (k : ℕ) → k ≤ m.longest N → 0 < length (lists m N k)
  unfolding lists
  all_positive law reel zero le = omega arith
  all_positive law reel (suc k) le =
      let here : 0 < length (lists m N k) * m.good N 0 k 0 = mul-pos (all_positive law reel k (omega arith)) (law.some_follow N k reel (omega arith)) in
      omega (arith, all_more law reel k (omega arith), here)

  -- whatever is asked, the two counts together are at most the ways on: where a list has that k and d they are those, and elsewhere 0
  pub ways_most : Lawful m → Reel N → (D k d : ℕ) → k < m.longest N → m.good N D k d + m.bad N D k d ≤ m.good N 0 k 0
  ways_most law reel D k d lt = grind (arith, no_list, law.none_right N D k d reel)
    where
      no_list : m.good N 0 k 0 < m.good N D k d + m.bad N D k d → (is_bad : ℕ → Bool) (l : List ℕ) → count_below is_bad N ≡ D → Allowed m N l → length l ≡ k → bad_in is_bad l ≡ d → ⊥
      no_list beyond is_bad l e allowed long bads =
          grind (arith, law.good_right N reel is_bad l allowed, law.bad_right N reel is_bad l allowed, count_below_split (m.follows N l) is_bad N, ways law reel k lt l (allowed, long))

  -- a test that a longer list passes only if the shorter one did
  pub push_fewer : Lawful m → Reel N → (p : List ℕ → Bool) → ((l : List ℕ) (f : ℕ) → p (l ++ f ∷ []) ≡ true → p l ≡ true)
      → (k : ℕ) → k < m.longest N → count_in p (lists m N (suc k)) ≤ count_in p (lists m N k) * m.good N 0 k 0
  unfolding lists
  push_fewer law reel p back k lt =
      count_in_joined_most (Drawn m N k) p (onward m N) p (m.good N 0 k 0) (λ l h. omega (arith, count_in_onward m N p l, one l (ways law reel k lt l h))) (lists m N k) (lists_allowed k)
    where
      one : (l : List ℕ) → count_below (m.follows N l) N ≡ m.good N 0 k 0 → count_below (λ f. m.follows N l f && p (l ++ f ∷ [])) N ≤ cond (p l) (m.good N 0 k 0) 0
      one l all = grind (
        arith,
        count_below_less (λ f. m.follows N l f && p (l ++ f ∷ [])) (m.follows N l) N (λ f _ both. grind arith),
        count_below_none (λ f. m.follows N l f && p (l ++ f ∷ [])) N,
        back l,
      )

  -- the cells

  module _ (law : Lawful m) (reel : Reel N) (w : List ℕ → Bool) (is_bad : ℕ → Bool) (k : ℕ)
      (stays : (l : List ℕ) (f : ℕ) → length l ≡ k → w (l ++ f ∷ []) ≡ w l) where
    -- lists come to d bad frames by a good frame, or by a bad one after those that `was` tells
    cell_more : (d : ℕ) (was : List ℕ → Bool) (B : ℕ)
        → ((l : List ℕ) → eqb (bad_in is_bad l + 1) d ≡ was l)
        → ((l : List ℕ) → was l ≡ true → length l ≡ k → m.bad N (count_below is_bad N) (length l) (bad_in is_bad l) ≡ B)
        → cell m N w is_bad (suc k) d ≡ cell m N w is_bad k d * m.good N (count_below is_bad N) k d + count_in (λ l. w l && was l) (lists m N k) * B
    cell_more d was B by_bad bads = push_both (λ l. w l && eqb (bad_in is_bad l) d) (λ l. w l && eqb (bad_in is_bad l) d) (λ l. w l && was l) k (m.good N (count_below is_bad N) k d) B (λ l h. grind (
      arith,
      nat_tests,
      count_below_same (λ f. m.follows N l f && (w (l ++ f ∷ []) && eqb (bad_in is_bad (l ++ f ∷ [])) d)) (λ f. m.follows N l f && cond (is_bad f) (w l && was l) (w l && eqb (bad_in is_bad l) d)) N
          (λ f _. grind (arith, nat_tests, stays l f h.1, by_bad l, count_in_push is_bad l f)),
      count_below_choice (m.follows N l) is_bad (w l && eqb (bad_in is_bad l) d) (w l && was l) N,
      law.good_right N reel is_bad l h.0,
      law.bad_right N reel is_bad l h.0,
      bads l,
    ))

    pub cell_more_zero : cell m N w is_bad (suc k) 0 ≡ cell m N w is_bad k 0 * m.good N (count_below is_bad N) k 0
    cell_more_zero = omega (arith, cell_more 0 (λ _. false) 0 (λ l. grind (arith, nat_tests)) (λ l e _. cc), mul-zero (count_in (λ l. w l && false) (lists m N k)))

    pub cell_more_suc : (d : ℕ) → cell m N w is_bad (suc k) (suc d) ≡ cell m N w is_bad k (suc d) * m.good N (count_below is_bad N) k (suc d) + cell m N w is_bad k d * m.bad N (count_below is_bad N) k d
    cell_more_suc d = cell_more (suc d) (λ l. eqb (bad_in is_bad l) d) (m.bad N (count_below is_bad N) k d)
        (λ l. grind (arith, nat_tests)) (λ l e long. grind (arith, nat_tests))

-- the enumeration and the predicate agree

same_list_true : (x l : List ℕ) → same_list x l ≡ true → x ≡ l
same_list_true [] [] e = refl
same_list_true [] (y ∷ ys) e = cc
same_list_true (x ∷ xs) [] e = cc
same_list_true (x ∷ xs) (y ∷ ys) e = grind (arith, nat_tests, same_list_true xs ys)

same_list_push : (x l : List ℕ) (g f : ℕ) → length x ≡ length l → same_list (x ++ g ∷ []) (l ++ f ∷ []) ≡ (same_list x l && eqb g f)
same_list_push [] [] g f e = grind arith
same_list_push [] (y ∷ ys) g f e = absurd (omega arith)
same_list_push (x ∷ xs) [] g f e = absurd (omega arith)
same_list_push (x ∷ xs) (y ∷ ys) g f e = grind (arith, same_list_push xs ys g f)

module _ (m : DrawMeaning) (N : ℕ) (law : Lawful m) (reel : Reel N) where
  listed_once : {l : List ℕ} → Allowed m N l → (k : ℕ) → length l ≡ k → count_in (λ x. same_list x l) (lists m N k) ≡ 1
  unfolding lists
  listed_once none zero e = refl
  listed_once none (suc k) e = absurd (omega arith)
  listed_once (more {drawn} {frame} before may) zero e = absurd (omega (arith, length_push drawn frame))
  listed_once (more {drawn} {frame} before may) (suc k) e =
      let long : length drawn ≡ k = omega (arith, length_push drawn frame) in
      omega (
        arith,
        push_one m N (λ x. same_list x (drawn ++ frame ∷ [])) (λ x. same_list x drawn) k 1
            (λ x h. count_below_same _ (λ g. m.follows N x g && (same_list x drawn && eqb g frame)) N (λ g _. ap (λ t. m.follows N x g && t) (same_list_push x drawn g frame (h.1 ∙ sym long))) ∙ one x),
        listed_once before k long,
      )
    where
      one : (x : List ℕ) → count_below (λ g. m.follows N x g && (same_list x drawn && eqb g frame)) N ≡ cond (same_list x drawn) 1 0
      one x = grind (
        arith,
        same_list_true x drawn,
        may,
        count_below_at (m.follows N x) frame N (law.inside N reel drawn frame may),
        count_below_none (λ g. m.follows N x g && (same_list x drawn && eqb g frame)) N,
        count_below_same (λ g. m.follows N x g && (same_list x drawn && eqb g frame)) (λ g. m.follows N x g && eqb g frame) N,
      )

  pub enumerates : Enumerates m N
  enumerates = record { listed = lists_allowed m N; once = λ k l allowed long. listed_once allowed k long }
