-- Which line named a frame first, and how many frames are named, with one line more. Assumes nothing.
use Rattle.std.proofs.Common.{◌≡◌, ℕ, zero, suc, ◌+◌, ◌<◌, ◌≤◌, Bool, true, false, cond, ◌||◌, eqb, ltb, List, [], ◌∷◌, ◌++◌, length, is_some, Some, None, count_by, position, Option, sym, refl, ap, ◌∙◌, ⊎_elim, zero-add, arith, map, not, length-take, unwrap_or}
use Rattle.std.specs.List.{range_with_len, position_or_len}
use Rattle.std.specs.Option.{option_or}
use Rattle.std.proofs.Math.Bool.{or-false}
use Rattle.std.proofs.lemmas.List.Folds.{position_or_len_push, length-prefix_len}
use Rattle.std.proofs.lemmas.List.Sums.{sum_by-cons}
use Rattle.std.proofs.lemmas.List.{length_push, length-map}
use Rattle.std.proofs.lemmas.Bool.{eqb-true, cases_eq, cases_Bool}
use Rattle.std.proofs.lemmas.Bool.Decides.{nat_tests}
use Rattle.drawlist.specs.Rows.{Naming, frame}
use Rattle.drawlist.specs.Surveys.{names, first_naming, noted, frames_named}

-- the first place that passes, with one element more
pub position_push : {X : Type 0} (p : X → Bool) (xs : List X) (y : X) → position p (xs ++ y ∷ []) ≡ option_or (position p xs) (cond (p y) (Some (length xs)) None)
position_push {X = X} p xs y = at (position_or_len p xs) (length xs) (p y) _ _ (position_or_len_push p xs y) (length_push xs y) (omega (arith, length-prefix_len (λ x. not (p x)) xs, length-take {A = X}))
  where
    at : (i n : ℕ) (b : Bool) (j m : ℕ) → j ≡ cond (eqb i n) (n + cond b 0 1) i → m ≡ n + 1 → i ≤ n → cond (ltb j m) (Some j) None ≡ option_or (cond (ltb i n) (Some i) None) (cond b (Some n) None)
    at i n b j m e f l = grind (arith, nat_tests)

-- and of what f makes of each element
pub position-map : {X Y : Type 0} (p : Y → Bool) (f : X → Y) (xs : List X) → position p (map f xs) ≡ position (λ x. p (f x)) xs
position-map p f xs = rw (length-map xs f, same xs)
  where
    same : (xs : List _) → position_or_len p (map f xs) ≡ position_or_len (λ x. p (f x)) xs
    same [] = refl
    same (x ∷ xs) = ap (λ n. cond (not (p (f x))) (1 + n) 0) (same xs)

-- and each frame's first line
pub first_more : (n : Naming) (ns : List Naming) (f : ℕ) → noted n (length ns) (λ g. first_naming g ns) f ≡ first_naming f (ns ++ n ∷ [])
first_more n ns f = either (names f n) (first_naming f ns) (length ns) ∙ sym (position_push (names f) ns n)
  where
    either : (b : Bool) (o : Option ℕ) (i : ℕ) → cond b (Some (unwrap_or o i)) o ≡ option_or o (cond b (Some i) None)
    either true None i = refl
    either true (Some j) i = refl
    either false None i = refl
    either false (Some j) i = refl

count_by_cons : (p : ℕ → Bool) (x : ℕ) (xs : List ℕ) → count_by p (x ∷ xs) ≡ cond (p x) 1 0 + count_by p xs
count_by_cons p x xs = sum_by-cons (λ y. cond (p y) 1 0) x xs

count_by_same : (p q : ℕ → Bool) (xs : List ℕ) → ((g : ℕ) → p g ≡ q g) → count_by p xs ≡ count_by q xs
count_by_same p q xs h = ap (λ r. count_by r xs) (λ i g. h g i)

module _ (p : ℕ → Bool) (f : ℕ) where
  -- with f
  abbrev also : ℕ → Bool
  also g = p g || eqb f g

  past : (a n : ℕ) → f < a → count_by also (range_with_len a n) ≡ count_by p (range_with_len a n)
  past a zero l = refl
  past a (suc n) l = let rest = past (a + 1) n (omega arith) in rw (count_by_cons also, count_by_cons p, rest) (grind (arith, nat_tests))

  one_more : p f ≡ false → (a n : ℕ) → a ≤ f → f < a + n → count_by also (range_with_len a n) ≡ count_by p (range_with_len a n) + 1
  one_more new a zero l h = absurd (omega arith)
  one_more new a (suc n) l h =
      ⊎_elim
      (λ (e : f ≡ a). let here : p a ≡ false = ap p (sym e) ∙ new in let rest = past (a + 1) n (omega arith) in rw (count_by_cons also, count_by_cons p, rest) (grind (arith, nat_tests)))
      (λ (ne : f ≡ a → ⊥). let rest = one_more new (a + 1) n (omega arith) (omega arith) in rw (count_by_cons also, count_by_cons p, rest) (grind (arith, nat_tests)))
      (cases_eq f a)

module _ (N : ℕ) (ns : List Naming) where
  abbrev is_named : ℕ → Bool
  is_named g = is_some (first_naming g ns)

  named_more : (n : Naming) (g : ℕ) → is_some (first_naming g (ns ++ n ∷ [])) ≡ (is_named g || names g n)
  named_more n g = ap is_some (position_push (names g) ns n) ∙ either (first_naming g ns) (names g n) (length ns)
    where
      either : (o : Option ℕ) (b : Bool) (i : ℕ) → is_some (option_or o (cond b (Some i) None)) ≡ (is_some o || b)
      either None true i = refl
      either None false i = refl
      either (Some j) b i = refl

  -- a line that names no frame
  pub frames_same : (n : Naming) → ((g : ℕ) → names g n ≡ false) → frames_named N (ns ++ n ∷ []) ≡ frames_named N ns
  frames_same n none = count_by_same _ _ (range_with_len 0 N) (λ g. named_more n g ∙ ap (λ b. is_named g || b) (none g) ∙ or-false (is_named g))

  -- a frame named before
  pub frames_again : (f : ℕ) → is_named f ≡ true → frames_named N (ns ++ frame f ∷ []) ≡ frames_named N ns
  frames_again f old =
      count_by_same _ _ (range_with_len 0 N) (λ g. named_more (frame f) g ∙
      ⊎_elim
      (λ e. let is : is_named g ≡ true = ap is_named (sym (eqb-true f g e)) ∙ old in ap (λ b. b || eqb f g) is ∙ sym is)
      (λ e. ap (λ b. is_named g || b) e ∙ or-false (is_named g))
      (cases_Bool (eqb f g)))

  -- a frame named for the first time
  pub frames_more : (f : ℕ) → f < N → is_named f ≡ false → frames_named N (ns ++ frame f ∷ []) ≡ frames_named N ns + 1
  frames_more f l new = count_by_same _ _ (range_with_len 0 N) (named_more (frame f)) ∙ one_more is_named f new 0 N (omega arith) (omega arith)

pub frames_none : (N : ℕ) → frames_named N [] ≡ 0
frames_none N = none 0 N
  where
    none : (a n : ℕ) → count_by (λ f. false) (range_with_len a n) ≡ 0
    none a zero = refl
    none a (suc n) = count_by_cons (λ f. false) a (range_with_len (a + 1) n) ∙ zero-add _ ∙ none (a + 1) n
