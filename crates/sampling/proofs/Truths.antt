-- The sample that the search gives is truly the smallest. Assumes nothing.
use Rattle.std.proofs.Common.{◌≡◌, ℕ, zero, suc, ◌+◌, ◌*◌, ◌≤◌, Bool, true, false, cond, ◌||◌, ltb, ◌-◌, List, ◌++◌, length, take, drop, codes, sym, refl, ap, ◌∙◌, subst, add-zero, zero-add, arith}
use Rattle.std.proofs.lemmas.Bool.{ltb-false, or_parts, le-ltb, cond-false, leb-true, le-leb, both_ways}
use Rattle.std.proofs.lemmas.List.{length-take-le}
use Rattle.film.specs.Refusals.{Answer, given, refused, refuse}
use Rattle.draws.specs.Counting.{count_below}
use Rattle.draws.specs.Draws.{DrawMeaning, Reel, Lawful}
use Rattle.plans.specs.Plans.{single}
use Rattle.plans.specs.Working.{whole, low_of, high_of}
use Rattle.plans.specs.Limits.{Within, Smallest}
use Rattle.plans.proofs.Limited.{shows}
use Rattle.sampling.specs.Chances.{no_reel}
use Rattle.sampling.specs.Certifies.{is_within, no_tolerance, no_limit}
use Rattle.sampling.specs.Searches.{last_tried, searched, searched_row, Truly, Smallests, Searches}
use Rattle.sampling.proofs.Overlays.{laid_over}
use Rattle.sampling.proofs.Promises.{reel_from_lem}

-- a test that fails tells that the units are above the limit
above : (limit units : ℕ) → is_within limit units ≡ false → Within limit units → ⊥
above limit units fails within = both_ways (is_within limit units) fails (le-leb (units * 1000000) (limit * whole) within)

refused_given : {n x : ℕ} {l : List ℕ} {v : ℕ} → ◌≡◌ {A = Answer ℕ} (refuse n x l) (given v) → ⊥
refused_given e = cc

number_in : Answer ℕ → ℕ
number_in (given v) = 0
number_in (refused r) = r.number

same_number : {n k x y : ℕ} {l : List ℕ} → ◌≡◌ {A = Answer ℕ} (refuse n x l) (refuse k y l) → n ≡ k
unfolding number_in
same_number e = ap number_in e

same_size : {x y : ℕ} → ◌≡◌ {A = Answer ℕ} (given x) (given y) → x ≡ y
same_size e = cc

module _ (m : DrawMeaning) (law : Lawful m) (N : ℕ) (reel : Reel N) (T limit c : ℕ) where
  given_truly : (left n v : ℕ) → n + left ≤ m.longest N → searched m N T limit c left n ≡ given v → (is_bad : ℕ → Bool) → count_below is_bad N ≡ T → Smallest m N is_bad c limit v
  unfolding searched
  given_truly zero n v le e is_bad bad = absurd (none (is_within limit (low_of m N T (single n c))) e)
    where
      none : (b : Bool) → cond b (refuse 27 n (codes "R")) (refuse 28 n (codes "R")) ≡ given v → ⊥
      none true e = refused_given e
      none false e = refused_given e
  given_truly (suc left) n v le e is_bad bad =
      by (is_within limit (high_of m N T (single (suc n) c))) (is_within limit (low_of m N T (single n c))) refl refl e (λ f. given_truly left (suc n) v (omega arith) f is_bad bad)
    where
      by : (x y : Bool) → is_within limit (high_of m N T (single (suc n) c)) ≡ x → is_within limit (low_of m N T (single n c)) ≡ y → cond x (cond y (refuse 27 n (codes "R")) (given (suc n))) (searched m N T limit c left (suc n)) ≡ given v → (searched m N T limit c left (suc n) ≡ given v → Smallest m N is_bad c limit v) → Smallest m N is_bad c limit v
      by true true hi lo e on = absurd (refused_given e)
      by true false hi lo e on =
          subst (Smallest m N is_bad c limit) (same_size e)
          ((shows m law).smallest N T reel is_bad bad c limit n (omega arith) (leb-true (high_of m N T (single (suc n) c) * 1000000) (limit * whole) hi) (above limit (low_of m N T (single n c)) lo))
      by false y hi lo e on = on e

  -- where there is none, the low end at the last size is above the limit
  none_above : (left n v : ℕ) → searched m N T limit c left n ≡ refuse 28 v (codes "R") → Within limit (low_of m N T (single (n + left) c)) → ⊥
  unfolding searched
  none_above zero n v e within = by (is_within limit (low_of m N T (single n c))) refl e
    where
      by : (b : Bool) → is_within limit (low_of m N T (single n c)) ≡ b → cond {A = Answer ℕ} b (refuse 27 n (codes "R")) (refuse 28 n (codes "R")) ≡ refuse 28 v (codes "R") → ⊥
      by true lo e = omega (arith, same_number e)
      by false lo e = above limit (low_of m N T (single n c)) lo (subst (λ k. Within limit (low_of m N T (single k c))) (add-zero n) within)
  none_above (suc left) n v e within =
      by (is_within limit (high_of m N T (single (suc n) c))) (is_within limit (low_of m N T (single n c))) e
      (λ f. none_above left (suc n) v f (subst (λ k. Within limit (low_of m N T (single k c))) size within))
    where
      size : n + suc left ≡ suc n + left
      size = omega arith

      by : (x y : Bool) → cond x (cond y (refuse 27 n (codes "R")) (given (suc n))) (searched m N T limit c left (suc n)) ≡ refuse 28 v (codes "R") → (searched m N T limit c left (suc n) ≡ refuse 28 v (codes "R") → ⊥) → ⊥
      by true true e on = omega (arith, same_number e)
      by true false e on = refused_given (sym e)
      by false y e on = on e

  pub truly : (answer : Answer ℕ) → answer ≡ searched m N T limit c (last_tried m N) 0 → Truly m N T limit c answer
  truly answer value =
      record {
        smallest = λ n e is_bad bad. given_truly (last_tried m N) 0 n (omega arith) (sym value ∙ e) is_bad bad;
        none = λ n e is_bad bad k le keeps.
            (shows m law).none N T reel is_bad bad c limit (last_tried m N) (omega arith)
            (λ within. none_above (last_tried m N) 0 n (sym value ∙ e) (subst (λ j. Within limit (low_of m N T (single j c))) (sym (zero-add (last_tried m N))) within)) k le keeps;
      }

pub smallests : (m : DrawMeaning) → Lawful m → (N T limit c : ℕ) (low high low₁ high₁ : List ℕ) (answer : Answer ℕ) → no_reel N ≡ false → no_tolerance N T ≡ false → no_limit limit ≡ false → c ≤ 255 → (ltb (length low) (c + 1) || ltb (length high) (c + 1)) ≡ false
    → Searches m N T limit (length (take (c + 1) low) - 1) low₁ high₁ answer → Smallests m N T limit c low high (low₁ ++ drop (c + 1) low) (high₁ ++ drop (c + 1) high) answer
smallests m law N T limit c low high low₁ high₁ answer reel tolerable share accept long search =
    let low_cells = ltb-false (length low) (c + 1) (or_parts (ltb (length low) (c + 1)) (ltb (length high) (c + 1)) long).0 in
    let s = subst (λ k. Searches m N T limit k low₁ high₁ answer) (omega (arith, length-take-le (c + 1) low)) search in
    record {
      value = s.value ∙ sym (past (refuse 21 0 (codes "R")) (refuse 22 T (codes "R")) (refuse 26 limit (codes "R")) (refuse 25 c (codes "R")) (refuse 23 (c + 1) (codes "R")) (searched m N T limit c (last_tried m N) 0));
      low_row = laid_over (c + 1) _ low low₁ s.low_row ∙ sym (past low low low low low (searched_row false m N T limit c low));
      high_row = laid_over (c + 1) _ high high₁ s.high_row ∙ sym (past high high high high high (searched_row true m N T limit c high));
      truly = truly m law N (reel_from_lem N reel) T limit c answer s.value;
    }
  where
    -- past the checks
    past : {A : Type 0} (p q r t w rest : A) → cond (no_reel N) p (cond (no_tolerance N T) q (cond (no_limit limit) r (cond (ltb 255 c) t (cond (ltb (length low) (c + 1) || ltb (length high) (c + 1)) w rest)))) ≡ rest
    past p q r t w rest = cond-false _ _ _ reel ∙ cond-false _ _ _ tolerable ∙ cond-false _ _ _ share ∙ cond-false _ _ _ (le-ltb 255 c accept) ∙ cond-false _ _ _ long
