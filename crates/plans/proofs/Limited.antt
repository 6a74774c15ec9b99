-- What the ends of an enclosure tell of a limit, and that more frames keep a limit that fewer keep. Assumes nothing.
use Rattle.std.proofs.Common.{◌≡◌, ℕ, zero, suc, ◌*◌, ◌<◌, ◌≤◌, min, Bool, true, false, leb, List, [], ◌∷◌, ◌++◌, length, ap, subst, mul-le-mul_right, le_of_mul-le-mul_right, arith}
use Rattle.std.proofs.lemmas.List.{take_all}
use Rattle.std.proofs.lemmas.Bool.Decides.{nat_tests}
use Rattle.draws.specs.Counting.{count_below, count_in}
use Rattle.draws.specs.Draws.{DrawMeaning, Reel, Lawful, lists, bad_in}
use Rattle.draws.specs.Tallies.{count_in_push}
use Rattle.draws.proofs.Recurrence.{all_more, all_positive, push_fewer}
use Rattle.plans.specs.Plans.{single, total}
use Rattle.plans.specs.Exact.{passes, all, passing}
use Rattle.plans.specs.Working.{whole, draws_on, worked, start_row, low_of, high_of}
use Rattle.plans.specs.Limits.{Within, Keeps, Tells, Smallest, Shows}
use Rattle.plans.proofs.Counts.{count_same}
use Rattle.plans.proofs.Rulings.{ruling_true}
use Rattle.plans.proofs.Cells.{lists_length}
use Rattle.plans.proofs.Bounds.{start_sum}
use Rattle.plans.proofs.Enclosed.{enclosure}

-- a share that an answer bounds from above, the answer within a limit
share_kept : (count all hi limit : ℕ) → count * whole ≤ hi * all → Within limit hi → count * 1000000 ≤ limit * all
share_kept count all hi limit high within =
    let both : count * 1000000 * whole ≤ limit * all * whole = omega (arith, mul-le-mul_right all within, mul-le-mul_right 1000000 high) in
    le_of_mul-le-mul_right {k = whole} both (omega arith)

-- a share that an answer bounds from below, kept within a limit
share_within : (count all lo limit : ℕ) → 0 < all → lo * all ≤ count * whole → count * 1000000 ≤ limit * all → Within limit lo
share_within count all lo limit some low keeps =
    let both : lo * 1000000 * all ≤ limit * whole * all = omega arith in
    le_of_mul-le-mul_right both some

pub tells : (m : DrawMeaning) → Lawful m → Tells m
unfolding all
tells m law =
    record {
      kept = λ N D reel is_bad e samples fit le limit within. share_kept (passing m N is_bad samples) (all m N samples) (high_of m N D samples) limit ((enclosure m law).encloses N D reel is_bad e samples fit le).high within;
      broken = λ N D reel is_bad e samples fit le limit above keeps. above (share_within (passing m N is_bad samples) (all m N samples) (low_of m N D samples) limit (all_positive m N law reel (total samples) le) ((enclosure m law).encloses N D reel is_bad e samples fit le).low keeps);
    }

-- a single sample passes a list with at most c bad frames
pub passing_single : (m : DrawMeaning) (N : ℕ) (is_bad : ℕ → Bool) (n c : ℕ) → passing m N is_bad (single n c) ≡ count_in (λ l. leb (bad_in is_bad l) c) (lists m N n)
unfolding passing
passing_single m N is_bad n c = count_same (λ l. length l ≡ n) (passes (single n c) is_bad) (λ l. leb (bad_in is_bad l) c)
    (λ l e. grind (arith, nat_tests, ruling_true is_bad (record { size = n; accept = c; reject = suc c }) [] 0 0 l, take_all n l)) (lists m N n) (lists_length m N n)

module _ (m : DrawMeaning) (law : Lawful m) (N : ℕ) (reel : Reel N) (is_bad : ℕ → Bool) (c : ℕ) where
  few_before : (l : List ℕ) (f : ℕ) → leb (bad_in is_bad (l ++ f ∷ [])) c ≡ true → leb (bad_in is_bad l) c ≡ true
  few_before l f e = grind (arith, nat_tests, count_in_push is_bad l f)

  -- of the lists of one more frame no larger share passes
  passing_fewer : (n : ℕ) → n < m.longest N → passing m N is_bad (single (suc n) c) ≤ passing m N is_bad (single n c) * m.good N 0 n 0
  passing_fewer n lt =
      let fewer = push_fewer m N law reel (λ l. leb (bad_in is_bad l) c) few_before n lt in
      omega (arith, passing_single m N is_bad (suc n) c, ap (λ p. p * m.good N 0 n 0) (passing_single m N is_bad n c))

  keeps_more : (limit n : ℕ) → n < m.longest N → Keeps m N is_bad (single n c) limit → Keeps m N is_bad (single (suc n) c) limit
  unfolding all
  keeps_more limit n lt keeps =
      omega (arith, mul-le-mul_right 1000000 (passing_fewer n lt), mul-le-mul_right (m.good N 0 n 0) keeps, ap (λ a. limit * a) (all_more m N law reel n lt))

  pub keeps_on : (limit k n : ℕ) → k ≤ n → n ≤ m.longest N → Keeps m N is_bad (single k c) limit → Keeps m N is_bad (single n c) limit
  keeps_on limit k zero le long keeps = subst (λ k. Keeps m N is_bad (single k c) limit) (omega arith) keeps
  keeps_on limit k (suc n) le long keeps = grind (arith, keeps_more limit n, keeps_on limit k n, same)
    where
      same : k ≡ suc n → Keeps m N is_bad (single (suc n) c) limit
      same e = subst (λ k. Keeps m N is_bad (single k c) limit) e keeps

-- with no frame drawn the answer is a certainty
nothing : (up : Bool) (m : DrawMeaning) (N D c : ℕ) → (worked up m N D (single 0 c) 0 start_row).units ≡ whole
unfolding worked draws_on
nothing up m N D c = start_sum c

pub shows : (m : DrawMeaning) → Lawful m → Shows m
shows m law = record { smallest = truly; none = none_upto; nothing_low = nothing false m; nothing_high = λ N D c. ap (min whole) (nothing true m N D c) }
  where
    none_upto : (N D : ℕ) → Reel N → (is_bad : ℕ → Bool) → count_below is_bad N ≡ D → (c limit n : ℕ) → n ≤ m.longest N → (Within limit (low_of m N D (single n c)) → ⊥) → (k : ℕ) → k ≤ n → Keeps m N is_bad (single k c) limit → ⊥
    none_upto N D reel is_bad e c limit n long above k le keeps =
        (tells m law).broken N D reel is_bad e (single n c) (omega arith, tt) long limit above (keeps_on m law N reel is_bad c limit k n le long keeps)

    truly : (N D : ℕ) → Reel N → (is_bad : ℕ → Bool) → count_below is_bad N ≡ D → (c limit n : ℕ) → n < m.longest N → Within limit (high_of m N D (single (suc n) c)) → (Within limit (low_of m N D (single n c)) → ⊥) → Smallest m N is_bad c limit (suc n)
    truly N D reel is_bad e c limit n long within above =
        record {
          keeps = (tells m law).kept N D reel is_bad e (single (suc n) c) (omega arith, tt) long limit within;
          fewer = λ k lt keeps. none_upto N D reel is_bad e c limit n (omega arith) above k (omega arith) keeps;
        }
