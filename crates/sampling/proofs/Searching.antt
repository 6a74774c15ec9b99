-- The search for the smallest sample, size after size, with both rows carried on. Assumes nothing.
use Rattle.std.proofs.Common.{◌≡◌, ℕ, suc, ◌+◌, ◌-◌, ◌*◌, ◌^◌, ◌<◌, ◌≤◌, min, Bool, true, false, cond, List, sum, codes, sym, ap, ◌∙◌, subst, zero-add, add-one, arith}
use native.Mathlib.Nat.{min_comm}
use Rattle.std.proofs.lemmas.Bool.{lt-leb, cond-true, cond-false}
use Rattle.film.specs.Refusals.{Answer, given, refuse}
use Rattle.draws.specs.Draws.{DrawMeaning, Reel, Lawful}
use Rattle.plans.specs.Plans.{single}
use Rattle.plans.specs.Working.{whole, draws_on, sum_below, start_row, worked, worked_from0, low_of, high_of}
use Rattle.plans.proofs.Limited.{shows}
use Rattle.sampling.specs.Rows.{row_of, Roomy, Moved}
use Rattle.sampling.specs.Certifies.{is_within}
use Rattle.sampling.specs.Searches.{last_tried, searched, stops_at, Searches}
use Rattle.sampling.proofs.Phases.{drawn_more, sum_all, roomy_on, draws_small, start_small, sum_fits}

-- a row's cells add up to the end at its size
pub end_at : (up : Bool) (m : DrawMeaning) (N T n c : ℕ) (row : List ℕ) → row ≡ row_of (c + 1) (draws_on up m N T 0 n start_row) → sum row ≡ (worked_from0 up m N T (single n c)).units
unfolding worked
end_at up m N T n c row e = sum_all (c + 1) (draws_on up m N T 0 n start_row) row e ∙ ap (sum_below (draws_on up m N T 0 n start_row)) (add-one c)

pub high_end_at : (m : DrawMeaning) (N T n c units : ℕ) (row : List ℕ) → row ≡ row_of (c + 1) (draws_on true m N T 0 n start_row) → units ≡ sum row → min units whole ≡ high_of m N T (single n c)
high_end_at m N T n c units row e sums = min_comm units whole ∙ ap (min whole) (sums ∙ end_at true m N T n c row e)

module _ (m : DrawMeaning) (law : Lawful m) (N : ℕ) (reel : Reel N) (T : ℕ) where
  size_small : (up : Bool) (n cells : ℕ) → 0 < cells → n ≤ m.longest N → sum_below (draws_on up m N T 0 n start_row) cells ≤ whole + n * cells
  size_small up n cells some le =
      subst (λ k. sum_below (draws_on up m N T 0 n start_row) cells ≤ whole + k * cells) (zero-add n) (draws_small m law N reel T up 0 n cells start_row (omega arith) (start_small cells some))

  pub size_fits : (up : Bool) (n c : ℕ) (row : List ℕ) → n ≤ m.longest N → n ≤ 32768 → c ≤ 255 → row ≡ row_of (c + 1) (draws_on up m N T 0 n start_row) → sum row ≤ 2 ^ 41
  size_fits up n c row le few cells e =
      let small = sum_fits n (c + 1) (sum_below (draws_on up m N T 0 n start_row) (c + 1)) few (omega arith) (size_small up n (c + 1) (omega arith) le) in
      omega (arith, sum_all (c + 1) (draws_on up m N T 0 n start_row) row e)

  pub size_roomy : (up : Bool) (n c : ℕ) (row : List ℕ) → n ≤ m.longest N → c ≤ 255 → row ≡ row_of (c + 1) (draws_on up m N T 0 n start_row) → Roomy n row
  size_roomy up n c row le few e = roomy_on (c + 1) n (draws_on up m N T 0 n start_row) row e (omega arith) (omega arith) (size_small up n (c + 1) (omega arith) le)

-- with nothing drawn the low end is above every limit
pub nothing_above : (m : DrawMeaning) → Lawful m → (N T limit c : ℕ) → limit ≤ 999999 → false ≡ is_within limit (low_of m N T (single 0 c))
nothing_above m law N T limit c share = sym (ap (is_within limit) ((shows m law).nothing_low N T c) ∙ lt-leb (whole * 1000000) (limit * whole) (omega arith))

module _ (m : DrawMeaning) (N T limit c last n : ℕ) (lt : n < last) where
  left : last - n ≡ suc (last - (n + 1))
  left = omega arith

  pub searched_more : searched m N T limit c (last - n) n ≡ cond (is_within limit (high_of m N T (single (n + 1) c))) (cond (is_within limit (low_of m N T (single n c))) (refuse 27 n (codes "R")) (given (n + 1))) (searched m N T limit c (last - (n + 1)) (n + 1))
  unfolding searched
  searched_more = ap (λ l. searched m N T limit c l n) left ∙ ap (λ k. cond (is_within limit (high_of m N T (single k c))) (cond (is_within limit (low_of m N T (single n c))) (refuse 27 n (codes "R")) (given k)) (searched m N T limit c (last - (n + 1)) k)) (sym (add-one n))

  pub stops_more : stops_at m N T limit c (last - n) n ≡ cond (is_within limit (high_of m N T (single (n + 1) c))) (n + 1) (stops_at m N T limit c (last - (n + 1)) (n + 1))
  unfolding stops_at
  stops_more = ap (λ l. stops_at m N T limit c l n) left ∙ ap (λ k. cond (is_within limit (high_of m N T (single k c))) k (stops_at m N T limit c (last - (n + 1)) k)) (sym (add-one n))

searched_none : (m : DrawMeaning) (N T limit c last n : ℕ) → last ≤ n → searched m N T limit c (last - n) n ≡ cond (is_within limit (low_of m N T (single n c))) (refuse 27 n (codes "R")) (refuse 28 n (codes "R"))
unfolding searched
searched_none m N T limit c last n le = let none : last - n ≡ 0 = omega arith in ap (λ l. searched m N T limit c l n) none

stops_none : (m : DrawMeaning) (N T limit c last n : ℕ) → last ≤ n → stops_at m N T limit c (last - n) n ≡ n
unfolding stops_at
stops_none m N T limit c last n le = let none : last - n ≡ 0 = omega arith in ap (λ l. stops_at m N T limit c l n) none

-- the sizes up to n are tried: the rows stand there, and what is left to try answers for all
pub record Tried (m : DrawMeaning) (N T limit c last n : ℕ) (low high : List ℕ) (maybe : Bool) : Type 0 where
  pub low_row : low ≡ row_of (c + 1) (draws_on false m N T 0 n start_row)
  pub high_row : high ≡ row_of (c + 1) (draws_on true m N T 0 n start_row)
  pub maybe_is : maybe ≡ is_within limit (low_of m N T (single n c))
  pub value : searched m N T limit c (last - n) n ≡ searched m N T limit c last 0
  pub stop : stops_at m N T limit c (last - n) n ≡ stops_at m N T limit c last 0

pub tried_none : (m : DrawMeaning) → Lawful m → (N T limit c last low_cells high_cells : ℕ) (low high : List ℕ) → limit ≤ 999999 → low_cells ≡ c + 1 → high_cells ≡ c + 1 → low ≡ row_of low_cells start_row → high ≡ row_of high_cells start_row → Tried m N T limit c last 0 low high false
unfolding draws_on
tried_none m law N T limit c last low_cells high_cells low high share e f el eh =
    let all : last - 0 ≡ last = omega arith in
    record {
      low_row = el ∙ ap (λ n. row_of n start_row) e;
      high_row = eh ∙ ap (λ n. row_of n start_row) f;
      maybe_is = nothing_above m law N T limit c share;
      value = ap (λ l. searched m N T limit c l 0) all;
      stop = ap (λ l. stops_at m N T limit c l 0) all;
    }

-- what the search ends with, from the rows at the size where it stops
ended : (m : DrawMeaning) (N T limit c stop : ℕ) (low high : List ℕ) (answer : Answer ℕ) → low ≡ row_of (c + 1) (draws_on false m N T 0 stop start_row) → high ≡ row_of (c + 1) (draws_on true m N T 0 stop start_row)
    → stop ≡ stops_at m N T limit c (last_tried m N) 0 → answer ≡ searched m N T limit c (last_tried m N) 0 → Searches m N T limit c low high answer
ended m N T limit c stop low high answer l h at value =
    record {
      value = value;
      low_row = l ∙ ap (λ k. row_of (c + 1) (draws_on false m N T 0 k start_row)) at;
      high_row = h ∙ ap (λ k. row_of (c + 1) (draws_on true m N T 0 k start_row)) at;
    }

module _ (m : DrawMeaning) (N T limit c last n : ℕ) (low high low' high' : List ℕ) (maybe : Bool) (tried : Tried m N T limit c last n low high maybe) (moved : Moved m N T n 1 low high low' high') where
  -- the rows at one size more
  pub low_next : low' ≡ row_of (c + 1) (draws_on false m N T 0 (n + 1) start_row)
  low_next = drawn_more false m N T 0 n n (n + 1) (c + 1) start_row low low' (sym (zero-add n)) (add-one n) tried.low_row moved.low_row

  pub high_next : high' ≡ row_of (c + 1) (draws_on true m N T 0 (n + 1) start_row)
  high_next = drawn_more true m N T 0 n n (n + 1) (c + 1) start_row high high' (sym (zero-add n)) (add-one n) tried.high_row moved.high_row

  module _ (lt : n < last) where
    -- past a size that is not within the limit
    pub tried_more : (hi lo : ℕ) (above next : Bool) → hi ≡ sum high' → lo ≡ sum low' → above ≡ is_within limit (min hi whole) → above ≡ false → next ≡ is_within limit lo → Tried m N T limit c last (n + 1) low' high' next
    tried_more hi lo above next sums sums' is fails e =
        let fails_there : is_within limit (high_of m N T (single (n + 1) c)) ≡ false = ap (is_within limit) (sym (high_end_at m N T (n + 1) c hi high' high_next sums)) ∙ sym is ∙ fails in
        record {
          low_row = low_next;
          high_row = high_next;
          maybe_is = e ∙ ap (is_within limit) (sums' ∙ end_at false m N T (n + 1) c low' low_next);
          value = sym (searched_more m N T limit c last n lt ∙ cond-false _ _ _ fails_there) ∙ tried.value;
          stop = sym (stops_more m N T limit c last n lt ∙ cond-false _ _ _ fails_there) ∙ tried.stop;
        }

    -- at the first size within the limit
    pub found : (hi : ℕ) (within : Bool) (answer : Answer ℕ) → last ≡ last_tried m N → hi ≡ sum high' → within ≡ is_within limit (min hi whole) → within ≡ true → answer ≡ cond maybe (refuse 27 n (codes "R")) (given (n + 1)) → Searches m N T limit c low' high' answer
    found hi within answer all sums is holds e =
        let holds_there : is_within limit (high_of m N T (single (n + 1) c)) ≡ true = ap (is_within limit) (sym (high_end_at m N T (n + 1) c hi high' high_next sums)) ∙ sym is ∙ holds in
        ended m N T limit c (n + 1) low' high' answer low_next high_next
        (sym (stops_more m N T limit c last n lt ∙ cond-true _ _ _ holds_there) ∙ tried.stop ∙ ap (λ k. stops_at m N T limit c k 0) all)
        (e ∙ ap (λ b. cond b (refuse 27 n (codes "R")) (given (n + 1))) tried.maybe_is ∙ sym (searched_more m N T limit c last n lt ∙ cond-true _ _ _ holds_there) ∙ tried.value ∙ ap (λ k. searched m N T limit c k 0) all)

-- with no size left
pub over : (m : DrawMeaning) (N T limit c last n : ℕ) (low high : List ℕ) (maybe : Bool) (answer : Answer ℕ) → last ≡ last_tried m N → Tried m N T limit c last n low high maybe → last ≤ n → answer ≡ cond maybe (refuse 27 n (codes "R")) (refuse 28 n (codes "R")) → Searches m N T limit c low high answer
over m N T limit c last n low high maybe answer all tried le e =
    ended m N T limit c n low high answer tried.low_row tried.high_row
    (sym (stops_none m N T limit c last n le) ∙ tried.stop ∙ ap (λ k. stops_at m N T limit c k 0) all)
    (e ∙ ap (λ b. cond b (refuse 27 n (codes "R")) (refuse 28 n (codes "R"))) tried.maybe_is ∙ sym (searched_none m N T limit c last n le) ∙ tried.value ∙ ap (λ k. searched m N T limit c k 0) all)
