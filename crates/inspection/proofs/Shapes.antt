-- A pull table with some entries pulled and the others of both samples empty, and what it counts. Assumes nothing.
use Rattle.std.proofs.Common.{◌≡◌, ℕ, zero, suc, ◌+◌, ◌-◌, ◌<◌, ◌≤◌, Bool, true, false, cond, List, [], ◌∷◌, ◌++◌, length, get_or, take, set, replicate, sym, refl, ap, ◌∙◌, zero-add, one-add, arith}
use Rattle.std.specs.List.{AllByRecursion}
use Rattle.std.proofs.lemmas.List.{append_assoc, length-append, length-replicate, take_at, get_or_append_left, get_or-append_right, get_or-replicate}
use Rattle.draws.specs.Counting.{count_in, count_below}
use Rattle.draws.specs.Entries.{state_of}
use Rattle.draws.specs.declared.entry.State.{State}
use Rattle.draws.specs.declared.entry.State.TheVariants.{Empty, Out, Good, Bad}
use Rattle.draws.specs.declared.entry.Entry.{Entry}
use Rattle.plans.specs.Standings.{is_bad_mark}
use Rattle.sampling.specs.Certified.{CertifiedNumbers}
use Rattle.inspection.specs.Tables.{size_of, blank, is_out, is_good, counted, tally}
use Rattle.inspection.specs.declared.report.Counts.{Counts}

abbrev pub is_pulled : State → Bool
is_pulled Empty = false
is_pulled Out = true
is_pulled Good = true
is_pulled Bad = true

abbrev pub Filled : List Entry → Type 0
Filled xs = AllByRecursion (λ e. is_pulled (state_of e) ≡ true) xs

abbrev pub outs : List Entry → ℕ
outs xs = count_in (λ e. is_out (state_of e)) xs

abbrev pub goods : List Entry → ℕ
goods xs = count_in (λ e. is_good (state_of e)) xs

abbrev pub bads : List Entry → ℕ
bads xs = count_in (λ e. is_bad_mark (state_of e)) xs

counted_is : (s : State) → is_pulled s ≡ true → (k g b : ℕ) → counted s (record { pulled = k; good = g; bad = b }) ≡ record { pulled = suc k; good = cond (is_good s) 1 0 + g; bad = cond (is_bad_mark s) 1 0 + b }
counted_is Empty e k g b = absurd (cc)
counted_is Out e k g b = (λ i. record { pulled = suc k; good = sym (zero-add g) i; bad = sym (zero-add b) i })
counted_is Good e k g b = (λ i. record { pulled = suc k; good = sym (one-add g) i; bad = sym (zero-add b) i })
counted_is Bad e k g b = (λ i. record { pulled = suc k; good = sym (zero-add g) i; bad = sym (one-add b) i })

-- the good and the bad are among the pulled, and these among all
pub tally_few : (es : List Entry) → ((tally es).pulled ≤ length es) × ((tally es).good + (tally es).bad ≤ (tally es).pulled)
tally_few [] = (omega arith, omega arith)
tally_few (e ∷ es) = by (state_of e) (tally es) (tally_few es)
  where
    by : (s : State) (t : Counts) → (t.pulled ≤ length es) × (t.good + t.bad ≤ t.pulled) → ((counted s t).pulled ≤ suc (length es)) × ((counted s t).good + (counted s t).bad ≤ (counted s t).pulled)
    by Empty t h = (omega arith, omega arith)
    by Out t h = (omega arith, omega arith)
    by Good t h = (omega arith, omega arith)
    by Bad t h = (omega arith, omega arith)

-- entries that are all pulled, and empty ones behind
pub tally_filled : (xs : List Entry) (b : ℕ) → Filled xs → tally (xs ++ replicate b blank) ≡ record { pulled = length xs; good = goods xs; bad = bads xs }
tally_filled [] zero h = refl
tally_filled [] (suc b) h = refl
tally_filled (e ∷ xs) b h = ap (counted (state_of e)) (tally_filled xs b h.1) ∙ counted_is (state_of e) h.0 (length xs) (goods xs) (bads xs)

one_each : (s : State) → is_pulled s ≡ true → 1 ≡ cond (is_good s) 1 0 + cond (is_bad_mark s) 1 0 + cond (is_out s) 1 0
one_each Empty e = absurd (cc)
one_each Out e = refl
one_each Good e = refl
one_each Bad e = refl

-- each pulled entry is good, bad or out
pub filled_adds : (xs : List Entry) → Filled xs → length xs ≡ goods xs + bads xs + outs xs
filled_adds [] h = refl
filled_adds (e ∷ xs) h = omega (arith, filled_adds xs h.1, one_each (state_of e) h.0)

-- a count over a list, place by place
pub count_below_first : (test : ℕ → Bool) (n : ℕ) → count_below test (suc n) ≡ cond (test 0) 1 0 + count_below (λ i. test (suc i)) n
count_below_first test zero = refl
count_below_first test (suc n) = omega (arith, count_below_first test n)

pub count_in_places : {A : Type 0} (p : A → Bool) (d : A) (xs : List A) → count_in p xs ≡ count_below (λ i. p (get_or xs i d)) (length xs)
count_in_places p d [] = refl
count_in_places p d (x ∷ xs) = omega (arith, count_in_places p d xs, count_below_first (λ i. p (get_or (x ∷ xs) i d)) (length xs))

-- a count after one entry is written
pub count_in_set : {A : Type 0} (p : A → Bool) (xs : List A) (i : ℕ) (y d : A) → i < length xs → count_in p (set xs i y) + cond (p (get_or xs i d)) 1 0 ≡ count_in p xs + cond (p y) 1 0
count_in_set p [] i y d h = absurd (omega arith)
count_in_set p (x ∷ xs) zero y d h = omega arith
count_in_set p (x ∷ xs) (suc i) y d h = omega (arith, count_in_set p xs i y d (omega arith))

-- the pulled entries xs, then b empty ones, which fill both samples, then the rest of the table
pub record Shape (c : CertifiedNumbers) (xs : List Entry) (b : ℕ) (rest table : List Entry) : Type 0 where
  pub is : table ≡ xs ++ (replicate b blank ++ rest)
  pub fills : length xs + b ≡ size_of c
  pub filled : Filled xs

module _ (c : CertifiedNumbers) (xs : List Entry) (b : ℕ) (rest table : List Entry) (shape : Shape c xs b rest table) where
  pub both_samples : take (size_of c) table ≡ xs ++ replicate b blank
  both_samples =
      ap (take (size_of c)) (shape.is ∙ sym (append_assoc xs (replicate b blank) rest))
      ∙ take_at (xs ++ replicate b blank) rest (size_of c) (length-append xs (replicate b blank) ∙ ap (λ n. length xs + n) (length-replicate b blank) ∙ shape.fills)

  pub long : size_of c ≤ length table
  long =
      let e : length table ≡ length xs + (b + length rest) =
      ap length shape.is ∙ length-append xs (replicate b blank ++ rest) ∙ ap (λ n. length xs + n) (length-append (replicate b blank) rest ∙ ap (λ n. n + length rest) (length-replicate b blank)) in
      omega (arith, shape.fills)

  pub tallied : tally (take (size_of c) table) ≡ record { pulled = length xs; good = goods xs; bad = bads xs }
  tallied = ap tally both_samples ∙ tally_filled xs b shape.filled

  pub taken : (n : ℕ) → n ≡ length xs → take n table ≡ xs
  taken n e = ap (take n) shape.is ∙ take_at xs (replicate b blank ++ rest) n (sym e)

  -- what stands at a place of both samples
  pub at_pulled : (i : ℕ) → i < length xs → get_or table i blank ≡ get_or xs i blank
  at_pulled i h = ap (λ t. get_or t i blank) shape.is ∙ get_or_append_left xs (replicate b blank ++ rest) blank i h

  pub at_empty : (i : ℕ) → length xs ≤ i → i < size_of c → get_or table i blank ≡ blank
  at_empty i from below =
      let short : i - length xs < b = omega (arith, shape.fills) in
      ap (λ t. get_or t i blank) shape.is
      ∙ get_or-append_right xs (replicate b blank ++ rest) (length xs) i blank refl from
      ∙ get_or_append_left (replicate b blank) rest blank (i - length xs) (omega (arith, length-replicate b blank))
      ∙ get_or-replicate b (i - length xs) blank blank short
