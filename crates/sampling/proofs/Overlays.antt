-- Rows in memory, and what makes a row of cells. Assumes nothing.
use Rattle.std.proofs.Common.{◌≡◌, ℕ, zero, suc, ◌+◌, ◌-◌, ◌<◌, ◌≤◌, List, ◌++◌, length, drop, set, replicate, sym, ap, ◌∙◌, arith, length-set, rules, ⊎_elim, cond, leb}
use borrow.Rule.Slice.PartMut.{put_mid}
use Rattle.std.proofs.lemmas.List.{places, length-replicate, get_or-replicate, get_or-set_same, get_or-set_other}
use Rattle.std.proofs.lemmas.Bool.{cases_lt, le-leb, lt-leb}
use Rattle.std.proofs.lemmas.List.FromFn.{length-map-range_with_len, get_or-map-range_with_len, fill_by_all}
use Rattle.plans.specs.Working.{whole, start_row, cleared}
use Rattle.sampling.specs.Rows.{cells_of, row_of, overlaid}

pub length_row : (n : ℕ) (f : ℕ → ℕ) → length (row_of n f) ≡ n
unfolding row_of
length_row n f = length-map-range_with_len f 0 n

pub row_at : (n : ℕ) (f : ℕ → ℕ) (c : ℕ) → c < n → cells_of (row_of n f) c ≡ f c
unfolding row_of
row_at n f c lt = get_or-map-range_with_len f 0 n c c 0 lt (omega arith)

-- a row is such a one if its cells are
pub row_from : (n : ℕ) (f : ℕ → ℕ) (row : List ℕ) → length row ≡ n → ((c : ℕ) → c < n → cells_of row c ≡ f c) → row ≡ row_of n f
unfolding row_of
row_from n f row long cells = fill_by_all f row n 0 long cells

pub row_same : (n : ℕ) (f g : ℕ → ℕ) → ((c : ℕ) → c < n → f c ≡ g c) → row_of n f ≡ row_of n g
row_same n f g same = row_from n g (row_of n f) (length_row n f) (λ c lt. row_at n f c lt ∙ same c lt)

-- the first cells of a longer row in memory, worked in
pub laid_over : (n : ℕ) (f : ℕ → ℕ) (old row : List ℕ) → row ≡ row_of n f → row ++ drop n old ≡ overlaid n f old
unfolding row_of overlaid
laid_over n f old row e = ap (λ r. r ++ drop n old) e

-- a row filled with nothing, and a certainty in its first cell
pub begun : (n : ℕ) (row : List ℕ) → 0 < n → row ≡ replicate n 0 → set row 0 whole ≡ row_of n start_row
begun n row some e = row_from n start_row (set row 0 whole) (length-set row 0 whole ∙ long) cell
  where
    long : length row ≡ n
    long = ap length e ∙ length-replicate n 0

    cell : (c : ℕ) → c < n → cells_of (set row 0 whole) c ≡ start_row c
    cell zero lt = get_or-set_same row 0 whole 0 (omega (arith, long))
    cell (suc c) lt = get_or-set_other row 0 (suc c) whole 0 (λ h. omega arith) ∙ ap (λ r. cells_of r (suc c)) e ∙ get_or-replicate n (suc c) 0 0 lt

-- a cell that accepts or rejects is cleared, any other stays
pub cleared_accept : (accept reject : ℕ) (row : ℕ → ℕ) (d : ℕ) → d ≤ accept → 0 ≡ cleared accept reject row d
cleared_accept accept reject row d le = sym (ap (λ b. cond b 0 (cond (leb reject d) 0 (row d))) (le-leb d accept le))

pub cleared_reject : (accept reject : ℕ) (row : ℕ → ℕ) (d : ℕ) → accept < d → reject ≤ d → 0 ≡ cleared accept reject row d
cleared_reject accept reject row d gt le = sym (λ i. cond (lt-leb d accept gt i) 0 (cond (le-leb reject d le i) 0 (row d)))

pub cleared_kept : (accept reject : ℕ) (row : ℕ → ℕ) (d : ℕ) → accept < d → d < reject → row d ≡ cleared accept reject row d
cleared_kept accept reject row d gt lt = sym (λ i. cond (lt-leb d accept gt i) 0 (cond (lt-leb reject d lt i) 0 (row d)))

-- the first cells up to an accept number and those from a reject number on, filled with nothing; the code cuts the row at k and m
pub cleared_both : (accept reject i j k m : ℕ) (old front back : List ℕ) → accept < reject → reject ≤ length old → k ≡ accept + 1 → m ≡ reject → front ≡ replicate i 0 → i ≡ k → back ≡ replicate j 0 → j ≡ length old - m
    → put_mid m (length (front ++ drop k old) - m) (front ++ drop k old) back ≡ row_of (length old) (cleared accept reject (cells_of old))
cleared_both accept reject i j k m old front back apart few ek em e ei f ej =
    row_from (length old) (cleared accept reject (cells_of old)) _ (search (rules, places))
    (λ c lt. ⊎_elim (λ gt. ⊎_elim (λ below. kept c gt below) (λ above. rejects c lt above) (cases_lt c reject)) (accepts c) (cases_lt accept c))
  where
    now : List ℕ
    now = put_mid m (length (front ++ drop k old) - m) (front ++ drop k old) back

    accepts : (c : ℕ) → c ≤ accept → cells_of now c ≡ cleared accept reject (cells_of old) c
    accepts c le = let zero_is : cells_of now c ≡ 0 = grind (arith, places) in zero_is ∙ cleared_accept accept reject (cells_of old) c le

    rejects : (c : ℕ) → c < length old → reject ≤ c → cells_of now c ≡ cleared accept reject (cells_of old) c
    rejects c lt ge = let zero_is : cells_of now c ≡ 0 = grind (arith, places) in zero_is ∙ cleared_reject accept reject (cells_of old) c (omega arith) ge

    kept : (c : ℕ) → accept < c → c < reject → cells_of now c ≡ cleared accept reject (cells_of old) c
    kept c gt lt = let old_is : cells_of now c ≡ cells_of old c = grind (arith, places) in old_is ∙ cleared_kept accept reject (cells_of old) c gt lt
