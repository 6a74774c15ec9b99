-- The table's standing from each sample's bad frames. Assumes nothing.
use Rattle.std.proofs.Common.{◌≡◌, ℕ, zero, suc, ◌+◌, ◌≤◌, Bool, true, false, cond, ◌&&◌, leb, List, [], ◌∷◌, ◌++◌, map, length, take, drop, Some, None, Option, sym, refl, ap, ◌∙◌, zero-add, one-add, arith, take-add}
use Rattle.std.proofs.lemmas.List.{append-nil, nil_from_length, length-map, length-take-le, length-drop, map-append, take_at, drop_at}
use Rattle.std.proofs.lemmas.Bool.{lt-leb, leb-false}
use Rattle.draws.specs.Counting.{count_in}
use Rattle.draws.specs.Entries.{state_of}
use Rattle.draws.specs.declared.entry.State.{State}
use Rattle.draws.specs.declared.entry.State.TheVariants.{Empty, Out, Good, Bad}
use Rattle.draws.specs.declared.entry.Entry.{Entry}
use Rattle.plans.specs.Plans.{PlanNumbers, Sample, samples_by, AgreesBy}
use Rattle.plans.specs.Standings.{is_marked, is_bad_mark, marked_up_to, waiting, ruling, standing}
use Rattle.inspection.specs.Settling.{add_mark, bad_if_marked, ruled_by}
use Rattle.inspection.specs.Tables.{table_standing}
use Rattle.inspection.proofs.Stages.{marked_front}

-- a sample's bad entries, once all are marked
abbrev bads : List State → Option ℕ
bads marks = cond (marked_up_to (length marks) marks) (Some (count_in is_bad_mark marks)) None

add_bads : (s : State) (b : Bool) (n : ℕ) → add_mark s (cond b (Some n) None) ≡ cond (is_marked s && b) (Some (cond (is_bad_mark s) 1 0 + n)) None
add_bads Empty b n = refl
add_bads Out b n = refl
add_bads Good b n = ap (λ k. cond b (Some k) None) (sym (zero-add n))
add_bads Bad true n = ap Some (sym (one-add n))
add_bads Bad false n = refl

bad_marked : (es : List Entry) → bad_if_marked es ≡ bads (map state_of es)
bad_marked [] = refl
bad_marked (e ∷ es) = ap (add_mark (state_of e)) (bad_marked es) ∙ add_bads (state_of e) (marked_up_to (length (map state_of es)) (map state_of es)) (count_in is_bad_mark (map state_of es))

-- one sample's marks, and those behind
ruling_split : (s : Sample) (rest : List Sample) (stage before : ℕ) (marks behind : List State) → length marks ≡ s.size
    → ruling (s ∷ rest) stage before (marks ++ behind)
    ≡ cond (marked_up_to (length marks) marks)
    (cond (leb (before + count_in is_bad_mark marks) s.accept) 1
    (cond (leb s.reject (before + count_in is_bad_mark marks)) 2
    (ruling rest (suc stage) (before + count_in is_bad_mark marks) behind)))
    (waiting stage)
ruling_split s rest stage before marks behind e =
    (λ i. next
    ((marked_front s.size marks behind (omega arith) ∙ ap (λ n. marked_up_to n marks) (sym e)) i)
    (take_at marks behind s.size e i) (drop_at marks behind s.size e i))
  where
    next : Bool → List State → List State → ℕ
    next b front back =
        cond b
        (cond (leb (before + count_in is_bad_mark front) s.accept) 1
        (cond (leb s.reject (before + count_in is_bad_mark front)) 2
        (ruling rest (suc stage) (before + count_in is_bad_mark front) back)))
        (waiting stage)

either_rejects : (x y : Bool) → cond {A = ℕ} x 1 (cond y 2 2) ≡ cond x 1 2
either_rejects true y = refl
either_rejects false true = refl
either_rejects false false = refl

by_one : (x : Bool) (k ac1 re1 : ℕ) → cond x (cond (leb (0 + k) ac1) 1 (cond (leb re1 (0 + k)) 2 2)) 0 ≡ ruled_by ac1 re1 ac1 (cond x (Some k) None) (Some 0)
by_one false k ac1 re1 = refl
by_one true k ac1 re1 = ap (λ n. cond (leb n ac1) 1 (cond (leb re1 n) 2 2)) (zero-add k) ∙ last (leb k ac1) (leb re1 k) refl
  where
    last : (x y : Bool) → leb k ac1 ≡ x → cond {A = ℕ} x 1 (cond y 2 2) ≡ cond x 1 (cond y 2 (cond (leb (k + 0) ac1) 1 2))
    last true y e = refl
    last false true e = refl
    last false false e = ap (λ b. cond b 1 2) (sym (lt-leb (k + 0) ac1 (omega (arith, leb-false k ac1 e))))

by_two : (x y : Bool) (k n ac1 re1 ac2 : ℕ)
    → cond x (cond (leb (0 + k) ac1) 1 (cond (leb re1 (0 + k)) 2 (cond y (cond (leb (0 + k + n) ac2) 1 (cond (leb (suc ac2) (0 + k + n)) 2 2)) 3))) 0
    ≡ ruled_by ac1 re1 ac2 (cond x (Some k) None) (cond y (Some n) None)
by_two false y k n ac1 re1 ac2 = refl
by_two true false k n ac1 re1 ac2 = ap (λ n. cond (leb n ac1) 1 (cond (leb re1 n) 2 3)) (zero-add k)
by_two true true k n ac1 re1 ac2 =
    ap (λ r. cond (leb (0 + k) ac1) 1 (cond (leb re1 (0 + k)) 2 r)) (either_rejects (leb (0 + k + n) ac2) (leb (suc ac2) (0 + k + n)))
    ∙ ap (λ b. cond (leb b ac1) 1 (cond (leb re1 b) 2 (cond (leb (b + n) ac2) 1 2))) (zero-add k)

by_samples : (n1 ac1 re1 n2 ac2 : ℕ) → AgreesBy ac1 re1 n2 ac2 → (first second : List State) → length first ≡ n1 → length second ≡ n2
    → standing (samples_by n1 ac1 re1 n2 ac2) (first ++ second) ≡ ruled_by ac1 re1 ac2 (bads first) (bads second)
by_samples n1 ac1 re1 zero ac2 agrees first second e f =
    ruling_split (record { size = n1; accept = ac1; reject = re1 }) [] 0 0 first second e
    ∙ by_one (marked_up_to (length first) first) (count_in is_bad_mark first) ac1 re1
    ∙ (λ i. ruled_by ac1 re1 (sym (agrees.1 refl) i) (bads first) (bads (sym (nil_from_length second f) i)))
by_samples n1 ac1 re1 (suc more) ac2 agrees first second e f =
    let two : Sample = record { size = suc more; accept = ac2; reject = suc ac2 } in
    let x = marked_up_to (length first) first in
    let k = count_in is_bad_mark first in
    ruling_split (record { size = n1; accept = ac1; reject = re1 }) (two ∷ []) 0 0 first second e
    ∙ ap (λ r. cond x (cond (leb (0 + k) ac1) 1 (cond (leb re1 (0 + k)) 2 r)) 0)
    (ap (ruling (two ∷ []) 1 (0 + k)) (sym (append-nil second)) ∙ ruling_split two [] 1 (0 + k) second [] f)
    ∙ by_two x (marked_up_to (length second) second) k (count_in is_bad_mark second) ac1 re1 ac2

-- the standing that the table gives, by the bad entries of each sample that is all marked
pub settling : (p : PlanNumbers) (table : List Entry) → AgreesBy p.ac1 p.re1 p.n2 p.ac2 → p.n1 + p.n2 ≤ length table
    → table_standing p table ≡ ruled_by p.ac1 p.re1 p.ac2 (bad_if_marked (take p.n1 table)) (bad_if_marked (take p.n2 (drop p.n1 table)))
unfolding table_standing
settling p table agrees long =
    let first = take p.n1 table in
    let second = take p.n2 (drop p.n1 table) in
    ap (λ l. standing (samples_by p.n1 p.ac1 p.re1 p.n2 p.ac2) l) (ap (map state_of) (take-add p.n1 p.n2 table) ∙ map-append state_of first second)
    ∙ by_samples p.n1 p.ac1 p.re1 p.n2 p.ac2 agrees (map state_of first) (map state_of second)
    (length-map first state_of ∙ length-take-le p.n1 table (omega arith))
    (length-map second state_of ∙ length-take-le p.n2 (drop p.n1 table) (omega (arith, length-drop p.n1 table)))
    ∙ (λ i. ruled_by p.ac1 p.re1 p.ac2 (sym (bad_marked first) i) (sym (bad_marked second) i))
