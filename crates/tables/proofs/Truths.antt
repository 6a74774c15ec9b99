-- That the verdict on a row is true of it, from what the calls promise. Assumes nothing.
use Rattle.std.proofs.Common.{◌≡◌, ℕ, suc, ◌+◌, ◌<◌, ◌≤◌, Bool, true, false, cond, ◌||◌, eqb, ltb, leb, ◌⊎◌, List, length, sym, refl, ap, ◌∙◌, subst, inl, inr, le_trans, le_refl, mul-le-mul_right, add-one, arith}
use Rattle.std.proofs.lemmas.Bool.{eqb-true, leb-true, le-leb, and_parts, cases_order}
use Rattle.std.proofs.lemmas.Bool.Decides.{nat_tests}
use Rattle.film.specs.Refusals.{Refusal, given, refused}
use Rattle.draws.specs.Counting.{count_below}
use Rattle.draws.specs.Draws.{DrawMeaning, Lawful, lists, bad_in}
use Rattle.draws.specs.Rules.{with_replacement, without_replacement}
use Rattle.draws.proofs.Recurrence.{all_positive}
use Rattle.plans.specs.Plans.{PlanNumbers, samples_of, single, total}
use Rattle.plans.specs.Makes.{made, agreeing}
use Rattle.plans.specs.Exact.{all, passing}
use Rattle.plans.specs.Working.{low_of, high_of}
use Rattle.plans.specs.Enclosure.{Encloses}
use Rattle.plans.specs.Limits.{Keeps, Smallest}
use Rattle.plans.proofs.Agreed.{total_plan}
use Rattle.plans.proofs.Fewer.{count_less}
use Rattle.plans.proofs.Limited.{passing_single}
use Rattle.sampling.specs.Chances.{Chances}
use Rattle.sampling.specs.Searches.{Truly}
use Rattle.sampling.specs.declared.chance.Ends.{Ends}
use Rattle.sampling.proofs.Promises.{no_refusal, passed, Accepted, accepted}
use Rattle.tables.specs.Verdicts.{judged, Judges, Rests, Chosen, same_number, joined}
use Rattle.tables.specs.Rows.{EnclosedSingle, SampleSays, SampleWorked, Greatest, AcceptSays, AcceptWorked}
use Rattle.tables.specs.declared.judging.Verdict.{Verdict}
use Rattle.tables.specs.declared.judging.Verdict.TheVariants.{Agree, Differs, Undecided}
use Rattle.tables.specs.declared.published.SampleRow.{SampleRow}
use Rattle.tables.specs.declared.published.AcceptRow.{AcceptRow}
use Rattle.tables.specs.declared.samples.WorkedSample.{WorkedSample}
use Rattle.tables.specs.declared.accepts.WorkedAccept.{WorkedAccept}

given_where : {A : Type 0} (b : Bool) (r : Refusal) (x v : A) → given v ≡ cond b (given x) (refused r) → (b ≡ true) × (v ≡ x)
given_where true r x v e = (refl, cc)
given_where false r x v e = absurd (no_refusal e)

-- a plan made of one size and one accept number has the one sample
pub one_sample : (n c reject : ℕ) (p : PlanNumbers) → given p ≡ made n c reject 0 c → samples_of p ≡ single n c
one_sample n c reject p e =
    let first = passed (eqb n 0 || ltb 32768 (n + 0)) _ _ p e in
    let second = passed (ltb 255 c) _ _ p first.1 in
    let third = given_where (agreeing c reject 0 c) _ _ p second.1 in
    let next : reject ≡ c + 1 = eqb-true reject (c + 1) (and_parts (eqb reject (c + 1)) (eqb c c) third.0).0 in
    ap samples_of third.1 ∙ ap (λ r. samples_of (record { n1 = n; ac1 = c; re1 = r; n2 = 0; ac2 = c })) (next ∙ add-one c)

-- and the ends of its chance enclose the share of its draws that pass
pub enclosed_single : (m : DrawMeaning) → Lawful m → (N D : ℕ) (p : PlanNumbers) (n c : ℕ) (low high low' high' : List ℕ) (ends : Ends) → samples_of p ≡ single n c → Chances m N D p low high low' high' (given ends) → EnclosedSingle m N D n c ends
unfolding all
enclosed_single m law N D p n c low high low' high' ends one chances =
    record {
      value = a.value ∙ ap (λ s. record { lo = low_of m N D s; hi = high_of m N D s }) one;
      lies = λ is_bad bad.
          let e : Encloses m N is_bad (single n c) ends.lo ends.hi = subst (λ s. Encloses m N is_bad s ends.lo ends.hi) one (chances.encloses ends refl is_bad bad) in
          record { some = all_positive m N law a.reel n (omega (arith, a.room, drawn)); low = e.low; high = e.high };
    }
  where
    a : Accepted m N D p (length low) (length high) ends
    a = accepted m N D p _ _ ends chances.value

    drawn : p.n1 + p.n2 ≡ n
    drawn = sym (total_plan p.n1 p.ac1 p.re1 p.n2 p.ac2) ∙ ap total one

joined_first : (x y : Verdict) → joined x y ≡ Agree → x ≡ Agree
joined_first Agree y e = refl
joined_first Differs y e = e
joined_first Undecided Agree e = e
joined_first Undecided Differs e = cc
joined_first Undecided Undecided e = e

joined_second : (x y : Verdict) → joined x y ≡ Agree → y ≡ Agree
joined_second Agree y e = e
joined_second Differs y e = cc
joined_second Undecided Agree e = refl
joined_second Undecided Differs e = cc
joined_second Undecided Undecided e = e

joined_differs : (x y : Verdict) → joined x y ≡ Differs → (x ≡ Differs) ⊎ (y ≡ Differs)
joined_differs Agree y e = inr e
joined_differs Differs y e = inl refl
joined_differs Undecided Agree e = inl e
joined_differs Undecided Differs e = inr refl
joined_differs Undecided Undecided e = inl e

one_smallest : (m : DrawMeaning) (N : ℕ) (is_bad : ℕ → Bool) (c limit a b : ℕ) → Smallest m N is_bad c limit a → Smallest m N is_bad c limit b → a ≡ b
one_smallest m N is_bad c limit a b s t = by (cases_order a b)
  where
    by : (a ≡ b) ⊎ ((a < b) ⊎ (b < a)) → a ≡ b
    by (inl e) = e
    by (inr (inl lt)) = absurd (t.fewer a lt s.keeps)
    by (inr (inr lt)) = absurd (s.fewer b lt t.keeps)

same_agrees : (found n : ℕ) → same_number found n ≡ Agree → found ≡ n
same_agrees found n e = grind (arith, nat_tests)

same_differs : (found n : ℕ) → same_number found n ≡ Differs → found ≡ n → ⊥
same_differs found n e k = grind (arith, nat_tests)

module _ (row : SampleRow) (worked : WorkedSample) (rest : Ends) (y : Verdict) where
  pub sample_worked :
      worked.row ≡ row
      → Truly without_replacement 1066 row.bad 50000 0 (given worked.sample)
      → EnclosedSingle without_replacement 1066 row.bad row.sample 0 worked.passing
      → Rests worked.passing rest
      → Judges 1000000000 row.confidence rest.lo rest.hi y
      → worked.verdict ≡ joined (same_number worked.sample row.sample) y
      → SampleWorked row worked
  sample_worked same truly encloses rests judges is =
      record {
        same = same;
        found = truly;
        enclosed = encloses;
        verdict = is ∙ ap (joined x) (judges.value ∙ ap (λ (e : Ends). judged 1000000000 row.confidence e.lo e.hi) rests.value);
        agree = λ e is_bad bad.
            record {
              smallest = subst (Smallest without_replacement 1066 is_bad 0 50000) (same_agrees worked.sample row.sample (joined_first x y (sym is ∙ e))) (truly.smallest worked.sample refl is_bad bad);
              figure = judges.agree (joined_second x y (sym is ∙ e)) _ _ (rests.lies _ _ (encloses.lies is_bad bad));
            };
        differs = λ e is_bad bad says. by is_bad bad says (joined_differs x y (sym is ∙ e));
      }
    where
      x : Verdict
      x = same_number worked.sample row.sample

      by : (is_bad : ℕ → Bool) → count_below is_bad 1066 ≡ row.bad → SampleSays is_bad row.sample row.confidence → (x ≡ Differs) ⊎ (y ≡ Differs) → ⊥
      by is_bad bad says (inl e) = same_differs worked.sample row.sample e (one_smallest without_replacement 1066 is_bad 0 50000 worked.sample row.sample (truly.smallest worked.sample refl is_bad bad) says.smallest)
      by is_bad bad says (inr e) = judges.differs e _ _ (rests.lies _ _ (encloses.lies is_bad bad)) says.figure

-- a sample that accepts more passes at least as often
passing_grows : (m : DrawMeaning) (N : ℕ) (is_bad : ℕ → Bool) (n c k : ℕ) → c ≤ k → passing m N is_bad (single n c) ≤ passing m N is_bad (single n k)
passing_grows m N is_bad n c k le =
    let fewer : (l : List ℕ) → leb (bad_in is_bad l) c ≡ true → leb (bad_in is_bad l) k ≡ true = λ l h. le-leb (bad_in is_bad l) k (omega (arith, leb-true (bad_in is_bad l) c h)) in
    omega (arith, passing_single m N is_bad n c, passing_single m N is_bad n k, count_less (λ l. leb (bad_in is_bad l) c) (λ l. leb (bad_in is_bad l) k) fewer (lists m N n))

-- an accept number is the greatest where the next breaks the limit
greatest_from : (m : DrawMeaning) (N : ℕ) (is_bad : ℕ → Bool) (n limit c : ℕ) → Keeps m N is_bad (single n c) limit → (Keeps m N is_bad (single n (suc c)) limit → ⊥) → Greatest m N is_bad n limit c
unfolding all
greatest_from m N is_bad n limit c keeps breaks =
    record {
      keeps = keeps;
      more = λ k lt kept. breaks (le_trans (mul-le-mul_right 1000000 (passing_grows m N is_bad n (suc c) k lt)) kept);
    }

module _ (row : AcceptRow) (worked : WorkedAccept) (y : Verdict) where
  pub accept_worked :
      worked.row ≡ row
      → EnclosedSingle with_replacement 1000000 1000 row.sample row.accept worked.at
      → EnclosedSingle with_replacement 1000000 1000 row.sample (row.accept + 1) worked.next
      → EnclosedSingle with_replacement 1000000 row.quality row.sample row.accept worked.passing
      → Chosen 50000 worked.at worked.next worked.greatest
      → Judges 10000 row.probability worked.passing.lo worked.passing.hi y
      → worked.verdict ≡ joined worked.greatest y
      → AcceptWorked row worked
  accept_worked same at next own chosen judges is =
      record {
        same = same;
        at_it = at;
        at_next = next;
        enclosed = own;
        shown = chosen.value;
        verdict = is ∙ ap (joined x) judges.value;
        agree = λ e bad_lot own_lot bad own_bad.
            record {
              greatest =
                  greatest_from with_replacement 1000000 bad_lot row.sample 50000 row.accept (chosen.keeps (joined_first x y (sym is ∙ e)) _ _ (at.lies bad_lot bad))
                  (chosen.breaks (joined_first x y (sym is ∙ e)) _ _ (above.lies bad_lot bad));
              figure = judges.agree (joined_second x y (sym is ∙ e)) _ _ (own.lies own_lot own_bad);
            };
        differs = λ e bad_lot own_lot bad own_bad says. by bad_lot own_lot bad own_bad says (joined_differs x y (sym is ∙ e));
      }
    where
      x : Verdict
      x = worked.greatest

      above : EnclosedSingle with_replacement 1000000 1000 row.sample (suc row.accept) worked.next
      above = subst (λ k. EnclosedSingle with_replacement 1000000 1000 row.sample k worked.next) (add-one row.accept) next

      by : (bad_lot own_lot : ℕ → Bool) → count_below bad_lot 1000000 ≡ 1000 → count_below own_lot 1000000 ≡ row.quality → AcceptSays bad_lot own_lot row.sample row.accept row.probability → (x ≡ Differs) ⊎ (y ≡ Differs) → ⊥
      by bad_lot own_lot bad own_bad says (inl e) = chosen.differs e _ _ _ _ (at.lies bad_lot bad) (above.lies bad_lot bad) says.greatest.keeps (says.greatest.more (suc row.accept) (le_refl (suc row.accept)))
      by bad_lot own_lot bad own_bad says (inr e) = judges.differs e _ _ (own.lies own_lot own_bad) says.figure
