-- What chance, certify and smallest promise, from what their parts give. Assumes nothing.
use Rattle.std.proofs.Common.{◌≡◌, ℕ, ◌+◌, ◌≤◌, Bool, true, false, cond, ◌||◌, eqb, ltb, List, Result, Ok, Err, ◌++◌, length, drop, sym, refl, ap, ◌∙◌, subst}
use Rattle.std.proofs.lemmas.Bool.{le-ltb, ltb-false, eqb-false, or_parts, cond-false}
use Rattle.std.proofs.Math.Nat.{pos_of_ne-zero}
use Rattle.film.specs.Refusals.{Refusal, Answer, given, refused}
use Rattle.draws.specs.Draws.{DrawMeaning, Reel, Lawful}
use Rattle.plans.specs.Plans.{PlanNumbers, samples_of, Agrees}
use Rattle.plans.specs.Working.{worked_from0}
use Rattle.plans.specs.Enclosure.{Encloses}
use Rattle.plans.proofs.Enclosed.{enclosure}
use Rattle.sampling.specs.Chances.{no_reel, ends_of, enclosed, Chances, Works}
use Rattle.sampling.specs.declared.chance.Ends.{Ends}
use Rattle.sampling.proofs.Overlays.{laid_over}

-- a check that fails tells what holds
pub reel_from_lem : (N : ℕ) → no_reel N ≡ false → Reel N
reel_from_lem N e =
    let parts = or_parts (eqb N 0) (ltb 1000000 N) e in
    record { some = pos_of_ne-zero (eqb-false N 0 parts.0); few = ltb-false 1000000 N parts.1 }

-- and one that lets through has failed
pub let_through : {E : Type 0} (b : Bool) (fault : E) (x : Unit {0}) → ◌≡◌ {A = Result (Unit {0}) E} (Ok x) (cond b (Err fault) (Ok tt)) → b ≡ false
let_through true fault x e = cc
let_through false fault x e = refl

-- where nothing is refused, the ends are given
pub enclosed_given : (m : DrawMeaning) (N D : ℕ) (p : PlanNumbers) (low high : ℕ) → no_reel N ≡ false → D ≤ N → p.n1 + p.n2 ≤ m.longest N → (ltb low (p.ac2 + 1) || ltb high (p.ac2 + 1)) ≡ false → enclosed m N D p low high ≡ given (ends_of m N D p)
enclosed_given m N D p low high reel few room long =
    cond-false (no_reel N) _ _ reel
    ∙ cond-false (ltb N D) _ _ (le-ltb N D few)
    ∙ cond-false (ltb (m.longest N) (p.n1 + p.n2)) _ _ (le-ltb (m.longest N) (p.n1 + p.n2) room)
    ∙ cond-false _ _ _ long

pub same_given : {A : Type 0} {x y : A} → ◌≡◌ {A = Answer A} (given x) (given y) → x ≡ y
same_given e = cc

-- low₂ and high₂ are the rows as the code leaves them
pub chances : (m : DrawMeaning) → Lawful m → (N D : ℕ) (p : PlanNumbers) (cells : ℕ) (low high low₁ high₁ low₂ high₂ : List ℕ) (ends : Ends) → no_reel N ≡ false → D ≤ N → Agrees p.n1 p.ac1 p.re1 p.n2 p.ac2 → p.n1 + p.n2 ≤ m.longest N → cells ≡ p.ac2 + 1 → (ltb (length low) cells || ltb (length high) cells) ≡ false
    → Works m N D p low₁ high₁ ends → low₂ ≡ low₁ ++ drop cells low → high₂ ≡ high₁ ++ drop cells high → Chances m N D p low high low₂ high₂ (given ends)
chances m law N D p cells low high low₁ high₁ low₂ high₂ ends reel few agrees room e long works low_left high_left =
    record {
      value = ap given works.value ∙ sym (enclosed_given m N D p (length low) (length high) reel few room (ap (λ n. ltb (length low) n || ltb (length high) n) (sym e) ∙ long));
      low_row = low_left ∙ ap (λ n. low₁ ++ drop n low) e ∙ laid_over (p.ac2 + 1) (worked_from0 false m N D (samples_of p)).row low low₁ works.low_row;
      high_row = high_left ∙ ap (λ n. high₁ ++ drop n high) e ∙ laid_over (p.ac2 + 1) (worked_from0 true m N D (samples_of p)).row high high₁ works.high_row;
      encloses = λ other same is_bad e. subst (λ x. Encloses m N is_bad (samples_of p) x.lo x.hi) (sym works.value ∙ same_given same) ((enclosure m law).of_plans N D (reel_from_lem N reel) is_bad e p agrees.3 room);
    }

pub no_refusal : {A : Type 0} {v : A} {r : Refusal} → ◌≡◌ {A = Answer A} (given v) (refused r) → ⊥
no_refusal e = cc

-- what is given past a check has passed it
pub passed : {A : Type 0} (b : Bool) (r : Refusal) (rest : Answer A) (v : A) → given v ≡ cond b (refused r) rest → (b ≡ false) × (given v ≡ rest)
passed true r rest v e = absurd (no_refusal e)
passed false r rest v e = (refl, e)

-- what is known where the ends are given
pub record Accepted (m : DrawMeaning) (N D : ℕ) (p : PlanNumbers) (low high : ℕ) (ends : Ends) : Type 0 where
  pub reel : Reel N
  pub few : D ≤ N
  pub room : p.n1 + p.n2 ≤ m.longest N
  pub low_cells : p.ac2 + 1 ≤ low
  pub high_cells : p.ac2 + 1 ≤ high
  pub value : ends ≡ ends_of m N D p

pub accepted : (m : DrawMeaning) (N D : ℕ) (p : PlanNumbers) (low high : ℕ) (ends : Ends) → given ends ≡ enclosed m N D p low high → Accepted m N D p low high ends
accepted m N D p low high ends e =
    let first = passed (no_reel N) _ _ ends e in
    let second = passed (ltb N D) _ _ ends first.1 in
    let third = passed (ltb (m.longest N) (p.n1 + p.n2)) _ _ ends second.1 in
    let fourth = passed (ltb low (p.ac2 + 1) || ltb high (p.ac2 + 1)) _ _ ends third.1 in
    let cells = or_parts (ltb low (p.ac2 + 1)) (ltb high (p.ac2 + 1)) fourth.0 in
    record {
      reel = reel_from_lem N first.0;
      few = ltb-false N D second.0;
      room = ltb-false (m.longest N) (p.n1 + p.n2) third.0;
      low_cells = ltb-false low (p.ac2 + 1) cells.0;
      high_cells = ltb-false high (p.ac2 + 1) cells.1;
      value = same_given fourth.1;
    }
