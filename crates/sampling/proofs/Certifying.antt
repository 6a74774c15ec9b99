-- What certify promises, from what chance does. Assumes nothing.
use Rattle.std.proofs.Common.{◌≡◌, ℕ, ◌*◌, ◌≤◌, Bool, true, false, cond, eqb, ltb, List, length, codes, sym, ap, ◌∙◌, subst, arith}
use Rattle.std.proofs.lemmas.Bool.{eqb-false, ltb-false, or_parts, cond-false, leb-true}
use Rattle.std.proofs.Math.Nat.{pos_of_ne-zero}
use Rattle.film.specs.Refusals.{given, refuse}
use Rattle.draws.specs.Counting.{count_below}
use Rattle.draws.specs.Draws.{DrawMeaning, Lawful}
use Rattle.plans.specs.Plans.{PlanNumbers, samples_of, Agrees}
use Rattle.plans.specs.Working.{whole}
use Rattle.plans.specs.Limits.{Within, Keeps}
use Rattle.plans.proofs.Agreed.{total_plan, accepts_plan}
use Rattle.plans.proofs.Fewer.{guards}
use Rattle.sampling.specs.Certified.{CertifiedNumbers, CertifiedFor}
use Rattle.sampling.specs.Certifies.{is_within, no_tolerance, no_limit, judged, Certifies}
use Rattle.sampling.specs.Chances.{enclosed, row_left, Chances}
use Rattle.sampling.specs.declared.chance.Ends.{Ends}
use Rattle.sampling.proofs.Promises.{same_given, accepted}

-- a certified plan keeps its limit with T bad frames or more
pub certified_keeps : (m : DrawMeaning) → Lawful m → (c : CertifiedNumbers) → CertifiedFor m c → (is_bad : ℕ → Bool) → c.T ≤ count_below is_bad c.N → Keeps m c.N is_bad (samples_of c.plan) c.limit
certified_keeps m law c for is_bad enough =
    let p = c.plan in
    (guards m law).guards c.N c.T for.reel (samples_of p)
    (accepts_plan p.n1 p.ac1 p.re1 p.n2 p.ac2 for.agrees.3)
    (omega (arith, for.room, total_plan p.n1 p.ac1 p.re1 p.n2 p.ac2))
    c.limit (subst (Within c.limit) for.high for.within) is_bad enough

abbrev numbers : (N T limit : ℕ) → PlanNumbers → Ends → CertifiedNumbers
numbers N T limit p ends = record { N = N; T = T; limit = limit; plan = p; lo = ends.lo; hi = ends.hi }

pub certifies : (m : DrawMeaning) → Lawful m → (N T limit : ℕ) (p : PlanNumbers) (low high low' high' : List ℕ) (ends : Ends) → no_tolerance N T ≡ false → no_limit limit ≡ false → Agrees p.n1 p.ac1 p.re1 p.n2 p.ac2 → Chances m N T p low high low' high' (given ends) → true ≡ is_within limit ends.lo → true ≡ is_within limit ends.hi
    → Certifies m N T limit p low high low' high' (given (numbers N T limit p ends))
certifies m law N T limit p low high low' high' ends tolerable share agrees chance lo hi =
    record {
      value = (λ i. cond (lo i) (cond (hi i) (given (numbers N T limit p ends)) (refuse 36 T (codes "P"))) (refuse 35 T (codes "P"))) ∙ ap (judged N T limit p) chance.value
          ∙ sym (past (refuse 34 T (codes "P")) (refuse 37 limit (codes "P")) (judged N T limit p (enclosed m N T p (length low) (length high))));
      low_row = chance.low_row ∙ ap (λ a. row_left false m N T p a low) chance.value ∙ sym (past low low (row_left false m N T p (enclosed m N T p (length low) (length high)) low));
      high_row = chance.high_row ∙ ap (λ a. row_left true m N T p a high) chance.value ∙ sym (past high high (row_left true m N T p (enclosed m N T p (length low) (length high)) high));
      certified = λ c e. subst (CertifiedFor m) (same_given e) for;
      guards = λ c e. certified_keeps m law (numbers N T limit p ends) for;
    }
  where
    past : {A : Type 0} (x y rest : A) → cond (no_tolerance N T) x (cond (no_limit limit) y rest) ≡ rest
    past x y rest = cond-false _ _ _ tolerable ∙ cond-false _ _ _ share

    for : CertifiedFor m (numbers N T limit p ends)
    for =
        let known = accepted m N T p (length low) (length high) ends chance.value in
        let bad = or_parts (eqb T 0) (ltb N T) tolerable in
        let limits = or_parts (eqb limit 0) (ltb 999999 limit) share in
        record {
          reel = known.reel;
          some_bad = pos_of_ne-zero (eqb-false T 0 bad.0);
          tolerable = ltb-false N T bad.1;
          some_limit = pos_of_ne-zero (eqb-false limit 0 limits.0);
          a_share = ltb-false 999999 limit limits.1;
          agrees = agrees;
          room = known.room;
          low = ap (λ x. x.lo) known.value;
          high = ap (λ x. x.hi) known.value;
          within = leb-true (ends.hi * 1000000) (limit * whole) (sym hi);
        }
