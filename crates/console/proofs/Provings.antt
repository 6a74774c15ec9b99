-- The three theorems of an inspection on a certified plan. Assumes nothing.
use Rattle.std.proofs.Common.{◌≡◌, ℕ, Bool, ltb, List, length, sym, ap, subst}
use Rattle.film.specs.Refusals.{given}
use Rattle.draws.specs.Counting.{count_below}
use Rattle.draws.specs.Draws.{DrawMeaning, Lawful}
use Rattle.draws.specs.declared.entry.Entry.{Entry}
use Rattle.plans.specs.Plans.{samples_of}
use Rattle.plans.specs.Enclosure.{Encloses}
use Rattle.plans.specs.Working.{high_of}
use Rattle.plans.proofs.Enclosed.{enclosure}
use Rattle.sampling.specs.Certified.{CertifiedNumbers, CertifiedFor}
use Rattle.inspection.specs.Answers.{open_answer}
use Rattle.inspection.specs.Runs.{LawOfRuns}
use Rattle.inspection.specs.Tables.{Held, size_of}
use Rattle.inspection.specs.Views.{Guarded}
use Rattle.inspection.proofs.Givens.{given_same, not_refused}
use Rattle.console.specs.Begins.{Proved}

-- a certified plan's enclosure is that of the exact chance
enclosed_certified : (m : DrawMeaning) → Lawful m → (c : CertifiedNumbers) → CertifiedFor m c → (is_bad : ℕ → Bool) → count_below is_bad c.N ≡ c.T → Encloses m c.N is_bad (samples_of c.plan) c.lo c.hi
enclosed_certified m law c for is_bad e =
    let S = samples_of c.plan in
    let there = (enclosure m law).of_plans c.N c.T for.reel is_bad e c.plan for.agrees.3 for.room in
    subst (λ hi. Encloses m c.N is_bad S c.lo hi) (sym for.high) (subst (λ lo. Encloses m c.N is_bad S lo (high_of m c.N c.T S)) (sym for.low) there)

-- an inspection that is opened is on the plan that it was given
opened_on : (number : ℕ) (c : CertifiedNumbers) (table : List Entry) (h : Held) → given h ≡ open_answer number c table → h.terms ≡ c
opened_on number c table h e =
    ap (λ (x : Held). x.terms) (given_same h _ (not_refused _ h (ltb (length table) (size_of c)) _ e).1)

-- and by the rule that it was given
module _ {R : Type 0} (meaning : R → DrawMeaning) (rule given_rule : R) (same : rule ≡ given_rule) (law : Lawful (meaning given_rule)) (number : ℕ) (c : CertifiedNumbers) (table left : List Entry) (h : Held) where
  pub proved_from : given h ≡ open_answer number c table → CertifiedFor (meaning given_rule) c → LawOfRuns (meaning rule) h left → Guarded (meaning rule) h left → Proved (meaning given_rule) h left
  proved_from opened certified runs guarded =
      let m = meaning given_rule in
      let for : CertifiedFor m h.terms = subst (CertifiedFor m) (sym (opened_on number c table h opened)) certified in
      let share : Guarded m h left = subst (λ r. Guarded (meaning r) h left) same guarded in
      record {
        enclosed = enclosed_certified m law h.terms for;
        share = share.share for;
        runs = subst (λ r. LawOfRuns (meaning r) h left) same runs;
      }
