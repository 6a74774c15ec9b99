-- Every drawable list is viewed to its one end, and the share of those that end in a false PASS. Assumes nothing.
use Rattle.std.proofs.Common.{◌≡◌, ℕ, suc, ◌*◌, ◌≤◌, Bool, true, ◌⊎◌, List, [], ◌∷◌, ◌++◌, length, drop, replicate, Decides, sym, refl, ap, ◌∙◌, subst, inl, inr, ⊎_elim, zero-add, arith}
use Rattle.std.specs.List.{AllByRecursion}
use Rattle.std.proofs.ByRecursion.{All-weaker}
use Rattle.std.proofs.lemmas.List.{append-nil, append_assoc, map-append}
use Rattle.std.proofs.lemmas.Bool.{eqb-true, eq-eqb, lt-ltb, cond-true, and_from, cases_eq}
use Rattle.std.proofs.lemmas.Bool.Decides.{same_from_decides}
use Rattle.film.specs.Refusals.{given}
use Rattle.film.specs.Schemes.{SchemeMeaning, Lawful as LawfulScheme, address_at, addressed, located}
use Rattle.film.specs.declared.address.Address.{Address}
use Rattle.film.proofs.Single.{addresses}
use Rattle.draws.specs.Counting.{count_in, count_below}
use Rattle.draws.specs.Draws.{DrawMeaning, Allowed, none, more, Lawful, Reel, lists}
use Rattle.draws.specs.declared.entry.Entry.{Entry}
use Rattle.draws.proofs.Recurrence.{lists_allowed}
use Rattle.plans.specs.Plans.{samples_of}
use Rattle.plans.specs.Standings.{standing, true_mark, true_marks}
use Rattle.plans.specs.Exact.{passes, all, passing}
use Rattle.plans.specs.Limits.{Within}
use Rattle.plans.proofs.Agreed.{total_plan, accepts_plan}
use Rattle.plans.proofs.Counts.{count_same}
use Rattle.plans.proofs.Fewer.{guards}
use Rattle.sampling.specs.Certified.{CertifiedNumbers, CertifiedFor}
use Rattle.inspection.specs.Tables.{Held, size_of, blank, counts_of}
use Rattle.inspection.specs.Answers.{open_table, pull_table, mark_table, moved_on, Reported, Pulls, Marks, Stands}
use Rattle.inspection.specs.Runs.{Settled}
use Rattle.inspection.specs.Views.{judgement, Viewed, ends, views, Drawable, FalsePasses}
use Rattle.inspection.proofs.Givens.{given_same, not_refused}
use Rattle.inspection.proofs.Stages.{settled_on, roomy, opening}
use Rattle.inspection.proofs.Viewing.{held, so_far, Seen, ticket, left, pull_accepted, mark_accepted, seen_more, standing_given}

-- each frame in turn may follow those before it
abbrev pub Steps : DrawMeaning → ℕ → (pre frames : List ℕ) → Type 0
Steps m N pre [] = Unit {0}
Steps m N pre (f ∷ frames) = (m.follows N pre f ≡ true) × Steps m N (pre ++ f ∷ []) frames

module _ (m : DrawMeaning) (N : ℕ) where
  steps_push : (pre l : List ℕ) (f : ℕ) → Steps m N pre l → m.follows N (pre ++ l) f ≡ true → Steps m N pre (l ++ f ∷ [])
  steps_push pre [] f steps e = (ap (λ l. m.follows N l f) (sym (append-nil pre)) ∙ e, tt)
  steps_push pre (x ∷ l) f steps e = (steps.0, steps_push (pre ++ x ∷ []) l f steps.1 (ap (λ l. m.follows N l f) (append_assoc pre (x ∷ []) l) ∙ e))

  pub allowed_steps : {l : List ℕ} → Allowed m N l → Steps m N [] l
  allowed_steps none = tt
  allowed_steps (more {drawn} {frame} a e) = steps_push [] drawn frame (allowed_steps a) e

settled? : (code : ℕ) → Settled code ⊎ (Settled code → ⊥)
settled? code =
    ⊎_elim (λ e. inl (inl e))
    (λ no1. ⊎_elim (λ e. inl (inr e)) (λ no2. inr (⊎_elim no1 no2)) (cases_eq code 2))
    (cases_eq code 1)

module _ (m : DrawMeaning) (law : Lawful m) (s : SchemeMeaning) (scheme : LawfulScheme s) (is_bad : ℕ → Bool) (number : ℕ) (c : CertifiedNumbers) (reel : Reel c.N) (reaches : c.N ≤ s.reach) where
  abbrev End : List ℕ → ℕ
  End l = standing (samples_of c.plan) (true_marks is_bad l)

  -- the end is known as soon as the standing is settled
  end_known : (pre rest : List ℕ) (b code : ℕ) → code ≡ so_far is_bad number c pre b → Settled code → End (pre ++ rest) ≡ code
  end_known pre rest b code is s =
      ap (standing (samples_of c.plan)) (map-append (true_mark is_bad) pre rest)
      ∙ settled_on is_bad (samples_of c.plan) 0 0 pre b (true_marks is_bad rest) (subst Settled is s)
      ∙ sym is

  -- with no entry left empty it is settled
  pub all_viewed : (l : List ℕ) → length l ≡ size_of c → Settled (End l)
  all_viewed l e =
      subst (λ marks. Settled (standing (samples_of c.plan) marks)) (append-nil (true_marks is_bad l))
      (⊎_elim (λ s. s) (⊎_elim (λ first. absurd (omega (arith, first.1))) (λ second. absurd (omega (arith, second.1))))
      (roomy is_bad c.plan.n1 c.plan.ac1 c.plan.re1 c.plan.n2 c.plan.ac2 l 0))

  -- a frame that the rule lets follow has an address, and is found there
  named : (pre : List ℕ) (frame : ℕ) → m.follows c.N pre frame ≡ true → addressed s c.N frame ≡ given (address_at s frame)
  unfolding addressed
  named pre frame follows =
      let below = law.inside c.N reel pre frame follows in
      cond-true _ _ _ (and_from _ _ (lt-ltb frame c.N below) (lt-ltb frame s.reach (omega arith)))

  found : (a : Address) (frame : ℕ) → addressed s c.N frame ≡ given a → located s c.N a ≡ given frame
  found a frame e = (addresses s scheme c.N frame (addressed s c.N frame) refl).back a e

  abbrev now : ℕ → Held
  now code = held is_bad number c code

  reported : (code : ℕ) (table : List Entry) → Reported
  reported code table = record { code = code; counts = counts_of (now code) table }

  pub viewing : (rest pre : List ℕ) (code : ℕ) (back table : List Entry) → Seen is_bad number c pre (length rest) code back table → Steps m c.N pre rest → Viewed m s is_bad (now code) table rest (End (pre ++ rest))
  unfolding reported
  viewing [] pre code back table seen steps =
      let done : Settled code = subst Settled (sym (seen.code_is ∙ ap (standing (samples_of c.plan)) (append-nil (true_marks is_bad pre)))) (all_viewed pre (omega (arith, seen.fills))) in
      subst (Viewed m s is_bad (now code) table []) (sym (end_known pre [] 0 code seen.code_is done))
      (ends (reported code table) (record { value = sym (standing_given is_bad number c pre 0 code back table seen) }) done)
  viewing (frame ∷ rest) pre code back table seen steps =
      let stands : Stands (now code) table (given (reported code table)) = record { value = sym (standing_given is_bad number c pre (suc (length rest)) code back table seen) } in
      ⊎_elim
      (λ done.
      subst (Viewed m s is_bad (now code) table (frame ∷ rest)) (sym (end_known pre (frame ∷ rest) (suc (length rest)) code seen.code_is done))
      (ends (reported code table) stands done))
      (λ going.
      let a = address_at s frame in
      let e = named pre frame steps.0 in
      let f = found a frame e in
      let l = left is_bad number c m s pre (length rest) code back table seen going a frame f steps.0 in
      subst (Viewed m s is_bad (now code) table (frame ∷ rest)) (ap End (append_assoc pre (frame ∷ []) rest))
      (views (reported code table) a (ticket is_bad number c pre frame) stands going e
      (record { value = sym (pull_accepted is_bad number c m s pre (length rest) code back table seen going a frame f steps.0); table_left = refl })
      (record { value = sym (mark_accepted is_bad number c m s pre (length rest) code back table seen going a frame f steps.0); table_left = refl; held_left = refl })
      (viewing rest (pre ++ frame ∷ []) (moved_on (now code) l) back l (seen_more is_bad number c m s pre (length rest) code back table seen going a frame f steps.0) steps.1)))
      (settled? code)

  -- what standing reports is what stands
  report_is : (h : Held) (table : List Entry) (report : Reported) → Stands h table (given report) → report.code ≡ h.standing
  report_is h table report st =
      ap (λ (r : Reported). r.code) (given_same report (record { code = h.standing; counts = counts_of h table }) (not_refused _ report _ _ st.value).1)

  pub viewed_only : {h : Held} {table : List Entry} {l : List ℕ} {end : ℕ} → Viewed m s is_bad h table l end → (pre : List ℕ) (code : ℕ) (back : List Entry) → h ≡ now code → Seen is_bad number c pre (length l) code back table → Steps m c.N pre l → end ≡ End (pre ++ l)
  viewed_only (ends {h} {table} {frames} report st done) pre code back is seen steps =
      let same = report_is h table report st ∙ ap (λ (h : Held). h.standing) is in
      same ∙ sym (end_known pre frames (length frames) code seen.code_is (subst Settled same done))
  viewed_only (views {h} {after} {table} {sent = sent₁} {left = left₁} {frame} {frames} {end} report a t st going e p q v) pre code back is seen steps =
      let same = report_is h table report st ∙ ap (λ (h : Held). h.standing) is in
      let on : Settled code → ⊥ = λ done. going (subst Settled (sym same) done) in
      let f = found a frame (ap (λ (h : Held). addressed s h.terms.N frame) (sym is) ∙ e) in
      let p' = subst (λ h. Pulls m s h table a (given t) sent₁) is p in
      let q' = subst (λ h. Marks h sent₁ t (judgement is_bad frame) (given tt) after left₁) is q in
      let ticket_is = given_same t (ticket is_bad number c pre frame) (p'.value ∙ pull_accepted is_bad number c m s pre (length frames) code back table seen on a frame f steps.0) in
      let sent_is = p'.table_left ∙ ap (λ t. pull_table table (given t)) ticket_is in
      let l = left is_bad number c m s pre (length frames) code back table seen on a frame f steps.0 in
      let left_is : left₁ ≡ l = q'.table_left ∙ (λ i. mark_table (sent_is i) (ticket_is i) (judgement is_bad frame) (given tt)) in
      let after_is : after ≡ now (moved_on (now code) l) = q'.held_left ∙ ap (λ l. now (moved_on (now code) l)) left_is in
      let next = seen_more is_bad number c m s pre (length frames) code back table seen on a frame f steps.0 in
      viewed_only v (pre ++ frame ∷ []) (moved_on (now code) l) back after_is (subst (Seen is_bad number c (pre ++ frame ∷ []) (length frames) (moved_on (now code) l) back) (sym left_is) next) steps.1
      ∙ ap End (append_assoc pre (frame ∷ []) frames)

module _ (m : DrawMeaning) (law : Lawful m) (s : SchemeMeaning) (scheme : LawfulScheme s) (number : ℕ) (c : CertifiedNumbers) (certified : CertifiedFor m c) (reaches : c.N ≤ s.reach)
    (is_bad : ℕ → Bool) (enough : c.T ≤ count_below is_bad c.N) (table : List Entry) where
  abbrev fresh : Held
  fresh = held is_bad number c 0

  abbrev emptied : List Entry
  emptied = open_table table (given fresh)

  seen_none : (l : List ℕ) → Drawable m fresh l → Seen is_bad number c [] (length l) 0 (drop (size_of c) table) emptied
  seen_none l d =
      record {
        is = ap (λ n. replicate n blank ++ drop (size_of c) table) (sym d.long);
        fills = zero-add (length l) ∙ d.long;
        code_is = sym (opening is_bad c.plan.n1 c.plan.ac1 c.plan.re1 c.plan.n2 c.plan.ac2 certified.agrees.0 (length l));
      }

  viewed_all : (l : List ℕ) → Drawable m fresh l → Viewed m s is_bad fresh emptied l (standing (samples_of c.plan) (true_marks is_bad l))
  viewed_all l d = viewing m law s scheme is_bad number c certified.reel reaches l [] 0 (drop (size_of c) table) emptied (seen_none l d) (allowed_steps m c.N d.allowed)

  one_end : (l : List ℕ) → Drawable m fresh l → (end : ℕ) → Viewed m s is_bad fresh emptied l end → end ≡ standing (samples_of c.plan) (true_marks is_bad l)
  one_end l d end v = viewed_only m law s scheme is_bad number c certified.reel reaches v [] 0 (drop (size_of c) table) refl (seen_none l d) (allowed_steps m c.N d.allowed)

  tells : (l : List ℕ) → Drawable m fresh l → Decides (passes (samples_of c.plan) is_bad l) (Viewed m s is_bad fresh emptied l 1)
  tells l d = (
    λ e. subst (Viewed m s is_bad fresh emptied l) (eqb-true (standing (samples_of c.plan) (true_marks is_bad l)) 1 e) (viewed_all l d),
    λ v. eq-eqb (standing (samples_of c.plan) (true_marks is_bad l)) 1 (sym (one_end l d 1 v)),
  )

  kept : count_in (passes (samples_of c.plan) is_bad) (lists m c.N (size_of c)) * 1000000 ≤ c.limit * length (lists m c.N (size_of c))
  unfolding passing all
  kept =
      let p = c.plan in
      let size = total_plan p.n1 p.ac1 p.re1 p.n2 p.ac2 in
      subst (λ n. count_in (passes (samples_of p) is_bad) (lists m c.N n) * 1000000 ≤ c.limit * length (lists m c.N n)) size
      ((guards m law).guards c.N c.T certified.reel (samples_of p) (accepts_plan p.n1 p.ac1 p.re1 p.n2 p.ac2 certified.agrees.3)
      (subst (λ n. n ≤ m.longest c.N) (sym size) certified.room) c.limit (subst (Within c.limit) certified.high certified.within) is_bad enough)

  pub false_passes : FalsePasses m s fresh emptied is_bad
  false_passes =
      record {
        viewed = viewed_all;
        settles = λ l d. all_viewed m law s scheme is_bad number c certified.reel reaches l d.long;
        only = one_end;
        share = λ passed decides.
            subst (λ n. n * 1000000 ≤ c.limit * length (lists m c.N (size_of c)))
            (sym (count_same (Drawable m fresh) passed (passes (samples_of c.plan) is_bad) (λ l d. same_from_decides (passed l) _ (decides l d) (tells l d)) (lists m c.N (size_of c)) drawable))
            kept;
        told = tells;
      }
    where
      drawable : AllByRecursion (Drawable m fresh) (lists m c.N (size_of c))
      drawable = All-weaker (λ l. Allowed m c.N l × (length l ≡ size_of c)) (Drawable m fresh) (λ l h. record { allowed = h.0; long = h.1 }) (lists m c.N (size_of c)) (lists_allowed m c.N (size_of c))
