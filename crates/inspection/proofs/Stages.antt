-- What the two-stage rule says while a list is being viewed: true marks, and empty entries behind. Assumes nothing.
use Rattle.std.proofs.Common.{◌≡◌, ℕ, zero, suc, ◌+◌, ◌<◌, ◌≤◌, Bool, true, false, cond, ◌&&◌, leb, ◌⊎◌, List, [], ◌∷◌, ◌++◌, length, take, drop, replicate, sym, refl, ap, ◌∙◌, subst, inl, inr, ⊎_elim, arith}
use Rattle.std.proofs.lemmas.List.{length-map, length-drop, take-append-le, drop-append-le, drop-map}
use Rattle.std.proofs.lemmas.Bool.{cases_lt, cond-true, cond-false, and_right}
use Rattle.draws.specs.Counting.{count_in}
use Rattle.draws.specs.Draws.{bad_in}
use Rattle.draws.specs.declared.entry.State.{State}
use Rattle.draws.specs.declared.entry.State.TheVariants.{Empty}
use Rattle.plans.specs.Plans.{Sample, samples_by}
use Rattle.plans.specs.Standings.{is_marked, is_bad_mark, marked_up_to, waiting, ruling, standing, true_mark, true_marks}
use Rattle.plans.proofs.Rulings.{true_marked, true_bad}
use Rattle.inspection.specs.Runs.{Settled}

pub not_waiting : (stage : ℕ) → Settled (waiting stage) → ⊥
not_waiting zero s = ⊎_elim (λ e. omega arith) (λ e. omega arith) s
not_waiting (suc stage) s = ⊎_elim (λ e. omega arith) (λ e. omega arith) s

-- only the first n marks matter to a sample of n frames
pub marked_front : (n : ℕ) (front behind : List State) → n ≤ length front → marked_up_to n (front ++ behind) ≡ marked_up_to n front
marked_front zero front behind h = refl
marked_front (suc n) [] behind h = absurd (omega arith)
marked_front (suc n) (x ∷ front) behind h = ap (λ b. is_marked x && b) (marked_front n front behind (omega arith))

-- a sample's count accepts, rejects or goes on
pub decided : (x y : Bool) (r : ℕ) → Settled r → Settled (cond x 1 (cond y 2 r))
decided true y r s = inl refl
decided false true r s = inr refl
decided false false r s = s

same_decided : (x y : Bool) (r q : ℕ) → (Settled r → q ≡ r) → Settled (cond x 1 (cond y 2 r)) → cond x 1 (cond y 2 q) ≡ cond x 1 (cond y 2 r)
same_decided true y r q same s = refl
same_decided false true r q same s = refl
same_decided false false r q same s = same s

module _ (is_bad : ℕ → Bool) where
  -- a sample whose frames are all viewed
  ruled : (s : Sample) (rest : List Sample) (stage bads : ℕ) (pre : List ℕ) (behind : List State) → s.size ≤ length pre
      → ruling (s ∷ rest) stage bads (true_marks is_bad pre ++ behind)
      ≡ cond (leb (bads + bad_in is_bad (take s.size pre)) s.accept) 1
      (cond (leb s.reject (bads + bad_in is_bad (take s.size pre))) 2
      (ruling rest (suc stage) (bads + bad_in is_bad (take s.size pre)) (true_marks is_bad (drop s.size pre) ++ behind)))
  ruled s rest stage bads pre behind h =
      let fits : s.size ≤ length (true_marks is_bad pre) = omega (arith, length-map pre (true_mark is_bad)) in
      cond-true (marked_up_to s.size (true_marks is_bad pre ++ behind)) _ _ (marked_front s.size (true_marks is_bad pre) behind fits ∙ true_marked is_bad s.size pre h)
      ∙ (λ i. next
      (bads + (ap (count_in is_bad_mark) (take-append-le s.size (true_marks is_bad pre) behind fits) ∙ true_bad is_bad s.size pre) i)
      ((drop-append-le s.size (true_marks is_bad pre) behind fits ∙ ap (λ l. l ++ behind) (drop-map (true_mark is_bad) s.size pre)) i))
    where
      next : ℕ → List State → ℕ
      next b marks = cond (leb b s.accept) 1 (cond (leb s.reject b) 2 (ruling rest (suc stage) b marks))

  marked_short : (n : ℕ) (pre : List ℕ) (b : ℕ) → length pre < n → marked_up_to n (true_marks is_bad pre ++ replicate b Empty) ≡ false
  marked_short zero pre b h = absurd (omega arith)
  marked_short (suc n) [] zero h = refl
  marked_short (suc n) [] (suc b) h = refl
  marked_short (suc n) (f ∷ pre) b h = and_right (is_marked (true_mark is_bad f)) _ (marked_short n pre b (omega arith))

  -- a sample with frames not viewed yet
  awaited : (s : Sample) (rest : List Sample) (stage bads : ℕ) (pre : List ℕ) (b : ℕ) → length pre < s.size → ruling (s ∷ rest) stage bads (true_marks is_bad pre ++ replicate b Empty) ≡ waiting stage
  awaited s rest stage bads pre b h = cond-false _ _ _ (marked_short s.size pre b h)

  -- what is settled stays so, whatever stands behind
  pub settled_on : (samples : List Sample) (stage bads : ℕ) (pre : List ℕ) (b : ℕ) (behind : List State) → Settled (ruling samples stage bads (true_marks is_bad pre ++ replicate b Empty))
      → ruling samples stage bads (true_marks is_bad pre ++ behind) ≡ ruling samples stage bads (true_marks is_bad pre ++ replicate b Empty)
  settled_on [] stage bads pre b behind s = refl
  settled_on (sample ∷ rest) stage bads pre b behind s =
      ⊎_elim
      (λ lt. absurd (not_waiting stage (subst Settled (awaited sample rest stage bads pre b lt) s)))
      (λ ge.
      let here = ruled sample rest stage bads pre (replicate b Empty) ge in
      let bads' = bads + bad_in is_bad (take sample.size pre) in
      ruled sample rest stage bads pre behind ge
      ∙ same_decided (leb bads' sample.accept) (leb sample.reject bads') _ _ (settled_on rest (suc stage) bads' (drop sample.size pre) b behind) (subst Settled here s)
      ∙ sym here)
      (cases_lt (length pre) sample.size)

  -- either it is settled, or there is room for a pull
  abbrev pub Roomy : (n1 n2 : ℕ) → (pre : List ℕ) → (code : ℕ) → Type 0
  Roomy n1 n2 pre code = Settled code ⊎ (((code ≡ 0) × (length pre < n1)) ⊎ ((code ≡ 3) × (length pre < n1 + n2)))

  last_roomy : (x y x' y' : Bool) (n1 n2 : ℕ) (pre : List ℕ) → Roomy n1 n2 pre (cond x 1 (cond y 2 (cond x' 1 (cond y' 2 2))))
  last_roomy x y x' y' n1 n2 pre = inl (decided x y _ (decided x' y' 2 (inr refl)))

  second_roomy : (x y : Bool) (n1 n2 : ℕ) (pre : List ℕ) → length pre < n1 + n2 → Roomy n1 n2 pre (cond x 1 (cond y 2 3))
  second_roomy true y n1 n2 pre h = inl (inl refl)
  second_roomy false true n1 n2 pre h = inl (inr refl)
  second_roomy false false n1 n2 pre h = inr (inr (refl, h))

  pub roomy : (n1 ac1 re1 n2 ac2 : ℕ) (pre : List ℕ) (b : ℕ) → Roomy n1 n2 pre (standing (samples_by n1 ac1 re1 n2 ac2) (true_marks is_bad pre ++ replicate b Empty))
  roomy n1 ac1 re1 zero ac2 pre b =
      let one : Sample = record { size = n1; accept = ac1; reject = re1 } in
      let bads = 0 + bad_in is_bad (take n1 pre) in
      ⊎_elim
      (λ lt. subst (Roomy n1 zero pre) (sym (awaited one [] 0 0 pre b lt)) (inr (inl (refl, lt))))
      (λ ge. subst (Roomy n1 zero pre) (sym (ruled one [] 0 0 pre (replicate b Empty) ge)) (inl (decided (leb bads ac1) (leb re1 bads) 2 (inr refl))))
      (cases_lt (length pre) n1)
  roomy n1 ac1 re1 (suc more) ac2 pre b =
      let one : Sample = record { size = n1; accept = ac1; reject = re1 } in
      let two : Sample = record { size = suc more; accept = ac2; reject = suc ac2 } in
      let bads = 0 + bad_in is_bad (take n1 pre) in
      let both = bads + bad_in is_bad (take (suc more) (drop n1 pre)) in
      ⊎_elim
      (λ lt. subst (Roomy n1 (suc more) pre) (sym (awaited one (two ∷ []) 0 0 pre b lt)) (inr (inl (refl, lt))))
      (λ ge.
      subst (Roomy n1 (suc more) pre) (sym (ruled one (two ∷ []) 0 0 pre (replicate b Empty) ge))
      (⊎_elim
      (λ lt.
      subst (λ r. Roomy n1 (suc more) pre (cond (leb bads ac1) 1 (cond (leb re1 bads) 2 r))) (sym (awaited two [] 1 bads (drop n1 pre) b lt))
      (second_roomy (leb bads ac1) (leb re1 bads) n1 (suc more) pre (omega (arith, length-drop n1 pre))))
      (λ full.
      subst (λ r. Roomy n1 (suc more) pre (cond (leb bads ac1) 1 (cond (leb re1 bads) 2 r))) (sym (ruled two [] 1 bads (drop n1 pre) (replicate b Empty) full))
      (last_roomy (leb bads ac1) (leb re1 bads) (leb both ac2) (leb (suc ac2) both) n1 (suc more) pre))
      (cases_lt (length (drop n1 pre)) (suc more))))
      (cases_lt (length pre) n1)

  -- before the first frame it is OPEN
  pub opening : (n1 ac1 re1 n2 ac2 : ℕ) → 0 < n1 → (b : ℕ) → standing (samples_by n1 ac1 re1 n2 ac2) (replicate b Empty) ≡ 0
  opening n1 ac1 re1 zero ac2 some b = awaited (record { size = n1; accept = ac1; reject = re1 }) [] 0 0 [] b some
  opening n1 ac1 re1 (suc more) ac2 some b = awaited (record { size = n1; accept = ac1; reject = re1 }) (record { size = suc more; accept = ac2; reject = suc ac2 } ∷ []) 0 0 [] b some
