-- The lines of a text, each cut off with the byte that ends it. Assumes nothing.
use Rattle.std.proofs.Common.{◌≡◌, ℕ, zero, suc, ◌+◌, ◌-◌, ◌<◌, min, Bool, true, false, cond, ◌&&◌, ◌==◌, eqb, List, [], ◌∷◌, ◌++◌, length, take, drop, Option, refl, sym, ap, ◌∙◌, subst, arith, Bor}
use native.Mathlib.Numerals.{unary_clauses}
use Rattle.std.proofs.lemmas.Bool.{cond-true, cond-false, and_parts}
use Rattle.std.proofs.lemmas.Iterator.{YieldsList}
use Rattle.std.proofs.lemmas.Iterator.Splits.{YieldsList-from_shown_while}
use Rattle.std.proofs.lemmas.List.{nil_from_length}
use Rattle.std.specs.Cmp.Lexicographic.{pointwise}
use Rattle.std.proofs.lemmas.Fn.{always_returns_same}
use Rattle.std.specs.Fn.{CalledAt, ComputesKey}
use Rattle.std.specs.List.{IsFirstMatchOrLen}
use Rattle.std.specs.Option.{MatchOption}
use Rattle.std.specs.Slice.Iter.{split_inclusive_rest, split_inclusive_callee}
use Rattle.std.specs.declared.slice.SplitInclusive.{SplitInclusive}
use denote.Param.Members.{Mut}
use Rattle.lines.specs.Text.{lines_of, lengthened, without_end}

-- the byte that ends a line, taken off or not there
pub end_taken : (l : List ℕ) → pointwise eqb (drop (length l - 1) l) (10 ∷ []) ≡ true → without_end l ≡ take (length l - 1) l
end_taken [] e = refl
end_taken (b ∷ []) e = cond-true _ [] (b ∷ []) (and_parts (eqb b 10) true e).0
end_taken (b ∷ c ∷ cs) e =
    let h = end_taken (c ∷ cs) (simp unary_clauses (simp unary_clauses at e)) in simp unary_clauses (ap (λ l. b ∷ l) (simp unary_clauses at h))

pub end_lacking : (l : List ℕ) → pointwise eqb (drop (length l - 1) l) (10 ∷ []) ≡ false → without_end l ≡ l
end_lacking [] e = refl
end_lacking (b ∷ []) e = elim (eqb b 10) as (λ v. ((v && true) ≡ false) → cond v [] (b ∷ []) ≡ b ∷ []) [ true ↦ λ n. absurd cc | false ↦ λ _. refl ] e
end_lacking (b ∷ c ∷ cs) e = ap (λ l. b ∷ l) (end_lacking (c ∷ cs) (simp unary_clauses (simp unary_clauses at e)))

-- l is cut off behind the first byte 10, and r is what follows
pub first_line : (l r : List ℕ) (i : ℕ) → 0 < length l → length l ≡ min (i + 1) (length (l ++ r)) → IsFirstMatchOrLen (λ b. b == 10) (l ++ r) i → lines_of (l ++ r) ≡ without_end l ∷ lines_of r
first_line [] r i some e h = absurd (omega arith)
first_line (b ∷ []) [] i some e h = elim (eqb b 10) as (λ v. cond v ([] ∷ []) ((b ∷ []) ∷ []) ≡ cond v [] (b ∷ []) ∷ []) [ true ↦ refl | false ↦ refl ]
first_line (b ∷ []) (c ∷ r) zero some e h = let ends = h.1 (omega arith) 0 in rw ends
first_line (b ∷ []) (c ∷ r) (suc i) some e h = absurd (omega arith)
first_line (b ∷ c ∷ cs) r zero some e h = absurd (omega arith)
first_line (b ∷ c ∷ cs) r (suc i) some e h =
    let goes_on = h.0 0 0 (omega arith) (omega arith) in
    let rest = first_line (c ∷ cs) r i (omega arith) (omega (arith, e)) (λ k d m l. h.0 (suc k) d (omega arith) (omega arith), λ l. h.1 (omega arith)) in
    cond-false _ ([] ∷ lines_of (c ∷ cs ++ r)) _ goes_on ∙ ap (lengthened b) rest

module _ {F : Type 0} (g : Mut F (Bor ℕ × Unit {0}) Bool) where
  -- what a call of `next` of `split_inclusive` gives
  abbrev pub cuts : SplitInclusive ℕ F → Option (Bor (List ℕ)) → SplitInclusive ℕ F → Type 0
  cuts s r t = MatchOption r ((length (split_inclusive_rest s) ≡ 0) × (t ≡ s))
      (λ x. (split_inclusive_rest s ≡ x.now ++ split_inclusive_rest t)
      × ((i : ℕ) × (length x.now ≡ min (i + 1) (length (split_inclusive_rest s)))
      × ((p : ℕ → Bool) → ComputesKey g p (split_inclusive_callee s) → ComputesKey g p (split_inclusive_callee t) × IsFirstMatchOrLen p (split_inclusive_rest s) i))
      × (0 < length (split_inclusive_rest s)))

  pub lines_cut : {s : SplitInclusive ℕ F} {f : F} (text : List ℕ) → split_inclusive_rest s ≡ text → split_inclusive_callee s ≡ f
      → ((x : ℕ) (b : Bool) (q : F) → CalledAt g f x b q → (q ≡ f) × (b ≡ (x == 10))) → YieldsList cuts (λ x. without_end x.now) s (lines_of text)
  lines_cut {s} {f} text rest closure tests =
      subst (λ t. YieldsList cuts (λ x. without_end x.now) s (lines_of t)) rest
      (YieldsList-from_shown_while cuts (λ x. without_end x.now) (λ t. lines_of (split_inclusive_rest t)) (λ t. ComputesKey g (λ b. b == 10) (split_inclusive_callee t))
      (λ t u h k. ap (λ l. length (lines_of l)) (nil_from_length _ k.0))
      (λ t x u h k. let m = k.1.2 (λ b. b == 10) h in (m.0, ap lines_of k.0 ∙ first_line x.now _ k.1.0 (omega arith) (rw k.0 at k.1.1) (subst (λ w. IsFirstMatchOrLen (λ b. b == 10) w k.1.0) k.0 m.1)))
      s (subst (ComputesKey g (λ b. b == 10)) (sym closure) (always_returns_same g (λ a r. r ≡ (a.0.now == 10)) f (λ a r q k. let m = tests a.0.now r q (record { shown = a.0; shows = refl; called = k }) in (m.1, m.0)))))
