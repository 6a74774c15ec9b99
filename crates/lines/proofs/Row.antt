-- Numbers found so far, and those still to be read. Assumes nothing.
use Rattle.std.proofs.Common.{◌≡◌, ℕ, suc, List, [], ◌∷◌, ◌++◌, Some, None, Option, sym, refl, ap, ◌∙◌, append_assoc}
use Rattle.lines.specs.Text.{before, behind, number_of, put_first, numbers_of}

-- the numbers found, and then those of the rest, if it has them
abbrev pub after : List ℕ → Option (List ℕ) → Option (List ℕ)
after ns None = None
after ns (Some ms) = Some (ns ++ ms)

after_more : (ns : List ℕ) (n : ℕ) (o : Option (List ℕ)) → after ns (put_first (Some n) o) ≡ after (ns ++ n ∷ []) o
after_more ns n None = refl
after_more ns n (Some ms) = ap Some (sym (append_assoc ns (n ∷ []) ms))

-- one number more, where k are left to be read
pub one_number : (k m n : ℕ) (ns : List ℕ) (text : List ℕ) → k ≡ suc m → number_of (before 32 text) ≡ Some n → after ns (numbers_of k (Some text)) ≡ after (ns ++ n ∷ []) (numbers_of m (behind 32 text))
one_number k m n ns text e f = ap (λ j. after ns (numbers_of j (Some text))) e ∙ ap (λ o. after ns (put_first o (numbers_of m (behind 32 text)))) f ∙ after_more ns n _
