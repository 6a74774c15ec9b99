-- What the two-stage rule says of true marks, sample by sample. Assumes nothing.
use Rattle.std.proofs.Common.{◌≡◌, ℕ, zero, suc, ◌+◌, ◌≤◌, Bool, true, cond, not, ◌&&◌, eqb, leb, List, [], ◌∷◌, length, take, drop, refl, arith, take-add}
use Rattle.std.proofs.lemmas.List.{drop-map, drop-drop, length-drop}
use Rattle.draws.specs.Counting.{count_in}
use Rattle.draws.specs.Draws.{bad_in}
use Rattle.draws.specs.Tallies.{count_in_append}
use Rattle.plans.specs.Plans.{Sample}
use Rattle.plans.specs.Standings.{is_bad_mark, marked_up_to, ruling, true_mark, true_marks}

module _ (is_bad : ℕ → Bool) where
  -- true marks leave no frame unmarked
  pub true_marked : (n : ℕ) (drawn : List ℕ) → n ≤ length drawn → marked_up_to n (true_marks is_bad drawn) ≡ true
  true_marked zero drawn h = refl
  true_marked (suc n) [] h = absurd (omega arith)
  true_marked (suc n) (f ∷ drawn) h = grind (arith, true_marked n drawn)

  -- the bad marks are those of the bad frames
  pub true_bad : (n : ℕ) (drawn : List ℕ) → count_in is_bad_mark (take n (true_marks is_bad drawn)) ≡ bad_in is_bad (take n drawn)
  true_bad zero drawn = refl
  true_bad (suc n) [] = refl
  true_bad (suc n) (f ∷ drawn) = grind (arith, true_bad n drawn)

  -- what follows once a sample is full
  abbrev pub judged : Sample → List Sample → (stage bads : ℕ) → List ℕ → ℕ
  judged s rest stage bads behind = cond (leb bads s.accept) 1 (cond (leb s.reject bads) 2 (ruling rest (suc stage) bads (true_marks is_bad behind)))

  pub ruling_true : (s : Sample) (rest : List Sample) (stage bads : ℕ) (drawn : List ℕ) → s.size ≤ length drawn → ruling (s ∷ rest) stage bads (true_marks is_bad drawn) ≡ judged s rest stage (bads + bad_in is_bad (take s.size drawn)) (drop s.size drawn)
  ruling_true s rest stage bads drawn h = grind (arith, true_marked s.size drawn, true_bad s.size drawn, drop-map (true_mark is_bad) s.size drawn)

  -- a list's first frames, cut in two
  pub bad_two : (n k : ℕ) (drawn : List ℕ) → bad_in is_bad (take n drawn) + bad_in is_bad (take k (drop n drawn)) ≡ bad_in is_bad (take (n + k) drawn)
  bad_two n k drawn = grind (arith, take-add n k drawn, count_in_append is_bad (take n drawn) (take k (drop n drawn)))

  -- the ruling from a sample on, of a list of which some frames are drawn before
  pub ruling_on : (s : Sample) (rest : List Sample) (stage from : ℕ) (drawn : List ℕ) → from + s.size ≤ length drawn → ruling (s ∷ rest) stage (bad_in is_bad (take from drawn)) (true_marks is_bad (drop from drawn)) ≡ judged s rest stage (bad_in is_bad (take (from + s.size) drawn)) (drop (from + s.size) drawn)
  ruling_on s rest stage from drawn h =
      grind (arith, ruling_true s rest stage (bad_in is_bad (take from drawn)) (drop from drawn), length-drop from drawn, bad_two from s.size drawn, drop-drop s.size from drawn)

-- a sample's count goes on to the next sample
abbrev pub between : Sample → ℕ → Bool
between s bads = not (leb bads s.accept) && not (leb s.reject bads)

-- a list that ends in PASS is accepted by this sample, or goes on and then ends so
pub accepted_or_on : (w x y : Bool) (r : ℕ) → cond {A = ℕ} (w && eqb (cond x 1 (cond y 2 r)) 1) 1 0 ≡ cond (w && x) 1 0 + cond ((w && (not x && not y)) && eqb r 1) 1 0
accepted_or_on w x y r = grind arith
