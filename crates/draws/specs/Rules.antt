-- What the two draw rules mean, in plain numbers. Assumes nothing.
use Rattle.std.specs.Prelude.{ℕ, ◌-◌, Bool, false, cond, not, ◌&&◌, ◌||◌, List, [], ◌∷◌, length, ◌==◌, nat_le, nat_lt}
use Rattle.draws.specs.Draws.{DrawMeaning}

-- a frame is among those drawn
abbrev pub holds : ℕ → List ℕ → Bool
holds frame [] = false
holds frame (x ∷ xs) = frame == x || holds frame xs

-- N frames of which D are bad can give k frames of which d are bad, none of them twice
abbrev pub gives_once : (N D k d : ℕ) → Bool
gives_once N D k d = nat_le d k && (nat_le d D && (nat_le D N && nat_le (k - d) (N - D)))

-- drawing without replacement: a frame follows if it was not drawn before
abbrev pub without_replacement : DrawMeaning
without_replacement = record {
  code = 1;
  follows = λ N drawn frame. nat_lt frame N && not (holds frame drawn);
  longest = λ N. N;
  good = λ N D k d. cond (gives_once N D k d) ((N - D) - (k - d)) 0;
  bad = λ N D k d. cond (gives_once N D k d) (D - d) 0;
}

-- N frames of which D are bad can give k frames of which d are bad, each as often as it comes, and a frame more
abbrev pub gives_again : (N D k d : ℕ) → Bool
gives_again N D k d = nat_lt k 32768 && (nat_le d k && (nat_le D N && ((d == 0 || nat_lt 0 D) && (d == k || nat_lt D N))))

-- drawing with replacement: every frame follows a list shorter than the longest
abbrev pub with_replacement : DrawMeaning
with_replacement = record {
  code = 2;
  follows = λ N drawn frame. nat_lt frame N && nat_lt (length drawn) 32768;
  longest = λ _. 32768;
  good = λ N D k d. cond (gives_again N D k d) (N - D) 0;
  bad = λ N D k d. cond (gives_again N D k d) D 0;
}
