-- What a draw rule means, which drawn lists it allows, and what every rule owes. Assumes nothing.
use Rattle.std.specs.Prelude.{◌≡◌, ℕ, zero, suc, ◌<◌, ◌≤◌, Bool, true, false, not, ◌&&◌, List, [], ◌∷◌, ◌++◌, map, length, ◌==◌, ◌≢◌}
use Rattle.std.specs.List.{flat_map, AllByRecursion}
use Rattle.draws.specs.Counting.{count_below, count_in, all_below}

-- a rule, by what it answers: N is the reel's frames, D its bad ones, k the frames drawn, d the bad ones of these
pub record DrawMeaning : Type 0 where
  pub code : ℕ
  pub follows : (N : ℕ) (drawn : List ℕ) (frame : ℕ) → Bool
  pub longest : (N : ℕ) → ℕ
  pub good : (N D k d : ℕ) → ℕ
  pub bad : (N D k d : ℕ) → ℕ

-- a list of frames, in draw order, each of which the rule lets follow those before it
pub data Allowed (m : DrawMeaning) (N : ℕ) : List ℕ → Type 0 where
  none : Allowed m N []
  more : {drawn : List ℕ} {frame : ℕ} → Allowed m N drawn → m.follows N drawn frame ≡ true → Allowed m N (drawn ++ frame ∷ [])

-- every way to go on from a drawn list by one frame
abbrev pub onward : DrawMeaning → ℕ → List ℕ → List (List ℕ)
onward m N drawn = map (λ frame. drawn ++ frame ∷ []) (all_below (m.follows N drawn) N)

-- all allowed lists of k frames
unfoldable pub lists : DrawMeaning → ℕ → ℕ → List (List ℕ)
lists m N zero = [] ∷ []
lists m N (suc k) = flat_map (onward m N) (lists m N k)

-- how many of the drawn frames are bad
abbrev pub bad_in : (ℕ → Bool) → List ℕ → ℕ
bad_in is_bad drawn = count_in is_bad drawn

-- of the allowed lists of k frames that pass a test, those with d bad frames
abbrev pub cell : DrawMeaning → ℕ → (List ℕ → Bool) → (ℕ → Bool) → ℕ → ℕ → ℕ
cell m N w is_bad k d = count_in (λ l. w l && bad_in is_bad l == d) (lists m N k)

-- two lists hold the same numbers in the same order
abbrev pub same_list : List ℕ → List ℕ → Bool
same_list [] [] = true
same_list [] (y ∷ ys) = false
same_list (x ∷ xs) [] = false
same_list (x ∷ xs) (y ∷ ys) = x == y && same_list xs ys

-- the enumeration and the predicate agree
pub record Enumerates (m : DrawMeaning) (N : ℕ) : Type 0 where
  -- what is listed is allowed, and of k frames
  pub listed : (k : ℕ) → AllByRecursion (λ l. Allowed m N l × (length l ≡ k)) (lists m N k)
  -- an allowed list of k frames is listed exactly once
  pub once : (k : ℕ) (l : List ℕ) → Allowed m N l → length l ≡ k → count_in (λ x. same_list x l) (lists m N k) ≡ 1

-- a reel's size
pub record Reel (N : ℕ) : Type 0 where
  pub some : 0 < N
  pub few : N ≤ 1000000

-- what every rule owes, on every reel
pub record Lawful (m : DrawMeaning) : Type 0 where
  -- only frames of the reel are drawn
  pub inside : (N : ℕ) → Reel N → (drawn : List ℕ) (frame : ℕ) → m.follows N drawn frame ≡ true → frame < N
  -- a longest list has a frame at least
  pub grows : (N : ℕ) → Reel N → 0 < m.longest N
  -- some frame may follow a shorter list, and as many follow each list of that length
  pub some_follow : (N k : ℕ) → Reel N → k < m.longest N → 0 < m.good N 0 k 0
  pub alike : (N : ℕ) → Reel N → (drawn : List ℕ) → Allowed m N drawn → length drawn < m.longest N → count_below (m.follows N drawn) N ≡ m.good N 0 (length drawn) 0
  -- nothing follows a longest list
  pub ends : (N : ℕ) → Reel N → (drawn : List ℕ) → Allowed m N drawn → length drawn ≡ m.longest N → (frame : ℕ) → m.follows N drawn frame ≡ false
  -- whichever frames are bad, the two counts are those of the good and the bad frames that may follow
  pub good_right : (N : ℕ) → Reel N → (is_bad : ℕ → Bool) (drawn : List ℕ) → Allowed m N drawn → m.good N (count_below is_bad N) (length drawn) (bad_in is_bad drawn) ≡ count_below (λ f. m.follows N drawn f && not (is_bad f)) N
  pub bad_right : (N : ℕ) → Reel N → (is_bad : ℕ → Bool) (drawn : List ℕ) → Allowed m N drawn → m.bad N (count_below is_bad N) (length drawn) (bad_in is_bad drawn) ≡ count_below (λ f. m.follows N drawn f && is_bad f) N
  -- where no allowed list has k frames of which d are bad, both counts are 0
  pub none_right : (N D k d : ℕ) → Reel N → ((is_bad : ℕ → Bool) (drawn : List ℕ) → count_below is_bad N ≡ D → Allowed m N drawn → length drawn ≡ k → bad_in is_bad drawn ≢ d) → (m.good N D k d ≡ 0) × (m.bad N D k d ≡ 0)
