-- How many frames a draw list rests on, and which lines name a frame again. Assumes nothing.
use Rattle.std.specs.Prelude.{◌≡◌, ℕ, ◌+◌, ◌≤◌, Bool, true, false, cond, List, [], ◌∷◌, ◌++◌, map, is_some, Some, None, count_by, position, unwrap_or, Option, ◌==◌}
use Rattle.std.specs.List.{range_with_len}
use Rattle.drawlist.specs.declared.row.Seen.{Seen}
use Rattle.drawlist.specs.declared.row.Tally.{Tally}
use Rattle.drawlist.specs.Rows.{Naming, frame, not_named, no_scheme, no_address, naming}

abbrev pub names : (f : ℕ) → Naming → Bool
names f (frame g) = g == f
names f (not_named r) = false
names f (no_scheme code) = false
names f no_address = false

-- the first of some lines that names the frame, from 0
abbrev pub first_naming : (f : ℕ) → List Naming → Option ℕ
first_naming f ns = position (names f) ns

-- the first line that names the frame of a line, where each frame's first line is given
abbrev pub known : Naming → (ℕ → Option ℕ) → Option ℕ
known (frame f) first = first f
known (not_named r) first = None
known (no_scheme code) first = None
known no_address first = None

-- each frame's first line, once line i is seen too
abbrev pub noted : Naming → (i : ℕ) → (ℕ → Option ℕ) → ℕ → Option ℕ
noted n i first f = cond (names f n) (Some (unwrap_or (first f) i)) (first f)

-- the line that named a line's frame before it, if one did
abbrev pub earlier : Naming → List Naming → Option ℕ
earlier n before = known n (λ f. first_naming f before)

-- and so for each of some lines, those before the first of them being given
abbrev pub earlier_of : (before : List Naming) → List Naming → List (Option ℕ)
earlier_of before [] = []
earlier_of before (n ∷ ns) = earlier n before ∷ earlier_of (before ++ n ∷ []) ns

abbrev pub is_address : Naming → Bool
is_address (frame f) = true
is_address (not_named r) = false
is_address (no_scheme code) = false
is_address no_address = false

abbrev pub is_refused : Naming → Bool
is_refused (frame f) = false
is_refused (not_named r) = true
is_refused (no_scheme code) = false
is_refused no_address = false

abbrev pub is_unreadable : Naming → Bool
is_unreadable (frame f) = false
is_unreadable (not_named r) = false
is_unreadable (no_scheme code) = true
is_unreadable no_address = true

-- the frames of a reel of N that some line names
abbrev pub frames_named : (N : ℕ) → List Naming → ℕ
frames_named N ns = count_by (λ f. is_some (first_naming f ns)) (range_with_len 0 N)

-- what a tally says of the lines
pub record Tallies (N : ℕ) (ns : List Naming) (t : Tally) : Type 0 where
  pub addresses : t.addresses ≡ count_by is_address ns
  pub frames : t.frames ≡ frames_named N ns
  pub refused : t.refused ≡ count_by is_refused ns
  pub unreadable : t.unreadable ≡ count_by is_unreadable ns

-- a tally with one line more, which names a new frame or not
pub record Counted (t : Tally) (n : Naming) (new : Bool) (after : Tally) : Type 0 where
  pub addresses : after.addresses ≡ t.addresses + cond (is_address n) 1 0
  pub frames : after.frames ≡ t.frames + cond (is_address n) (cond new 1 0) 0
  pub refused : after.refused ≡ t.refused + cond (is_refused n) 1 0
  pub unreadable : after.unreadable ≡ t.unreadable + cond (is_unreadable n) 1 0

-- a tally with room for n lines more
abbrev pub Room : Tally → ℕ → Type 0
Room t n = (t.addresses ≤ n) × (t.frames ≤ n) × (t.refused ≤ n) × (t.unreadable ≤ n)

-- what a survey says of the lines: what each names, which line named that frame before, and the counts
pub record Surveys (N : ℕ) (ns : List Naming) (seen : List Seen) (t : Tally) : Type 0 where
  pub rows : map (λ s. naming s.row) seen ≡ ns
  pub repeats : map (λ s. s.earlier) seen ≡ earlier_of [] ns
  pub tally : Tallies N ns t
