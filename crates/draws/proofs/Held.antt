-- Some entry has a frame where the frame is among theirs.
use Rattle.std.proofs.Common.{◌≡◌, ℕ, ◌||◌, min, List, [], ◌∷◌, length, take, refl, ap, arith}
use Rattle.std.specs.Prelude.{◌==◌}
use Rattle.std.specs.List.{list_any}
use Rattle.std.proofs.lemmas.List.{take_min}
use Rattle.draws.specs.Entries.{frames_of}
use Rattle.draws.specs.Rules.{holds}
use Rattle.draws.specs.declared.entry.Entry.{Entry}

any_holds : (frame : ℕ) (es : List Entry) → list_any (λ (e : Entry). frame == e.frame) es ≡ holds frame (frames_of es)
any_holds frame [] = refl
any_holds frame (e ∷ es) = ap (λ b. frame == e.frame || b) (any_holds frame es)

-- of the first n entries, or of all
pub holds_first : (frame n : ℕ) (es : List Entry) → holds frame (frames_of (take n es)) ≡ list_any (λ (e : Entry). frame == e.frame) (take (min n (length es)) es)
holds_first frame n es = grind (arith, any_holds frame (take n es), take_min n es)
