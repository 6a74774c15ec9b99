-- A drawn list viewed to its end by pull and mark, and the share of lists that end in a false PASS. Assumes nothing.
use Rattle.std.specs.Prelude.{◌≡◌, ℕ, ◌*◌, ◌≤◌, Bool, cond, List, ◌∷◌, length, Decides}
use Rattle.film.specs.Refusals.{given}
use Rattle.film.specs.Schemes.{SchemeMeaning, Lawful, addressed}
use Rattle.film.specs.declared.address.Address.{Address}
use Rattle.draws.specs.Counting.{count_in, count_below}
use Rattle.draws.specs.Draws.{DrawMeaning, Allowed, lists}
use Rattle.draws.specs.declared.entry.Entry.{Entry}
use Rattle.plans.specs.Plans.{samples_of}
use Rattle.plans.specs.Standings.{standing, true_marks}
use Rattle.plans.specs.Exact.{passes}
use Rattle.sampling.specs.Certified.{CertifiedFor}
use Rattle.inspection.specs.Tables.{Held, size_of}
use Rattle.inspection.specs.Answers.{Reported, Pulls, Marks, Stands}
use Rattle.inspection.specs.Runs.{Settled}
use Rattle.inspection.specs.declared.ticket.Mark.{Mark}
use Rattle.inspection.specs.declared.ticket.Mark.TheVariants.{Good, Bad}
use Rattle.inspection.specs.declared.ticket.Stub.{Stub}

-- the mark that a frame deserves
abbrev pub judgement : (is_bad : ℕ → Bool) → ℕ → Mark
judgement is_bad frame = cond (is_bad frame) Bad Good

-- the frames are pulled in turn by their addresses in the scheme, and each is marked truly at once with the ticket that
-- its pull answered, until standing answers PASS or REJECT
pub data Viewed (m : DrawMeaning) (s : SchemeMeaning) (is_bad : ℕ → Bool) : Held → List Entry → List ℕ → (end : ℕ) → Type 0 where
  ends : {h : Held} {table : List Entry} {frames : List ℕ} (report : Reported) → Stands h table (given report) → Settled report.code → Viewed m s is_bad h table frames report.code
  views : {h after : Held} {table sent left : List Entry} {frame : ℕ} {frames : List ℕ} {end : ℕ} (report : Reported) (a : Address) (t : Stub)
      → Stands h table (given report) → (Settled report.code → ⊥)
      → addressed s h.terms.N frame ≡ given a
      → Pulls m s h table a (given t) sent
      → Marks h sent t (judgement is_bad frame) (given tt) after left
      → Viewed m s is_bad after left frames end → Viewed m s is_bad h table (frame ∷ frames) end

-- a list that the rule may draw, as long as both samples together
pub record Drawable (m : DrawMeaning) (h : Held) (frames : List ℕ) : Type 0 where
  pub allowed : Allowed m h.terms.N frames
  pub long : length frames ≡ size_of h.terms

-- the share of false passes, from what open left, with these bad frames
pub record FalsePasses (m : DrawMeaning) (s : SchemeMeaning) (h : Held) (table : List Entry) (is_bad : ℕ → Bool) : Type 0 where
  -- every list is viewed to an end, which is the two-stage rule's on its true marks,
  pub viewed : (l : List ℕ) → Drawable m h l → Viewed m s is_bad h table l (standing (samples_of h.terms.plan) (true_marks is_bad l))
  -- PASS or REJECT,
  pub settles : (l : List ℕ) → Drawable m h l → Settled (standing (samples_of h.terms.plan) (true_marks is_bad l))
  -- and its only one
  pub only : (l : List ℕ) → Drawable m h l → (end : ℕ) → Viewed m s is_bad h table l end → end ≡ standing (samples_of h.terms.plan) (true_marks is_bad l)
  -- whichever test tells the lists that are viewed to PASS, they are at most the limit's share of all
  pub share : (passed : List ℕ → Bool) → ((l : List ℕ) → Drawable m h l → Decides (passed l) (Viewed m s is_bad h table l 1))
      → count_in passed (lists m h.terms.N (size_of h.terms)) * 1000000 ≤ h.terms.limit * length (lists m h.terms.N (size_of h.terms))
  -- and there is such a test
  pub told : (l : List ℕ) → Drawable m h l → Decides (passes (samples_of h.terms.plan) is_bad l) (Viewed m s is_bad h table l 1)

-- in any scheme that reaches the whole reel, whichever frames are bad, so long as they are as many as the plan is certified for
pub record Guarded (m : DrawMeaning) (h : Held) (table : List Entry) : Type 0 where
  pub share : CertifiedFor m h.terms → (s : SchemeMeaning) → Lawful s → h.terms.N ≤ s.reach → (is_bad : ℕ → Bool) → h.terms.T ≤ count_below is_bad h.terms.N → FalsePasses m s h table is_bad
