-- What is said of a published figure or accept number, and what that tells of every share in the enclosures. Assumes nothing.
use Rattle.std.specs.Prelude.{◌≡◌, ℕ, ◌-◌, ◌*◌, ◌≤◌, cond, not, ◌&&◌, ◌||◌, ◌==◌, ◌≢◌, nat_lt}
use Rattle.plans.specs.Working.{whole}
use Rattle.sampling.specs.Certifies.{is_within}
use Rattle.sampling.specs.declared.chance.Ends.{Ends}
use Rattle.tables.specs.Figures.{rounded, Lies}
use Rattle.tables.specs.declared.judging.Verdict.{Verdict}
use Rattle.tables.specs.declared.judging.Verdict.TheVariants.{Agree, Differs, Undecided}

-- the verdict on a published figure, by the figures of the two ends
abbrev pub by_figures : (published low high : ℕ) → Verdict
by_figures published low high =
    cond (low == published && high == published) Agree
    (cond (nat_lt published low || nat_lt high published) Differs Undecided)

abbrev pub judged : (scale published lo hi : ℕ) → Verdict
judged scale published lo hi = by_figures published (rounded scale lo whole) (rounded scale hi whole)

-- some share between the ends has the figure
abbrev pub SomeHas : (scale published lo hi : ℕ) → Type 0
SomeHas scale published lo hi = (p : ℕ) × ((a : ℕ) × (Lies lo hi p a × (rounded scale p a ≡ published)))

-- and some has another
abbrev pub SomeLacks : (scale published lo hi : ℕ) → Type 0
SomeLacks scale published lo hi = (p : ℕ) × ((a : ℕ) × (Lies lo hi p a × (rounded scale p a ≢ published)))

-- what judge promises: Agree and Differs hold of every share between the ends, and what is Undecided holds of some and not of others
pub record Judges (scale published lo hi : ℕ) (verdict : Verdict) : Type 0 where
  pub value : verdict ≡ judged scale published lo hi
  pub agree : verdict ≡ Agree → (p a : ℕ) → Lies lo hi p a → rounded scale p a ≡ published
  pub differs : verdict ≡ Differs → (p a : ℕ) → Lies lo hi p a → rounded scale p a ≢ published
  pub undecided : verdict ≡ Undecided → lo ≤ hi → SomeHas scale published lo hi × SomeLacks scale published lo hi

-- the enclosure of the rest of a whole
abbrev pub rest_of : Ends → Ends
rest_of ends = record { lo = whole - ends.hi; hi = whole - ends.lo }

-- what rest promises: where p of a lie in the enclosure, the other a − p lie in the rest's
pub record Rests (ends rest : Ends) : Type 0 where
  pub value : rest ≡ rest_of ends
  pub lies : (p a : ℕ) → Lies ends.lo ends.hi p a → Lies rest.lo rest.hi (a - p) a

-- the verdict on an accept number, by the enclosures at it and at the next: it is the greatest that keeps the limit
-- where the high end at it is within the limit and the low end at the next above
abbrev pub chosen : (limit : ℕ) → (at next : Ends) → Verdict
chosen limit at next =
    cond (is_within limit at.hi && not (is_within limit next.lo)) Agree
    (cond (not (is_within limit at.lo) || is_within limit next.hi) Differs Undecided)

-- at most so many millionths
abbrev pub KeepsShare : (limit p a : ℕ) → Type 0
KeepsShare limit p a = p * 1000000 ≤ limit * a

-- what greatest promises, of every share p / a at the accept number and q / b at the next
pub record Chosen (limit : ℕ) (at next : Ends) (verdict : Verdict) : Type 0 where
  pub value : verdict ≡ chosen limit at next
  pub keeps : verdict ≡ Agree → (p a : ℕ) → Lies at.lo at.hi p a → KeepsShare limit p a
  pub breaks : verdict ≡ Agree → (q b : ℕ) → Lies next.lo next.hi q b → KeepsShare limit q b → ⊥
  pub differs : verdict ≡ Differs → (p a q b : ℕ) → Lies at.lo at.hi p a → Lies next.lo next.hi q b → KeepsShare limit p a → (KeepsShare limit q b → ⊥) → ⊥

-- whether a number is the published one
abbrev pub same_number : (found published : ℕ) → Verdict
same_number found published = cond (found == published) Agree Differs

-- two things asked of one row
abbrev pub joined : Verdict → Verdict → Verdict
joined Agree second = second
joined Differs second = Differs
joined Undecided Agree = Undecided
joined Undecided Differs = Differs
joined Undecided Undecided = Undecided

-- how a row counts
abbrev pub one_if_agree : Verdict → ℕ
one_if_agree Agree = 1
one_if_agree Differs = 0
one_if_agree Undecided = 0
