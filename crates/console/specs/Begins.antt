-- What begin answers, and what is proved of the inspection that it opens. Assumes nothing.
use Rattle.std.specs.Prelude.{◌≡◌, ℕ, ◌≤◌, Bool, true, false, List, length, Ok, Err, Result}
use Rattle.film.specs.Refusals.{Answer, given, refused}
use Rattle.film.specs.Schemes.{SchemeMeaning, Lawful}
use Rattle.draws.specs.Counting.{count_below}
use Rattle.draws.specs.Draws.{DrawMeaning}
use Rattle.draws.specs.declared.entry.Entry.{Entry}
use Rattle.plans.specs.Plans.{PlanNumbers, samples_of}
use Rattle.plans.specs.Makes.{made}
use Rattle.plans.specs.Enclosure.{Encloses}
use Rattle.sampling.specs.Certifies.{certified_row}
use Rattle.inspection.specs.Answers.{when_given, open_table}
use Rattle.inspection.specs.Readings.{held_of, rule_of}
use Rattle.inspection.specs.Runs.{LawOfRuns}
use Rattle.inspection.specs.Tables.{Held}
use Rattle.inspection.specs.Views.{FalsePasses}
use Rattle.inspection.specs.declared.calls.Inspection.{Inspection}
use Rattle.console.specs.Faults.{console_refusal}
use Rattle.console.specs.Sessions.{passed_on, begin_answer}
use Rattle.console.specs.declared.begin.Terms.{Terms}
use Rattle.console.specs.declared.fault.ConsoleFault.{ConsoleFault}

-- what begin's result says
abbrev pub begin_reading : {R : Type 0} → Result (Inspection R) ConsoleFault → Answer Held
begin_reading (Ok i) = given (held_of i)
begin_reading (Err fault) = refused (console_refusal fault)

abbrev pub BeginsWith : {R : Type 0} → Result (Inspection R) ConsoleFault → R → Type 0
BeginsWith (Ok i) rule = rule_of i ≡ rule
BeginsWith (Err fault) rule = Unit {0}

-- a lower layer's answer, with the program's letter behind a refusal's
abbrev pub passed : {A : Type 0} → Answer A → Answer A
passed (given a) = given a
passed (refused r) = refused (passed_on r)

abbrev pub terms_answer : DrawMeaning → Terms → (low high : ℕ) → List Entry → Answer Held
terms_answer m t low high table =
    passed (begin_answer m t.number t.reel t.n1 t.ac1 t.re1 t.n2 t.ac2 t.tolerance t.limit low high table)

-- numbers that make no plan leave a row as found, and a plan leaves it as certify does; low and high are how many cells the rows have
abbrev pub plan_row : (up : Bool) → DrawMeaning → (N T limit low high : ℕ) → List ℕ → Answer PlanNumbers → List ℕ
plan_row up m N T limit low high old (given p) = certified_row up m N T limit p low high old
plan_row up m N T limit low high old (refused r) = old

abbrev pub terms_row : (up : Bool) → DrawMeaning → Terms → (low high : ℕ) → List ℕ → List ℕ
terms_row up m t low high old = plan_row up m t.reel t.tolerance t.limit low high old (made t.n1 t.ac1 t.re1 t.n2 t.ac2)

-- what begin leaves in both rows
pub record LeavesRows (m : DrawMeaning) (t : Terms) (low high low' high' : List ℕ) : Type 0 where
  pub low_row : low' ≡ terms_row false m t (length low) (length high) low
  pub high_row : high' ≡ terms_row true m t (length low) (length high) high

-- the three theorems of an inspection as it is opened
pub record Proved (m : DrawMeaning) (h : Held) (table : List Entry) : Type 0 where
  -- whichever frames are bad, as many as the tolerance, the exact chance of PASS lies in the enclosure, which is narrow
  pub enclosed : (is_bad : ℕ → Bool) → count_below is_bad h.terms.N ≡ h.terms.T → Encloses m h.terms.N is_bad (samples_of h.terms.plan) h.terms.lo h.terms.hi
  -- in any scheme that reaches the whole reel, whichever frames are bad, the tolerance or more, at most the limit's share of all lists ends in PASS
  pub share : (s : SchemeMeaning) → Lawful s → h.terms.N ≤ s.reach → (is_bad : ℕ → Bool) → h.terms.T ≤ count_below is_bad h.terms.N → FalsePasses m s h table is_bad
  -- and whatever calls follow, none is lost
  pub runs : LawOfRuns m h table

-- what begin promises; low and high are how many cells the rows have
pub record Begins (m : DrawMeaning) (t : Terms) (low high : ℕ) (table : List Entry) (answer : Answer Held) (left : List Entry) : Type 0 where
  pub value : answer ≡ terms_answer m t low high table
  pub table_left : left ≡ open_table table answer
  pub proved : when_given answer (λ h. Proved m h left)
