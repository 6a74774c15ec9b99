-- How the standing follows from each sample's bad frames, once all of its entries are marked. Assumes nothing.
use Rattle.std.specs.Prelude.{ℕ, suc, ◌+◌, cond, List, [], ◌∷◌, Some, None, Option, ◌==◌, nat_le}
use Rattle.draws.specs.Entries.{state_of}
use Rattle.draws.specs.declared.entry.State.{State}
use Rattle.draws.specs.declared.entry.State.TheVariants.{Empty, Out, Good, Bad}
use Rattle.draws.specs.declared.entry.Entry.{Entry}

abbrev pub one_more : Option ℕ → Option ℕ
one_more None = None
one_more (Some n) = Some (suc n)

abbrev pub add_mark : State → Option ℕ → Option ℕ
add_mark Empty behind = None
add_mark Out behind = None
add_mark Good behind = behind
add_mark Bad behind = one_more behind

-- the bad entries, if all are marked
abbrev pub bad_if_marked : List Entry → Option ℕ
bad_if_marked [] = Some 0
bad_if_marked (e ∷ es) = add_mark (state_of e) (bad_if_marked es)

-- the two-stage rule on the two counts
abbrev pub ruled_by : (ac1 re1 ac2 : ℕ) → (first second : Option ℕ) → ℕ
ruled_by ac1 re1 ac2 None second = 0
ruled_by ac1 re1 ac2 (Some bad) None = cond (nat_le bad ac1) 1 (cond (nat_le re1 bad) 2 3)
ruled_by ac1 re1 ac2 (Some bad) (Some more) = cond (nat_le bad ac1) 1 (cond (nat_le re1 bad) 2 (cond (nat_le (bad + more) ac2) 1 2))

-- PASS and REJECT stay
abbrev pub settled_by : (code now : ℕ) → ℕ
settled_by code now = cond (code == 1) 1 (cond (code == 2) 2 now)

-- so many bad entries before those
abbrev pub added : ℕ → Option ℕ → Option ℕ
added n None = None
added n (Some behind) = Some (n + behind)
