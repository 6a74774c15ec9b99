-- What standing a list of marks gives under a plan's samples. Assumes nothing.
use Rattle.std.specs.Prelude.{ℕ, zero, suc, ◌+◌, Bool, true, false, cond, ◌&&◌, List, [], ◌∷◌, map, take, drop, nat_le}
use Rattle.draws.specs.Counting.{count_in}
use Rattle.draws.specs.declared.entry.State.{State}
use Rattle.draws.specs.declared.entry.State.TheVariants.{Empty, Out, Good, Bad}
use Rattle.plans.specs.Plans.{Sample}

-- a viewer has judged the frame
abbrev pub is_marked : State → Bool
is_marked Empty = false
is_marked Out = false
is_marked Good = true
is_marked Bad = true

abbrev pub is_bad_mark : State → Bool
is_bad_mark Empty = false
is_bad_mark Out = false
is_bad_mark Good = false
is_bad_mark Bad = true

-- the first n entries stand there, and all are marked
abbrev pub marked_up_to : ℕ → List State → Bool
marked_up_to zero marks = true
marked_up_to (suc n) [] = false
marked_up_to (suc n) (mark ∷ marks) = is_marked mark && marked_up_to n marks

-- the code of a standing that waits for a sample: OPEN for the first, SECOND for the second
abbrev pub waiting : (stage : ℕ) → ℕ
waiting zero = 0
waiting (suc stage) = 3 + stage

-- the standing's code from a stage on, with the bad frames of the samples before: 1 is PASS, 2 is REJECT
abbrev pub ruling : List Sample → (stage bads : ℕ) → List State → ℕ
ruling [] stage bads marks = 2
ruling (s ∷ rest) stage bads marks =
    cond (marked_up_to s.size marks)
    (cond (nat_le (bads + count_in is_bad_mark (take s.size marks)) s.accept) 1
    (cond (nat_le s.reject (bads + count_in is_bad_mark (take s.size marks))) 2
    (ruling rest (suc stage) (bads + count_in is_bad_mark (take s.size marks)) (drop s.size marks))))
    (waiting stage)

-- the standing's code: 0 OPEN, 1 PASS, 2 REJECT, 3 SECOND
abbrev pub standing : List Sample → List State → ℕ
standing samples marks = ruling samples 0 0 marks

-- the mark that a frame deserves
abbrev pub true_mark : (is_bad : ℕ → Bool) → ℕ → State
true_mark is_bad frame = cond (is_bad frame) Bad Good

-- the marks that drawn frames deserve, in order
abbrev pub true_marks : (is_bad : ℕ → Bool) → List ℕ → List State
true_marks is_bad drawn = map (true_mark is_bad) drawn
