-- How many numbers below N, or members of a list, pass a test. Assumes nothing.
use Rattle.std.specs.Prelude.{ℕ, zero, suc, ◌+◌, Bool, cond, List, [], ◌∷◌}

-- how many numbers below n pass the test
abbrev pub count_below : (ℕ → Bool) → ℕ → ℕ
count_below test zero = 0
count_below test (suc n) = cond (test n) 1 0 + count_below test n

-- how many members of a list pass the test
abbrev pub count_in : {A : Type 0} → (A → Bool) → List A → ℕ
count_in test [] = 0
count_in test (x ∷ xs) = cond (test x) 1 0 + count_in test xs

-- the numbers below n that pass the test, each once
abbrev pub all_below : (ℕ → Bool) → ℕ → List ℕ
all_below test zero = []
all_below test (suc n) = cond (test n) (n ∷ all_below test n) (all_below test n)
