-- What a sampling plan is: the list of its samples, and when its five numbers agree. Assumes nothing.
use Rattle.std.specs.Prelude.{◌≡◌, ℕ, zero, suc, ◌+◌, ◌<◌, ◌≤◌, List, [], ◌∷◌}

-- one sample: how many frames it draws, the most bad frames (of all samples so far) that pass, and the least that reject
pub record Sample : Type 0 where
  pub size : ℕ
  pub accept : ℕ
  pub reject : ℕ

-- the numbers that a plan is written with
pub record PlanNumbers : Type 0 where
  pub n1 : ℕ
  pub ac1 : ℕ
  pub re1 : ℕ
  pub n2 : ℕ
  pub ac2 : ℕ

-- a single sample, as one number of frames and one accept number
abbrev pub single : (n c : ℕ) → List Sample
single n c = record { size = n; accept = c; reject = suc c } ∷ []

-- one sample where n2 is 0, else two; the last sample rejects whatever it does not accept
abbrev pub samples_by : (n1 ac1 re1 n2 ac2 : ℕ) → List Sample
samples_by n1 ac1 re1 zero ac2 = record { size = n1; accept = ac1; reject = re1 } ∷ []
samples_by n1 ac1 re1 (suc more) ac2 = record { size = n1; accept = ac1; reject = re1 } ∷ record { size = suc more; accept = ac2; reject = suc ac2 } ∷ []

abbrev pub samples_of : PlanNumbers → List Sample
samples_of p = samples_by p.n1 p.ac1 p.re1 p.n2 p.ac2

-- how many frames all samples draw together
abbrev pub total : List Sample → ℕ
total [] = 0
total (s ∷ []) = s.size
total (s ∷ next ∷ rest) = s.size + total (next ∷ rest)

-- the accept number of the last sample
abbrev pub last_accept : List Sample → ℕ
last_accept [] = 0
last_accept (s ∷ []) = s.accept
last_accept (s ∷ next ∷ rest) = last_accept (next ∷ rest)

-- no sample accepts more bad frames than this
abbrev pub AcceptsUpTo : ℕ → List Sample → Type 0
AcceptsUpTo most [] = Unit {0}
AcceptsUpTo most (s ∷ rest) = (s.accept ≤ most) × AcceptsUpTo most rest

-- the five numbers make a plan of one sample, or of two
abbrev pub AgreesBy : (ac1 re1 n2 ac2 : ℕ) → Type 0
AgreesBy ac1 re1 n2 ac2 = (n2 ≡ 0 → re1 ≡ ac1 + 1) × (n2 ≡ 0 → ac2 ≡ ac1) × (0 < n2 → ac1 + 2 ≤ re1) × (0 < n2 → re1 ≤ ac2 + 1)

-- the plans there are: some frame is drawn first, at most 32,768 in all, at most 255 bad ones pass, and the numbers agree
abbrev pub Agrees : (n1 ac1 re1 n2 ac2 : ℕ) → Type 0
Agrees n1 ac1 re1 n2 ac2 = (0 < n1) × (n1 + n2 ≤ 32768) × (ac2 ≤ 255) × AgreesBy ac1 re1 n2 ac2
