-- Draw rules and schemes by their codes. Assumes nothing.
use Rattle.std.specs.Prelude.{◌≡◌, ℕ, List, ◌≢◌}
use Rattle.draws.specs.Draws.{DrawMeaning}
use Rattle.draws.specs.Rules.{without_replacement, with_replacement}
use Rattle.film.specs.Schemes.{SchemeMeaning, feet35, feet16, timecode24}

-- what holds of the rule with the code, or where no rule has it
pub record ByRule (code : ℕ) (Holds : DrawMeaning → Type 0) (Unknown : Type 0) : Type 0 where
  pub without : code ≡ 1 → Holds without_replacement
  pub if_with_replacement : code ≡ 2 → Holds with_replacement
  pub none : (code ≢ 1) → (code ≢ 2) → Unknown

-- and of the scheme with the code
pub record ByScheme (code : ℕ) (Holds : SchemeMeaning → Type 0) (Unknown : Type 0) : Type 0 where
  pub film35 : code ≡ 1 → Holds feet35
  pub film16 : code ≡ 2 → Holds feet16
  pub seconds24 : code ≡ 3 → Holds timecode24
  pub none : (code ≢ 1) → (code ≢ 2) → (code ≢ 3) → Unknown

-- the rows are left as found, and the answer says so much
pub record Kept (low high low' high' : List ℕ) (Answers : Type 0) : Type 0 where
  pub low_row : low' ≡ low
  pub high_row : high' ≡ high
  pub answer : Answers
