-- What the rows of the two tables say, and that what is worked out and answered of a row is true of it. Assumes nothing.
use Rattle.std.specs.Prelude.{◌≡◌, ℕ, ◌+◌, ◌-◌, ◌<◌, Bool}
use Rattle.film.specs.Refusals.{given}
use Rattle.draws.specs.Counting.{count_below}
use Rattle.draws.specs.Draws.{DrawMeaning}
use Rattle.draws.specs.Rules.{with_replacement, without_replacement}
use Rattle.plans.specs.Plans.{single}
use Rattle.plans.specs.Exact.{all, passing}
use Rattle.plans.specs.Working.{low_of, high_of}
use Rattle.plans.specs.Limits.{Keeps, Smallest}
use Rattle.sampling.specs.Searches.{Truly}
use Rattle.sampling.specs.declared.chance.Ends.{Ends}
use Rattle.tables.specs.Figures.{rounded, Lies}
use Rattle.tables.specs.Verdicts.{judged, rest_of, chosen, same_number, joined}
use Rattle.tables.specs.declared.judging.Verdict.TheVariants.{Agree, Differs}
use Rattle.tables.specs.declared.published.SampleRow.{SampleRow}
use Rattle.tables.specs.declared.published.AcceptRow.{AcceptRow}
use Rattle.tables.specs.declared.samples.WorkedSample.{WorkedSample}
use Rattle.tables.specs.declared.accepts.WorkedAccept.{WorkedAccept}

-- the two ends worked out for a sample of n items that accepts c bad ones; whichever D items are bad, the share of the draws that pass lies between them
pub record EnclosedSingle (m : DrawMeaning) (N D n c : ℕ) (ends : Ends) : Type 0 where
  pub value : ends ≡ record { lo = low_of m N D (single n c); hi = high_of m N D (single n c) }
  pub lies : (is_bad : ℕ → Bool) → count_below is_bad N ≡ D → Lies ends.lo ends.hi (passing m N is_bad (single n c)) (all m N (single n c))

-- a row of the table of samples, of 1066 items: n is the smallest sample that accepts no bad item and passes at most 5% of
-- the time, and the share of the draws that do not pass has the confidence's nine places
pub record SampleSays (is_bad : ℕ → Bool) (n confidence : ℕ) : Type 0 where
  pub smallest : Smallest without_replacement 1066 is_bad 0 50000 n
  pub figure : rounded 1000000000 (all without_replacement 1066 (single n 0) - passing without_replacement 1066 is_bad (single n 0)) (all without_replacement 1066 (single n 0)) ≡ confidence

-- what work_sample promises: what it found and enclosed, the verdict by these, and that agree and differs are true of the row whichever items are bad
pub record SampleWorked (row : SampleRow) (worked : WorkedSample) : Type 0 where
  pub same : worked.row ≡ row
  pub found : Truly without_replacement 1066 row.bad 50000 0 (given worked.sample)
  pub enclosed : EnclosedSingle without_replacement 1066 row.bad row.sample 0 worked.passing
  pub verdict : worked.verdict ≡ joined (same_number worked.sample row.sample) (judged 1000000000 row.confidence (rest_of worked.passing).lo (rest_of worked.passing).hi)
  pub agree : worked.verdict ≡ Agree → (is_bad : ℕ → Bool) → count_below is_bad 1066 ≡ row.bad → SampleSays is_bad row.sample row.confidence
  pub differs : worked.verdict ≡ Differs → (is_bad : ℕ → Bool) → count_below is_bad 1066 ≡ row.bad → SampleSays is_bad row.sample row.confidence → ⊥

-- of the samples of n items, c is the greatest accept number that keeps the limit
pub record Greatest (m : DrawMeaning) (N : ℕ) (is_bad : ℕ → Bool) (n limit c : ℕ) : Type 0 where
  pub keeps : Keeps m N is_bad (single n c) limit
  pub more : (k : ℕ) → c < k → Keeps m N is_bad (single n k) limit → ⊥

-- a row of the table of accept numbers, of 1,000,000 items: c is the greatest accept number at which a sample of n passes the
-- bad lot at most 5% of the time, and the share of the draws that pass the row's own lot has the probability's four places
pub record AcceptSays (bad_lot own_lot : ℕ → Bool) (n c probability : ℕ) : Type 0 where
  pub greatest : Greatest with_replacement 1000000 bad_lot n 50000 c
  pub figure : rounded 10000 (passing with_replacement 1000000 own_lot (single n c)) (all with_replacement 1000000 (single n c)) ≡ probability

-- what work_accept promises, whichever 1000 items are bad in the bad lot, and as many as the quality says in the row's own
pub record AcceptWorked (row : AcceptRow) (worked : WorkedAccept) : Type 0 where
  pub same : worked.row ≡ row
  pub at_it : EnclosedSingle with_replacement 1000000 1000 row.sample row.accept worked.at
  pub at_next : EnclosedSingle with_replacement 1000000 1000 row.sample (row.accept + 1) worked.next
  pub enclosed : EnclosedSingle with_replacement 1000000 row.quality row.sample row.accept worked.passing
  pub shown : worked.greatest ≡ chosen 50000 worked.at worked.next
  pub verdict : worked.verdict ≡ joined worked.greatest (judged 10000 row.probability worked.passing.lo worked.passing.hi)
  pub agree : worked.verdict ≡ Agree → (bad_lot own_lot : ℕ → Bool) → count_below bad_lot 1000000 ≡ 1000 → count_below own_lot 1000000 ≡ row.quality → AcceptSays bad_lot own_lot row.sample row.accept row.probability
  pub differs : worked.verdict ≡ Differs → (bad_lot own_lot : ℕ → Bool) → count_below bad_lot 1000000 ≡ 1000 → count_below own_lot 1000000 ≡ row.quality → AcceptSays bad_lot own_lot row.sample row.accept row.probability → ⊥
