-- The worked values. Assumes nothing.
use Rattle.std.proofs.Common.{◌≡◌, ℕ, ◌<◌, ◌≤◌, min, sym, refl, ap, lit<, lit≤}
use Rattle.film.specs.Schemes.{regular, at, located, addressed, unit_frame, unit_address}
use Rattle.film.specs.declared.address.Address.{Address}
use Rattle.film.specs.Regular.{regular_lawful, regular_in_units}
use Rattle.film.proofs.Single.{unit_located, unit_addressed}
use Rattle.film.specs.Refusals.{given}
use Rattle.draws.specs.Rules.{without_replacement}
use Rattle.plans.specs.Plans.{single}
use Rattle.plans.specs.Working.{low_of, high_of}
use Rattle.plans.proofs.Worked.{examples}
use Rattle.sampling.specs.Certifies.{judged}
use Rattle.sampling.specs.declared.chance.Ends.{Ends}
use Rattle.console.specs.Worked.{Worked, one_frame}

-- a frame and an address of a reel of 1,000, by the frames to the unit
frame_at : (code F reach : ℕ) → (F_some : 0 < F) (F_few : F ≤ 256) → (a : Address) → located (regular code F reach) 1000 a ≡ unit_frame F (min 1000 reach) a
frame_at code F reach some few a = sym (unit_located (regular code F reach) (regular_lawful code F reach some few) 1000 F (regular_in_units code F reach) (min 1000 reach) refl a)

address_at_lem : (code F reach : ℕ) → (F_some : 0 < F) (F_few : F ≤ 256) → (frame : ℕ) → addressed (regular code F reach) 1000 frame ≡ unit_address F (min 1000 reach) frame
address_at_lem code F reach some few frame = sym (unit_addressed (regular code F reach) (regular_lawful code F reach some few) 1000 F (regular_in_units code F reach) (min 1000 reach) refl frame)

ends_are : ◌≡◌ {A = Ends} (record { lo = low_of without_replacement 10 3 (single 1 0); hi = high_of without_replacement 10 3 (single 1 0) }) (record { lo = 769658139443; hi = 769658139444 })
ends_are = λ i. record { lo = examples.one_low i; hi = examples.one_high i }

pub worked : Worked
worked = record {
  film35 = (frame_at 1 16 1000000 (lit< tt) (lit≤ tt) (at 6 4), address_at_lem 1 16 1000000 (lit< tt) (lit≤ tt) 100);
  film16 = (frame_at 2 40 1000000 (lit< tt) (lit≤ tt) (at 2 20), address_at_lem 2 40 1000000 (lit< tt) (lit≤ tt) 100);
  seconds24 = (frame_at 3 24 2073600 (lit< tt) (lit≤ tt) (at 4 4), address_at_lem 3 24 2073600 (lit< tt) (lit≤ tt) 100);
  no_part = frame_at 1 16 1000000 (lit< tt) (lit≤ tt) (at 0 16);
  above = ap (λ e. judged 10 3 699999 one_frame (given e)) ends_are;
  close = ap (λ e. judged 10 3 700000 one_frame (given e)) ends_are;
  within = ap (λ e. judged 10 3 700001 one_frame (given e)) ends_are;
  samples = examples;
}
