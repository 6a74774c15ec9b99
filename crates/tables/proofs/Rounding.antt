-- Of two shares the larger has no smaller figure, and so every share between two ends has a figure between theirs. Assumes nothing.
use Rattle.std.proofs.Common.{◌≡◌, ℕ, ◌+◌, ◌-◌, ◌*◌, ◌/◌, ◌<◌, ◌≤◌, ◌∙◌, mul-le-mul_right, mul_assoc, mul_comm, add-mul, mul-le-mul_left, le-div_iff_mul-le, mul_right_comm, div-mul-le_self, le_of_mul-le-mul_right, arith}
use native.Mathlib.Nat.{mul-sub, div-eq_of_lt-le}
use Rattle.plans.specs.Working.{whole}
use Rattle.tables.specs.Figures.{rounded, Lies}

-- twice p parts of a scale, over another share's whole
crossed : (s p b : ℕ) → 2 * p * s * b ≡ 2 * (p * b) * s
crossed s p b = rw (mul_right_comm (2 * p) s b, mul_assoc 2 p b)

pub rounded_grows : (s p a q b : ℕ) → 0 < a → 0 < b → p * b ≤ q * a → rounded s p a ≤ rounded s q b
rounded_grows s p a q b some_a some_b le =
    let k : ℕ = (2 * p * s + a) / (2 * a) in
    let below : k * (2 * a) * b ≤ (2 * p * s + a) * b = mul-le-mul_right b (div-mul-le_self (2 * p * s + a) (2 * a)) in
    let grown : 2 * (p * b) * s ≤ 2 * (q * a) * s = mul-le-mul_right s (mul-le-mul_left 2 le) in
    let turned : k * (2 * b) * a ≡ k * (2 * a) * b = rw (mul_assoc k (2 * b) a, mul_assoc k (2 * a) b, mul_right_comm 2 b a) in
    let both : k * (2 * b) * a ≤ (2 * q * s + b) * a =
    omega (arith, below, grown, turned, add-mul (2 * p * s) a b, add-mul (2 * q * s) b a, crossed s p b, crossed s q a, mul_comm a b) in
    (le-div_iff_mul-le {k = 2 * b} {x = k} {y = 2 * q * s + b} (omega arith)).1 (le_of_mul-le-mul_right both some_a)

module _ (s lo hi p a : ℕ) (l : Lies lo hi p a) where
  pub figure_above : rounded s lo whole ≤ rounded s p a
  figure_above = rounded_grows s lo whole p a (omega arith) l.some l.low

  pub figure_below : rounded s p a ≤ rounded s hi whole
  figure_below = rounded_grows s p a hi whole l.some (omega arith) l.high

-- the share published / scale has the published figure
pub rounded_back : (s f : ℕ) → 0 < s → rounded s f s ≡ f
rounded_back s f some = div-eq_of_lt-le {k = f} (2 * s) {m = 2 * f * s + s} (omega (arith, same)) (omega (arith, same, add-mul f 1 (2 * s)))
  where
    same : f * (2 * s) ≡ 2 * f * s
    same = rw (← mul_assoc f 2 s, mul_comm f 2)

-- and lies between ends whose figures are below and above it
pub lies_back : (s f lo hi : ℕ) → 0 < s → rounded s lo whole < f → f < rounded s hi whole → Lies lo hi f s
lies_back s f lo hi some low high =
    record { some = some; low = omega (arith, mul_assoc 2 lo s); high = omega (arith, mul_assoc 2 hi s) }

-- each end lies in the enclosure
pub lies_low : (lo hi : ℕ) → lo ≤ hi → Lies lo hi lo whole
lies_low lo hi le = record { some = omega arith; low = omega arith; high = mul-le-mul_right whole le }

pub lies_high : (lo hi : ℕ) → lo ≤ hi → Lies lo hi hi whole
lies_high lo hi le = record { some = omega arith; low = mul-le-mul_right whole le; high = omega arith }

-- the rest of a share lies in the rest of its enclosure
pub lies_rest : (lo hi p a : ℕ) → Lies lo hi p a → Lies (whole - hi) (whole - lo) (a - p) a
lies_rest lo hi p a l =
    record {
      some = l.some;
      low = omega (arith, l.high, sub_times whole hi a, sub_times a p whole, mul_comm a whole);
      high = omega (arith, l.low, sub_times whole lo a, sub_times a p whole, mul_comm a whole);
    }
  where
    sub_times : (m n k : ℕ) → (m - n) * k ≡ m * k - n * k
    sub_times m n k = mul_comm (m - n) k ∙ mul-sub k m n ∙ cc (mul_comm k m, mul_comm k n)
