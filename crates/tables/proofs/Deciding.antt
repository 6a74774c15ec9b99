-- What a verdict tells of the figures of the two ends, and with that of every share between them. Assumes nothing.
use Rattle.std.proofs.Common.{◌≡◌, ℕ, zero, suc, ◌*◌, ◌<◌, ◌≤◌, Bool, true, false, cond, not, ◌&&◌, ◌||◌, ◌⊎◌, sym, ◌∙◌, inl, inr, mul-le-mul_right, mul-zero, mul_right_comm, le_of_mul-le-mul_right, arith}
use Rattle.std.proofs.lemmas.Bool.{leb-true, leb-false, cases_lt, cases_eq}
use Rattle.std.proofs.lemmas.Bool.Decides.{nat_tests}
use Rattle.plans.specs.Working.{whole}
use Rattle.sampling.specs.declared.chance.Ends.{Ends}
use Rattle.tables.specs.Figures.{rounded, Lies}
use Rattle.sampling.specs.Certifies.{is_within}
use Rattle.tables.specs.Verdicts.{by_figures, judged, SomeHas, SomeLacks, Judges, chosen, KeepsShare, Chosen}
use Rattle.tables.specs.declared.judging.Verdict.{Verdict}
use Rattle.tables.specs.declared.judging.Verdict.TheVariants.{Agree, Differs, Undecided}
use Rattle.tables.proofs.Rounding.{figure_above, figure_below, rounded_back, lies_back, lies_low, lies_high}

agreed_low : (f low high : ℕ) → by_figures f low high ≡ Agree → low ≡ f
agreed_low f low high e = grind (arith, nat_tests)

agreed_high : (f low high : ℕ) → by_figures f low high ≡ Agree → high ≡ f
agreed_high f low high e = grind (arith, nat_tests)

differed : (f low high : ℕ) → by_figures f low high ≡ Differs → low ≤ f → f ≤ high → ⊥
differed f low high e h k = grind (arith, nat_tests)

open_low : (f low high : ℕ) → by_figures f low high ≡ Undecided → low ≤ f
open_low f low high e = grind (arith, nat_tests)

open_high : (f low high : ℕ) → by_figures f low high ≡ Undecided → f ≤ high
open_high f low high e = grind (arith, nat_tests)

open_apart : (f low high : ℕ) → by_figures f low high ≡ Undecided → low ≡ f → high ≡ f → ⊥
open_apart f low high e h k = grind (arith, nat_tests)

-- in parts of nothing all shares have the figure 0, so there is something to decide only where the scale is above 0
no_scale : (lo hi f : ℕ) → by_figures f (rounded 0 lo whole) (rounded 0 hi whole) ≡ Undecided → ⊥
no_scale lo hi f e =
    let low : rounded 0 lo whole ≡ 0 = omega (arith, mul-zero (2 * lo)) in
    let high : rounded 0 hi whole ≡ 0 = omega (arith, mul-zero (2 * hi)) in
    let below = open_low f _ _ e in
    let above = open_high f _ _ e in
    open_apart f _ _ e (omega arith) (omega arith)

some_has : (s f lo hi : ℕ) → judged s f lo hi ≡ Undecided → lo ≤ hi → SomeHas s f lo hi
some_has s f lo hi e le = by (cases_lt (rounded s lo whole) f) (cases_lt f (rounded s hi whole))
  where
    scaled : (n : ℕ) → judged n f lo hi ≡ Undecided → 0 < n
    scaled zero e = absurd (no_scale lo hi f e)
    scaled (suc n) e = omega arith

    below : rounded s lo whole ≤ f
    below = open_low f _ _ e

    above : f ≤ rounded s hi whole
    above = open_high f _ _ e

    by : (rounded s lo whole < f) ⊎ (f ≤ rounded s lo whole) → (f < rounded s hi whole) ⊎ (rounded s hi whole ≤ f) → SomeHas s f lo hi
    by (inr h) k = (lo, (whole, (lies_low lo hi le, omega (arith, below, h))))
    by (inl h) (inr k) = (hi, (whole, (lies_high lo hi le, omega (arith, above, k))))
    by (inl h) (inl k) = (f, (s, (lies_back s f lo hi (scaled s e) h k, rounded_back s f (scaled s e))))

some_lacks : (s f lo hi : ℕ) → judged s f lo hi ≡ Undecided → lo ≤ hi → SomeLacks s f lo hi
some_lacks s f lo hi e le = by (cases_eq (rounded s lo whole) f)
  where
    by : (rounded s lo whole ≡ f) ⊎ (rounded s lo whole ≡ f → ⊥) → SomeLacks s f lo hi
    by (inl h) = (hi, (whole, (lies_high lo hi le, λ k. open_apart f _ _ e h k)))
    by (inr h) = (lo, (whole, (lies_low lo hi le, h)))

-- what judge promises, of a verdict by the two ends' figures
pub judges : (s f lo hi low high : ℕ) (v : Verdict) → low ≡ rounded s lo whole → high ≡ rounded s hi whole → v ≡ by_figures f low high → Judges s f lo hi v
judges s f lo hi low high v is_low is_high is =
    let value : v ≡ judged s f lo hi = cc in
    record {
      value = value;
      agree = λ e p a l. omega (arith, figure_above s lo hi p a l, figure_below s lo hi p a l, agreed_low f _ _ (sym value ∙ e), agreed_high f _ _ (sym value ∙ e));
      differs = λ e p a l same. differed f _ _ (sym value ∙ e) (omega (arith, figure_above s lo hi p a l, same)) (omega (arith, figure_below s lo hi p a l, same));
      undecided = λ e le. (some_has s f lo hi (sym value ∙ e) le, some_lacks s f lo hi (sym value ∙ e) le);
    }

-- a share below units that are within a limit keeps it
kept : (limit hi p a : ℕ) → p * whole ≤ hi * a → is_within limit hi ≡ true → KeepsShare limit p a
kept limit hi p a high within =
    let limited = mul-le-mul_right a (leb-true (hi * 1000000) (limit * whole) within) in
    let scaled = mul-le-mul_right 1000000 high in
    let both : p * 1000000 * whole ≤ limit * a * whole = omega (arith, limited, scaled, mul_right_comm hi 1000000 a, mul_right_comm limit whole a) in
    le_of_mul-le-mul_right {k = whole} both (omega arith)

-- and one above units that are not within it breaks it
broken : (limit lo p a : ℕ) → 0 < a → lo * a ≤ p * whole → is_within limit lo ≡ false → KeepsShare limit p a → ⊥
broken limit lo p a some low above keeps =
    let both : lo * 1000000 * a ≤ limit * whole * a = omega (arith, mul_right_comm lo 1000000 a, mul_right_comm limit whole a) in
    let within : lo * 1000000 ≤ limit * whole = le_of_mul-le-mul_right both some in
    omega (arith, leb-false (lo * 1000000) (limit * whole) above)

module _ (w x y z : Bool) where
  abbrev by_tests : Verdict
  by_tests = cond (w && not x) Agree (cond (not y || z) Differs Undecided)

  tests_kept : by_tests ≡ Agree → w ≡ true
  tests_kept e = grind (arith, nat_tests)

  tests_broken : by_tests ≡ Agree → x ≡ false
  tests_broken e = grind (arith, nat_tests)

  tests_differ : by_tests ≡ Differs → (y ≡ false) ⊎ (z ≡ true)
  tests_differ e = grind (arith, nat_tests)

-- what greatest promises
pub chooses : (limit : ℕ) (at next : Ends) (v : Verdict) → v ≡ chosen limit at next → Chosen limit at next v
chooses limit at next v is =
    let w = is_within limit at.hi in
    let x = is_within limit next.lo in
    let y = is_within limit at.lo in
    let z = is_within limit next.hi in
    record {
      value = is;
      keeps = λ e p a l. kept limit at.hi p a l.high (tests_kept w x y z (sym is ∙ e));
      breaks = λ e q b l. broken limit next.lo q b l.some l.low (tests_broken w x y z (sym is ∙ e));
      differs = λ e p a q b l k keeps breaks. by p a q b l k keeps breaks (tests_differ w x y z (sym is ∙ e));
    }
  where
    by : (p a q b : ℕ) → Lies at.lo at.hi p a → Lies next.lo next.hi q b → KeepsShare limit p a → (KeepsShare limit q b → ⊥) → (is_within limit at.lo ≡ false) ⊎ (is_within limit next.hi ≡ true) → ⊥
    by p a q b l k keeps breaks (inl above) = broken limit at.lo p a l.some l.low above keeps
    by p a q b l k keeps breaks (inr within) = breaks (kept limit next.hi q b k.high within)
