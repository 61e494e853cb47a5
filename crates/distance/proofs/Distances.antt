-- Each boundary that is a polynomial in p, worked out in f64, is accepted and lies within its stated distance of the exact temperature:
-- one law, and one computed test for each boundary. Assumes nothing.
use mathlib.Core.Path.{refl, sym, ◌∙◌, subst}
use Prim.Native.Nat.{ℕ, ◌*◌, ◌^◌, ◌≤◌}
use mathlib.Core.Bool.{false}
use lib.Dec.{T, ltb, ltb→lt, leb, leb→le}
use lib.Ieee.{Float, nan, inf, fin, binary64, round, neg, fits, le}
use lib.Ieee.Exact.{HasValue}
use lib.Ieee.Bits.{is_true}
use Rattle.common.specs.Outcome.{check}
use Rattle.common.specs.Decimal.{whole}
use Rattle.common.specs.Constant.{p_range_from, p_range_to}
use Rattle.common.specs.Sum.{every}
use Rattle.rounding.specs.Fraction.{Near, scaled_by}
use Rattle.rounding.proofs.Expressions.{float, always}
use Rattle.rounding.proofs.BoundBySize.{tight, expression_near}
use Rattle.rounding.proofs.Whole.{held_value}
use Rattle.boundaries.specs.Boundary.{boundary_of, boundary_rule}
use Rattle.distance.specs.Exact.{form, Polynomial, cd, ef, gh, ij, jk, mn, qu, rx, uv, Q, temperature}
use Rattle.distance.specs.Distance.{kind, top, distance, unit, Reaches}
use Rattle.distance.proofs.Kept.{bare_of}
use Rattle.distance.proofs.Expressions.{ex, written, form_check, form_same, taken, even, rows_ex, ef_ex}
use Rattle.distance.proofs.Pressure.{p_whole, p_upto, p_finite, p_box_lem}

-- What is computed of each boundary. No step overflows, each coefficient is near its decimal, and the error is at most the distance;
-- powers and exponents are those that the laws above take; the top lies in the box.
record Sure (b : Polynomial) : Type 0 where
  is_tight : T (tight (top b * 2 ^ 1074) (ex (form b)) (distance b) unit)
  is_taken : T (taken (form b))
  is_even : T (even (form b))
  some : T (ltb 0 (top b))
  few : T (leb (top b) 100)

abbrev passed : (b : Polynomial) → T (tight (top b * 2 ^ 1074) (ex (form b)) (distance b) unit) → T (taken (form b)) → T (even (form b)) → T (ltb 0 (top b))
    → T (leb (top b) 100) → Sure b
passed b a c d e f = record { is_tight = a; is_taken = c; is_even = d; some = e; few = f }

test : (b : Polynomial) → Sure b
unfolding tight form rows_ex ef_ex every round neg fits
test cd = passed cd tt tt tt tt tt
test ef = passed ef tt tt tt tt tt
test gh = passed gh tt tt tt tt tt
test ij = passed ij tt tt tt tt tt
test jk = passed jk tt tt tt tt tt
test mn = passed mn tt tt tt tt tt
test qu = passed qu tt tt tt tt tt
test rx = passed rx tt tt tt tt tt
test uv = passed uv tt tt tt tt tt

-- ---- the law
reached : (b : Polynomial) (P : ℕ) (y : Float) → Near y (temperature b P) (distance b) unit → Reaches b P (check y)
reached b P nan h = h
reached b P (inf s) h = h
reached b P (fin s m e) h = h

pub boundary_reaches : (b : Polynomial) (p : Float) (P : ℕ) → HasValue p false P Q → P ≤ top b * Q → Reaches b P (boundary_of (kind b) p)
unfolding temperature
boundary_reaches b p P h l =
    subst (Reaches b P) (sym (written b p ∙ form_check (form b) p (bare_of p P (top b) h l (leb→le (top b) 100 (test b).few)) (test b).is_taken))
    (reached b P (float (always p) (ex (form b)))
    (expression_near 0 (distance b) unit (held_value binary64 p P Q (2 ^ 1026) (top b) refl l h) (ex (form b)) (form_same (form b) P (test b).is_even)
    (test b).is_tight))

-- The call accepts every f64 p from 16.529 to the boundary's top, and its answer is within the boundary's distance of the exact temperature.
pub boundary_distance : (b : Polynomial) (p : Float) → T (fits binary64 p) → T (le p_range_from p) → T (le p (whole (top b)))
    → Reaches b (scaled_by 48 p) (boundary_rule (kind b) p)
unfolding boundary_rule
boundary_distance b p held from to =
    let some = ltb→lt 0 (top b) (test b).some in
    let few = leb→le (top b) 100 (test b).few in
    rw (p_finite p held (top b) some few from to, is_true (le p_range_from p) from, is_true (le p p_range_to) (p_box_lem p held (top b) some few from to))
    (boundary_reaches b p (scaled_by 48 p) (p_whole p held (top b) some few from to) (p_upto p held (top b) some few from to))
