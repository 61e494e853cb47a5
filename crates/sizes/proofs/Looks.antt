-- What the tests of an r and of a base say: that r is subnormal, and that the base is not 0. Assumes nothing.
use mathlib.Core.Path.{◌≡◌, refl, ap}
use mathlib.Core.Bool.{Bool, true, false, not, ◌&&◌, ◌||◌, beq}
use Prim.Native.Nat.{ℕ, ◌+◌, ◌*◌, ◌^◌, ◌<◌}
use native.Mathlib.Nat.{mul-pos, one-mul}
use native.Mathlib.Omega.{arith}
use lib.Dec.{eqb, ltb}
use lib.IntN.{pos, negsuc}
use lib.Ieee.{Float, nan, inf, fin, up, down, lt, eq, ne}
use lib.Ieee.Fits.{up_pos, down_pos}
use borrow.Author.Tests.{lt-ltb, eqb-true, eqb-false, eq-eqb, ne_eqb}
use Rattle.sizes.specs.Lost.{subnormal, is_zero, looked}

-- 2^-1022 and its opposite
abbrev pub least : Bool → Float
least s = fin s 1 (negsuc 1021)

-- N/D of it, as `lt` holds a number above 0 and one below to both
both_up : (N D : ℕ) → 0 < D → (ltb 0 (1 * D + N) && ltb N (1 * D)) ≡ ltb N D
both_up N D p = rw (lt-ltb 0 (1 * D + N) (omega (arith, p)), one-mul D)

both_down : (N D : ℕ) → 0 < D → (ltb N (1 * D) && ltb 0 (N + 1 * D)) ≡ ltb N D
both_down N D p = rw (lt-ltb 0 (N + 1 * D) (omega (arith, p)), one-mul D, kept (ltb N D))
  where
    kept : (b : Bool) → (b && true) ≡ b
    kept true = refl
    kept false = refl

-- what lies strictly between the two is subnormal
pub between_least : (r : Float) → (lt (least true) r && lt r (least false)) ≡ subnormal r
unfolding lt
between_least nan = refl
between_least (inf true) = refl
between_least (inf false) = refl
between_least (fin false m e) = both_up (m * up e * 2 ^ 1022) (down e) (down_pos e)
between_least (fin true m e) = both_down (m * up e * 2 ^ 1022) (down e) (down_pos e)

-- ---- the base

level_zero : (s : Bool) (m x y : ℕ) → y ≡ 0 → (m ≡ 0 → x ≡ 0) → ((m ≡ 0 → ⊥) → x ≡ 0 → ⊥) → (eqb x y && (beq s false || eqb x 0)) ≡ eqb m 0
level_zero s m x y z p q = rw z (go s (eqb m 0) refl)
  where
    go : (s b : Bool) → eqb m 0 ≡ b → (eqb x 0 && (beq s false || eqb x 0)) ≡ b
    go true true e = rw (eq-eqb x 0 (p (eqb-true m 0 e)))
    go false true e = rw (eq-eqb x 0 (p (eqb-true m 0 e)))
    go s false e = rw (ne_eqb x 0 (q (eqb-false m 0 e)))

pub is_zero_lem : (a : Float) → eq a (fin false 0 (pos 0)) ≡ is_zero a
unfolding eq
is_zero_lem nan = refl
is_zero_lem (inf s) = refl
is_zero_lem (fin s m e) = level_zero s m (m * up e * 1) (0 * 1 * down e) (omega arith) (gone m (up e)) (there m (up e) (up_pos e))
  where
    gone : (m u : ℕ) → m ≡ 0 → m * u * 1 ≡ 0
    gone m u z = rw z (omega arith)

    there : (m u : ℕ) → 0 < u → (m ≡ 0 → ⊥) → m * u * 1 ≡ 0 → ⊥
    there m u U n e = let M : 0 < m = omega (arith, n) in omega (arith, mul-pos M U)

pub no_zero : (a : Float) → ne a (fin false 0 (pos 0)) ≡ not (is_zero a)
unfolding ne
no_zero a = ap not (is_zero_lem a)

-- of 0 nothing is subnormal
pub zero_looked : (a r : Float) → is_zero a ≡ true → r ≡ looked a r
zero_looked a r z = go (subnormal r) refl
  where
    go : (b : Bool) → subnormal r ≡ b → r ≡ looked a r
    go true e = rw (z, e)
    go false e = rw (z, e)
