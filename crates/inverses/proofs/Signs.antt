-- A finite number is a zero, below 0 or above 0, as the tests against 0.0 say. Assumes nothing.
use mathlib.Core.Path.{◌≡◌, refl, sym, subst}
use mathlib.Core.Logic.{◌⊎◌, inl, inr}
use Prim.Native.Nat.{ℕ, zero, suc, ◌+◌, ◌*◌, ◌<◌}
use native.Mathlib.Nat.{zero-lt-suc, mul-pos, mul-one, lt_of_lt_of_le, le-add_right}
use native.Mathlib.Omega.{arith}
use mathlib.Core.Bool.{Bool, true, false, ◌&&◌, ◌||◌, beq}
use lib.Dec.{T, eqb, ltb, eqb→eq, ltb→lt, lt→ltb}
use lib.IntN.{ℤ, pos}
use lib.Ieee.{Float, nan, inf, fin, up, down, eq, lt, le}
use lib.Ieee.Fits.{up_pos, and_l}
use Rattle.common.specs.Outcome.{finite}
use Rattle.inverses.specs.Units.{positive}
use Rattle.common.proofs.Laws.{never}

abbrev zero_f : Float
zero_f = fin false 0 (pos 0)

pub to_T : {b : Bool} → b ≡ true → T b
to_T e = subst T (sym e) tt

size_pos : (m : ℕ) (e : ℤ) → 0 < suc m * up e * 1
size_pos m e = subst (λ (y : ℕ). 0 < y) (sym (mul-one (suc m * up e))) (mul-pos (zero-lt-suc m) (up_pos e))

pub is_zero_lem : (x : Float) → finite x ≡ true → eq x zero_f ≡ true → (s : Bool) × (e : ℤ) × (x ≡ fin s zero e)
unfolding eq
is_zero_lem nan f h = never (sym f)
is_zero_lem (inf s) f h = never (sym f)
is_zero_lem (fin s zero e) f h = (s, e, refl)
is_zero_lem (fin s (suc m) e) f h =
    absurd (omega (arith, size_pos m e, eqb→eq (suc m * up e * 1) (0 * down e) (and_l (eqb (suc m * up e * 1) (0 * down e)) _ (to_T h))))

pub is_negative : (x : Float) → finite x ≡ true → lt x zero_f ≡ true → (m : ℕ) × (e : ℤ) × (x ≡ fin true (suc m) e)
unfolding lt
is_negative nan f h = never (sym f)
is_negative (inf s) f h = never (sym f)
is_negative (fin false m e) f h = absurd (omega (arith, ltb→lt (m * up e * 1) (0 * down e) (to_T h)))
is_negative (fin true zero e) f h = absurd (omega (arith, ltb→lt 0 (zero * up e * 1 + 0 * down e) (to_T h)))
is_negative (fin true (suc m) e) f h = (m, e, refl)

clash : {A : Type 0} (b : Bool) → T b → b ≡ false → A
clash true t h = never h
clash false t h = absurd t

level_zero : (s : Bool) (e : ℤ) → T (eq (fin s zero e) zero_f)
unfolding eq
level_zero s e = go (zero * up e * 1) (0 * down e) (omega arith) (omega arith) s
  where
    go : (a b : ℕ) → a ≡ 0 → b ≡ 0 → (s : Bool) → T (eqb a b && (beq s false || eqb a 0))
    go a b p q true = subst (λ (y : ℕ). T (eqb y b && eqb y 0)) (sym p) (subst (λ (y : ℕ). T (eqb 0 y && true)) (sym q) tt)
    go a b p q false = subst (λ (y : ℕ). T (eqb y b && true)) (sym p) (subst (λ (y : ℕ). T (eqb 0 y && true)) (sym q) tt)

pub is_positive : (x : Float) → finite x ≡ true → eq x zero_f ≡ false → lt x zero_f ≡ false → T (positive x)
unfolding lt
is_positive nan f g h = never (sym f)
is_positive (inf s) f g h = never (sym f)
is_positive (fin s zero e) f g h = clash (eq (fin s zero e) zero_f) (level_zero s e) g
is_positive (fin true (suc m) e) f g h =
    clash (ltb 0 (suc m * up e * 1 + 0 * down e)) (lt→ltb 0 (suc m * up e * 1 + 0 * down e) (lt_of_lt_of_le (size_pos m e) (le-add_right (suc m * up e * 1) (0 * down e)))) h
is_positive (fin false (suc m) e) f g h = tt

-- the same by one test, x <= 0.0
pub is_above : (x : Float) → finite x ≡ true → le x zero_f ≡ false → T (positive x)
unfolding le
is_above x f = go (lt x zero_f) (eq x zero_f) (is_positive x f)
  where
    go : {A : Type 0} (a b : Bool) → (b ≡ false → a ≡ false → A) → a || b ≡ false → A
    go true b k h = never h
    go false b k h = k h refl

pub above : (x : Float) → T (positive x) → (m : ℕ) × (e : ℤ) × (x ≡ fin false (suc m) e)
above nan t = absurd t
above (inf s) t = absurd t
above (fin s zero e) t = absurd t
above (fin true (suc m) e) t = absurd t
above (fin false (suc m) e) t = (m, e, refl)

pub lost : (x : Float) → finite x ≡ false → (x ≡ nan) ⊎ ((s : Bool) × (x ≡ inf s))
lost nan f = inl refl
lost (inf s) f = inr (s, refl)
lost (fin s m e) f = never f
