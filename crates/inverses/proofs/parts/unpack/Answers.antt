-- `inverses::unpack` meets its contract: the exponent field says where the 53 digits stand, and a smaller number is shifted up. Assumes nothing.
use Prim.Native.Nat.{ℕ, ◌-◌, ◌*◌, ◌/◌, ◌%◌, ◌^◌, ◌≤◌}
use mathlib.Core.Path.{◌≡◌, sym, subst}
use mathlib.Core.Bool.{true}
use native.Mathlib.Nat.{mod-eq_of_lt}
use native.Mathlib.Omega.{arith}
use lib.Dec.{T}
use lib.Count.{count_leading_zeros}
use lib.Ieee.{Float, binary64, fits, to_bits}
use Rattle.inverses.specs.Units.{in_units, positive}
use Rattle.inverses.proofs.Signs.{to_T}
use Rattle.inverses.proofs.Units.{PartsOf, bits_lt, not_nan, zeros, low_bits, parts_0, parts_suc}
use Rattle.inverses.proofs.parts.unpack.Goals as goal

pub float_to_bits-b : goal.float_to_bits-b
float_to_bits-b c = not_nan c.args.x c.requires

-- the zeros before a subnormal number's digits
within : (x : Float) → fits binary64 x ≡ true → T (positive x) → to_bits binary64 x / 2 ^ 52 ≡ 0 → let z = count_leading_zeros 64 (to_bits binary64 x) in (12 ≤ z) × (z ≤ 63)
within x f p z = let l = low_bits x (to_T f) p z in zeros (to_bits binary64 x) l.0 l.1

pub overflow_sub-z : goal.overflow_sub-z
overflow_sub-z c = omega (arith, within c.args.x c.well_formed.0.1 c.requires c.if-field-eq0.true)

pub overflow_sub-result : goal.overflow_sub-result
overflow_sub-result c = omega (arith, within c.args.x c.well_formed.0.1 c.requires c.if-field-eq0.true)

pub overflow_add-result-else-field-eq0 : goal.overflow_add-result-else-field-eq0
overflow_add-result-else-field-eq0 c = omega (arith, bits_lt c.args.x (to_T c.well_formed.0.1) c.requires)

pub returns-then-field-eq0 : goal.returns-then-field-eq0
returns-then-field-eq0 c =
    let b = to_bits binary64 c.args.x in
    let i = count_leading_zeros 64 b - 11 in
    let p = parts_0 c.args.x (to_T c.well_formed.0.1) c.requires c.if-field-eq0.true in
    let e : b * 2 ^ i % 2 ^ 64 ≡ b * 2 ^ i = mod-eq_of_lt (omega (arith, p.1)) in
    subst (λ (d : ℕ). PartsOf (in_units c.args.x) d (52 - i)) (sym e) p

pub returns-else-field-eq0 : goal.returns-else-field-eq0
returns-else-field-eq0 c = parts_suc c.args.x (to_T c.well_formed.0.1) c.requires c.if-field-eq0.false
