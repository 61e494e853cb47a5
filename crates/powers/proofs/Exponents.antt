-- The exponents of a table are i32s, and the rule takes each. Assumes nothing.
use mathlib.Core.Path.{◌≡◌, refl}
use mathlib.Core.Bool.{Bool, true, false}
use Prim.Native.Nat.{ℕ, suc, ◌-◌, ◌<◌}
use native.Mathlib.Omega.{arith}
use lib.Dec.{ltb, leb}
use lib.IntN.{nat_abs}
use borrow.Author.Tests.{le-leb}
use Rattle.powers.specs.Powers.{exponent_at}

pub taken : (k : ℕ) → k < 129 → leb (nat_abs (exponent_at k)) 64 ≡ true
taken k h = by (ltb k 64) refl
  where
    by : (b : Bool) → ltb k 64 ≡ b → leb (nat_abs (exponent_at k)) 64 ≡ true
    by true e = rw e (le-leb (suc (63 - k)) 64 (omega arith))
    by false e = rw e (le-leb (k - 64) 64 (omega arith))
