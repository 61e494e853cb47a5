-- A signed exponent crosses to its bits and back. Assumes nothing.
use mathlib.Core.Path.{◌≡◌, ◌∙◌}
use Prim.Native.Nat.{◌^◌, ◌<◌}
use native.Mathlib.Omega.{arith}
use lib.IntN.{ℤ}
use lib.Signed.{mag}
use mir.Syntax.{w32, w64}
use mir.Val.{SFits, to_z, of_z}
use mir.ValLaws.{to_z-of_z}

-- a signed number that is passed on crosses to its bits and back
pub back : (z : ℤ) → mag z < 2 ^ 31 → to_z w32 (of_z w32 z) ≡ z
back z h = to_z-of_z w32 z record { sfits = h }

-- and one that is widened first
pub wider : (z : ℤ) → mag z < 2 ^ 31 → SFits w64 (to_z w32 (of_z w32 z))
wider z h = rw (back z h) record { sfits = omega arith }

pub back_wider : (z : ℤ) → mag z < 2 ^ 31 → to_z w64 (of_z w64 (to_z w32 (of_z w32 z))) ≡ z
back_wider z h = to_z-of_z w64 (to_z w32 (of_z w32 z)) (wider z h) ∙ back z h
