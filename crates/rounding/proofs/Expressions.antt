-- Expressions: constants, variables, sums, differences, products, quotients, negatives and roots. Worked in floats, in floats with every step checked, and
-- exactly with every root cut off after n binary digits. A constant is a float and the fraction that it stands for. Assumes nothing: these are definitions.
use Prim.Native.Nat.{ℕ}
use lib.Ieee.{Float, binary64, neg, add, sub, mul, div}
use Rattle.common.specs.Outcome.{Outcome, value}
use Rattle.common.specs.Formula.{◌⊕◌, ◌⊖◌, ◌⊗◌, ◌⊘◌, minus_of}
use Rattle.inverses.specs.Units.{in_units}
use Rattle.inverses.specs.Root.{nearest_root}
use Rattle.inverses.specs.Formula.{root_of}
use Rattle.rounding.specs.Fraction.{Fraction}
use Rattle.rounding.specs.Arithmetic.{plus, times, opposite, by, root_at}
use Rattle.rounding.specs.Arithmetic as fractions

pub data Ex : Type 0 where
  con : Float → Fraction → Ex
  var : ℕ → Ex
  sum difference product quotient : Ex → Ex → Ex
  minus root : Ex → Ex

-- in floats
unfoldable pub float : (ℕ → Float) → Ex → Float
float x (con c z) = c
float x (var i) = x i
float x (sum s t) = add binary64 (float x s) (float x t)
float x (difference s t) = sub binary64 (float x s) (float x t)
float x (product s t) = mul binary64 (float x s) (float x t)
float x (quotient s t) = div binary64 (float x s) (float x t)
float x (minus s) = neg (float x s)
float x (root s) = nearest_root (in_units (float x s))

-- in floats, every step checked
unfoldable pub outcome : (ℕ → Float) → Ex → Outcome Float
outcome x (con c z) = value c
outcome x (var i) = value (x i)
outcome x (sum s t) = outcome x s ⊕ outcome x t
outcome x (difference s t) = outcome x s ⊖ outcome x t
outcome x (product s t) = outcome x s ⊗ outcome x t
outcome x (quotient s t) = outcome x s ⊘ outcome x t
outcome x (minus s) = minus_of (outcome x s)
outcome x (root s) = root_of (outcome x s)

-- exactly, with roots cut off after n digits
unfoldable pub exact : ℕ → (ℕ → Fraction) → Ex → Fraction
exact n y (con c z) = z
exact n y (var i) = y i
exact n y (sum s t) = plus (exact n y s) (exact n y t)
exact n y (difference s t) = fractions.minus (exact n y s) (exact n y t)
exact n y (product s t) = times (exact n y s) (exact n y t)
exact n y (quotient s t) = by (exact n y s) (exact n y t)
exact n y (minus s) = opposite (exact n y s)
exact n y (root s) = root_at n (exact n y s)

-- the same for each variable: of an expression that has one, or none
abbrev pub always : {A : Type 0} → A → ℕ → A
always a i = a
