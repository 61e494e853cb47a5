-- Helps proofs only: what a doubling multiplies by, and how far exponents go. Assumes nothing: these are definitions.
use Rattle.std.specs.Prelude.{ℕ, zero, suc, Bool, ltb, leb, ℤ, pos, negsuc, Float}
use Rattle.std.specs.Float.{binary64}
use Rattle.std.specs.Float.Ieee.{mul}

-- a, squared h times
unfoldable pub squared : ℕ → Float → Float
squared zero a = a
squared (suc h) a = squared h (mul binary64 a a)

-- an exponent from -d to u
abbrev pub spans : ℕ → ℕ → ℤ → Bool
spans u d (pos k) = leb k u
spans u d (negsuc k) = ltb k d
