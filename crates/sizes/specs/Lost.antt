-- To believe: when a number has lost digits for being small, and the look at a power that is made of it. Assumes nothing: these are definitions.
use Rattle.std.specs.Prelude.{◌*◌, ◌^◌, Bool, false, not, ◌&&◌, cond, eqb, ltb, Float}
use Rattle.std.specs.Float.{nan, inf, fin}
use Rattle.std.specs.Float.Ieee.{up, down}

-- the size of r is below 2^-1022, the smallest normal f64: digits are lost, or all of it is
abbrev pub subnormal : Float → Bool
subnormal nan = false
subnormal (inf s) = false
subnormal (fin s m e) = ltb (m * up e * 2 ^ 1022) (down e)

-- 0 or -0
abbrev pub is_zero : Float → Bool
is_zero nan = false
is_zero (inf s) = false
is_zero (fin s m e) = eqb m 0

-- an r on the way to a power of a, or a NaN where a is not 0 and r is subnormal or 0
abbrev pub looked : Float → Float → Float
looked a r = cond (subnormal r && not (is_zero a)) nan r
