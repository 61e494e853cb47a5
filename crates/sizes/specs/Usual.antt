-- What crates promise each other of a base; no public call's answer speaks of it. Assumes nothing: these are definitions.
use Rattle.std.specs.Prelude.{Bool, false, ◌&&◌, pos, negsuc, Float}
use Rattle.std.specs.Float.{fin, binary64}
use Rattle.std.specs.Float.Ieee.{mul, le}

-- a^2 lies from 2^-28 to 2^28
unfoldable pub usual_base : Float → Bool
usual_base a = le (fin false 1 (negsuc 27)) (mul binary64 a a) && le (mul binary64 a a) (fin false 1 (pos 28))
