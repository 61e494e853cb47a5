-- To believe: the product r*x that a set bit of the exponent calls for. Assumes nothing: these are definitions.
use Rattle.std.specs.Prelude.{Bool, true, false, Float}
use Rattle.std.specs.Float.{binary64}
use Rattle.std.specs.Float.Ieee.{mul}

-- r*x as f leaves it, where the bit is set
abbrev pub taken : (Float → Float) → Bool → Float → Float → Float
taken f true r x = f (mul binary64 r x)
taken f false r x = r

-- r*x where the bit is set
abbrev pub times : Bool → Float → Float → Float
times = taken (λ r. r)
