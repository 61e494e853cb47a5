-- Helps proofs only: the exponential's steps with no check, and the bound on x/L. proofs/Exps has that the rule is their check.
-- Assumes nothing: these are definitions.
use Rattle.std.specs.Prelude.{◌*◌, Bool, false, leb, Float}
use mathlib.Core.List.{foldl}
use Rattle.std.specs.Float.{nan, inf, fin, binary64}
use Rattle.std.specs.Float.Ieee.{up, down, add, sub, mul, div}
use Rattle.rules.specs.Exp.{float, L, from14}

-- s as the last turn leaves it
abbrev pub raw_turns : Float → Float
raw_turns r = foldl (λ s j. add binary64 (float 1) (div binary64 (mul binary64 r s) (float j))) (float 1) from14

-- with k and 2^k as floats
unfoldable pub raw_exp : Float → Float → Float → Float
raw_exp x k p = mul binary64 (raw_turns (sub binary64 x (mul binary64 k L))) p

-- x is at most 1010 in size
abbrev pub at_most1010 : Float → Bool
at_most1010 nan = false
at_most1010 (inf s) = false
at_most1010 (fin s m e) = leb (m * up e) (1010 * down e)
