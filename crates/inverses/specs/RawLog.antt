-- Helps proofs only: the logarithm's steps with no check, with e as a float. proofs/Logs has that the rule is their check.
-- Assumes nothing: these are definitions.
use mathlib.Core.List.{foldl}
use Rattle.std.specs.Prelude.{Float}
use Rattle.std.specs.Float.{binary64}
use Rattle.std.specs.Float.Ieee.{add, sub, mul, div}
use Rattle.rules.specs.Exp.{float, L}
use Rattle.inverses.specs.Log.{odds_from25}

-- q as the last turn leaves it
abbrev pub raw_series : Float → Float
raw_series y = foldl (λ q k. add binary64 (mul binary64 q y) (div binary64 (float 1) (float k))) (div binary64 (float 1) (float 27)) odds_from25

abbrev raw_from : Float → Float → Float
raw_from z t = add binary64 t (mul binary64 (mul binary64 (float 2) z) (raw_series (mul binary64 z z)))

unfoldable pub raw_ln : Float → Float → Float
raw_ln m e = raw_from (div binary64 (sub binary64 m (float 1)) (add binary64 m (float 1))) (mul binary64 e L)
