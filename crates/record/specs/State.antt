-- To believe: a p, T or d of the state, worked out by a call, is tested where it comes out: 4 outside its range, both ends counting as inside.
-- A call that finds v works out d = 1/v too. Assumes nothing: these are definitions.
use Rattle.common.specs.Formula.{◌⊘◌}
use Rattle.std.specs.Prelude.{cond, Float}
use Rattle.common.specs.Outcome.{Outcome, value, refused, then}
use Rattle.common.specs.Decimal.{whole}
use Rattle.common.specs.Constant.{p_range_from, p_range_to, t_range_from, t_range_to, d_range_from, d_range_to}
use Rattle.common.specs.Range.{within}

abbrev pub tested : Float → Float → Float → Outcome Float
tested from to x = cond (within from to x) (value x) (refused 4)

abbrev pub pressure_of : Outcome Float → Outcome Float
pressure_of o = then o (tested p_range_from p_range_to)

abbrev pub temperature_of : Outcome Float → Outcome Float
temperature_of o = then o (tested t_range_from t_range_to)

-- d = 1/v
abbrev pub density_of : Outcome Float → Outcome Float
density_of o = then (value (whole 1) ⊘ o) (tested d_range_from d_range_to)

-- v, once its d has passed
abbrev pub volume_of : Outcome Float → Outcome Float
volume_of o = then o (λ v. then (density_of (value v)) (λ _. value v))
