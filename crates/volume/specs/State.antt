-- To believe: a volume by its origin, and the state that it gives with its density (r3/region3_v_pT.rs). Assumes nothing: these are definitions.
use Rattle.common.specs.Formula.{◌⊘◌}
use Rattle.std.specs.Prelude.{Float}
use Rattle.common.specs.Outcome.{Outcome, value, then}
use Rattle.common.specs.Decimal.{whole}
use Rattle.common.specs.Constant.{dc_water}
use Rattle.record.specs.State.{density_of}
use Rattle.record.specs.declared.Origin.{Origin}
use Rattle.record.specs.declared.Origin.TheVariants.{Subregion, Critical}
use Rattle.volume.specs.Equation.{volume_at}
use Rattle.volume.specs.declared.State.{State}

-- v, then d = 1/v with its test
abbrev pub state_of : Origin → Outcome Float → Outcome State
state_of o q = then q (λ v. then (density_of (value v)) (λ d. value (record { origin = o; volume = record { 0 = v }; density = record { 0 = d } })))

-- at any p and t: no box is looked at
unfoldable pub state_by : Origin → Float → Float → Outcome State
state_by (Subregion l) p t = state_of (Subregion l) (volume_at l p t)
state_by Critical p t = state_of Critical (value (whole 1) ⊘ value dc_water)

-- the volume alone, whose density is not looked at either
unfoldable pub volume_from : Origin → Float → Float → Outcome Float
volume_from (Subregion l) p t = volume_at l p t
volume_from Critical p t = value (whole 1) ⊘ value dc_water
