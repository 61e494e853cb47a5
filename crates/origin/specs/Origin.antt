-- To believe: where the volume at (p,T) comes from (r3/region3_v_pT.rs). Assumes nothing: these are definitions.
use Rattle.common.specs.Formula.{◌⊖◌, size_of}
use Rattle.std.specs.Prelude.{Bool, false, cond, Float}
use Rattle.std.specs.Float.Ieee.{lt}
use Rattle.common.specs.Outcome.{Outcome, value, then}
use Rattle.common.specs.Constant.{p_tol, t_tol, tc_water, pc_water}
use Rattle.border.specs.Border.{region3_box}
use Rattle.boundary.specs.Choice.{letter_at}
use Rattle.record.specs.declared.Origin.{Origin}
use Rattle.record.specs.declared.Origin.TheVariants.{Subregion, Critical}

-- ---- the critical point

-- x strictly within tol of centre
abbrev pub near : Float → Float → Float → Outcome Bool
near x centre tol = then (value x ⊖ value centre) (λ y. value (lt (size_of y) tol))

-- T is looked at first, and p only where T is near
abbrev pub at_critical : Float → Float → Outcome Bool
at_critical p t = then (near t tc_water t_tol) (λ b. cond b (near p pc_water p_tol) (value false))

-- ---- where the volume comes from, at any p and t: no box is looked at

abbrev pub lettered_at : Float → Float → Outcome Origin
lettered_at p t = then (letter_at p t) (λ l. value (Subregion l))

unfoldable pub origin_at : Float → Float → Outcome Origin
origin_at p t = then (at_critical p t) (λ critical. cond critical (value Critical) (lettered_at p t))

-- what the (p,T) record and a row of the column run go by: with the box and the border, which a volume alone does not ask
unfoldable pub origin_rule : Float → Float → Outcome Origin
unfolding origin_at region3_box
origin_rule p t = then (region3_box p t) (λ _. origin_at p t)
