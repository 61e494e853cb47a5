-- To believe: what a call with (p,T) finds, a volume or a state (r3/region3_v_pT.rs). Assumes nothing: these are definitions.
use Rattle.std.specs.Prelude.{cond, Float}
use Rattle.std.specs.Float.Ieee.{lt}
use Rattle.common.specs.Outcome.{Outcome, value, then}
use Rattle.common.specs.Decimal.{decimal}
use Rattle.common.specs.Range.{pT_box, saturated_box}
use Rattle.record.specs.State.{volume_of}
use Rattle.subregion.specs.declared.Letter.{Letter}
use Rattle.subregion.specs.declared.Letter.TheVariants.{C, R, S, T, U, X, Y, Z}
use Rattle.origin.specs.Origin.{origin_at, origin_rule}
use Rattle.volume.specs.Equation.{volume_at}
use Rattle.volume.specs.State.{state_by, volume_from}
use Rattle.volume.specs.declared.State.{State}
use Rattle.volume_at.specs.declared.Phase.{Phase}
use Rattle.volume_at.specs.declared.Phase.TheVariants.{Liquid, Steam}

-- ---- at any p and t: no box is looked at

unfoldable pub state_at : Float → Float → Outcome State
unfolding origin_at state_by
state_at p t = then (origin_at p t) (λ o. state_by o p t)

-- the volume alone, whose density is not looked at either
unfoldable pub pT2v_at : Float → Float → Outcome Float
unfolding origin_at volume_from
pT2v_at p t = then (origin_at p t) (λ o. volume_from o p t)

-- ---- the calls: the box, once

-- what the (p,T) record and a row of the column run go by: with the border, which a volume alone does not ask
unfoldable pub found_rule : Float → Float → Outcome State
unfolding origin_rule state_by
found_rule p t = then (origin_rule p t) (λ o. state_by o p t)

abbrev pub volume_in : Outcome State → Outcome Float
volume_in o = then o (λ s. value s.volume.0)

-- the volume alone, by the box and the state
unfoldable pub pT2v_reg3_rule : Float → Float → Outcome Float
unfolding state_at
pT2v_reg3_rule p t = then (pT_box p t) (λ _. volume_in (state_at p t))

-- by the equation of the letter that the caller names
unfoldable pub pT2v_3subreg_rule : Float → Float → Letter → Outcome Float
pT2v_3subreg_rule p t l = then (pT_box p t) (λ _. volume_of (volume_at l p t))

-- on the saturation line, by splits of four digits, all strict
abbrev pub saturated_letter : Phase → Float → Letter
saturated_letter Liquid p = cond (lt p (decimal 19_0088 4)) C (cond (lt p (decimal 21_0434 4)) S (cond (lt p (decimal 21_9316 4)) U Y))
saturated_letter Steam p = cond (lt p (decimal 20_5 1)) T (cond (lt p (decimal 21_0434 4)) R (cond (lt p (decimal 21_9009 4)) X Z))

unfoldable pub pT2v_sat_reg3_rule : Float → Float → Phase → Outcome Float
pT2v_sat_reg3_rule p t x = then (saturated_box p t) (λ _. volume_of (volume_at (saturated_letter x p) p t))
