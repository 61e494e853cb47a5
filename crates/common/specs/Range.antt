-- To believe: the checks before any step, in the paper's order: 1 looks at every argument before 2 looks at the first and 3 at the second.
-- Both ends of a range count as inside. Assumes nothing: these are definitions.
use Rattle.std.specs.Prelude.{Bool, cond, ◌&&◌, Float}
use Rattle.std.specs.Float.Ieee.{le}
use Rattle.common.specs.Constant.{p_range_from, p_range_to, t_range_from, t_range_to, d_range_from, d_range_to, h_range_from, h_range_to, s_range_from, s_range_to, p_max4, t_max4}
use Rattle.common.specs.Outcome.{Outcome, value, refused, finite}

-- from ≤ x and x ≤ to
abbrev pub within : Float → Float → Float → Bool
within from to x = le from x && le x to

-- a call with one argument
abbrev pub only_rule : Float → Float → Float → Outcome Unit
only_rule from to x = cond (finite x) (cond (within from to x) (value tt) (refused 2)) (refused 1)

-- a call with two arguments, x and y
abbrev pub pair_rule : Float → Float → Float → Float → Float → Float → Outcome Unit
pair_rule xFrom xTo x yFrom yTo y =
    cond (finite x)
    (cond (finite y) (cond (within xFrom xTo x) (cond (within yFrom yTo y) (value tt) (refused 3)) (refused 2)) (refused 1))
    (refused 1)

-- ---- the boxes of the calls, each named once

abbrev pub pT_box : Float → Float → Outcome Unit
pT_box p t = pair_rule p_range_from p_range_to p t_range_from t_range_to t

abbrev pub Td_box : Float → Float → Outcome Unit
Td_box t d = pair_rule t_range_from t_range_to t d_range_from d_range_to d

abbrev pub ph_box : Float → Float → Outcome Unit
ph_box p h = pair_rule p_range_from p_range_to p h_range_from h_range_to h

abbrev pub ps_box : Float → Float → Outcome Unit
ps_box p s = pair_rule p_range_from p_range_to p s_range_from s_range_to s

abbrev pub hs_box : Float → Float → Outcome Unit
hs_box h s = pair_rule h_range_from h_range_to h s_range_from s_range_to s

-- a boundary of region 3, and its border with region 2
abbrev pub p_box : Float → Outcome Unit
p_box p = only_rule p_range_from p_range_to p

abbrev pub T_box : Float → Outcome Unit
T_box t = only_rule t_range_from t_range_to t

-- on the saturation line
abbrev pub saturated_p_box : Float → Outcome Unit
saturated_p_box p = only_rule p_range_from p_max4 p

abbrev pub saturated_t_box : Float → Outcome Unit
saturated_t_box t = only_rule t_range_from t_max4 t

abbrev pub saturated_box : Float → Float → Outcome Unit
saturated_box p t = pair_rule p_range_from p_max4 p t_range_from t_max4 t
