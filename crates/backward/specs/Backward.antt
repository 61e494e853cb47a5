-- To believe: the calls with (p,h), (p,s) and (h,s). The dividing line, the side, the calls for one quantity, and what a record is worked from.
-- Assumes nothing: these are definitions.
use Rattle.common.specs.Formula.{◌⊕◌, ◌⊗◌, ◌⊘◌}
use Rattle.std.specs.Prelude.{cond, pos, Float}
use Rattle.std.specs.Float.Ieee.{le}
use Rattle.common.specs.Outcome.{Outcome, value, then}
use Rattle.common.specs.Decimal.{plus, minus, whole, negative}
use Rattle.common.specs.Constant.{sc_water}
use Rattle.common.specs.Range.{hs_box, ph_box, ps_box}
use Rattle.record.specs.State.{pressure_of, temperature_of, density_of, volume_of}
use Rattle.backward_equations.specs.Equation.{ph2T_on, ph2v_on, ps2T_on, ps2v_on, hs2p_on}
use Rattle.backward_equations.specs.declared.Side.{Side}
use Rattle.backward_equations.specs.declared.Side.TheVariants.{A, B}
use Rattle.backward.specs.declared.Tvd.{Tvd}

abbrev pub n1 : Outcome Float
n1 = value (plus 15 0_201464004206875 (pos 4))

abbrev pub n2 : Outcome Float
n2 = value (plus 15 0_374696550136983 (pos 1))

abbrev pub n3 : Outcome Float
n3 = value (minus 15 0_219921901054187 (negative 1))

abbrev pub n4 : Outcome Float
n4 = value (plus 15 0_875131686009950 (negative 4))

-- S03rev, equation 1 with table 2, nested as in the Rust; p* is 1 MPa and h* is 1 kJ/kg
unfoldable pub h3ab : Float → Outcome Float
h3ab p =
    let π = value p ⊘ value (whole 1) in
    (n1 ⊕ π ⊗ (n2 ⊕ π ⊗ (n3 ⊕ n4 ⊗ π))) ⊗ value (whole 1)

-- ---- the side, chosen once

-- of p and h: the dividing enthalpy belongs to 3a
unfoldable pub side_ph : Float → Float → Outcome Side
unfolding h3ab
side_ph p h = then (h3ab p) (λ line. value (cond (le h line) A B))

-- of s: the critical entropy belongs to 3a
abbrev pub side_s : Float → Side
side_s s = cond (le s sc_water) A B

-- ---- the calls

unfoldable pub ph2T_reg3_rule : Float → Float → Outcome Float
unfolding side_ph
ph2T_reg3_rule p h = then (ph_box p h) (λ _. then (side_ph p h) (λ side. temperature_of (ph2T_on side p h)))

unfoldable pub ph2v_reg3_rule : Float → Float → Outcome Float
unfolding side_ph
ph2v_reg3_rule p h = then (ph_box p h) (λ _. then (side_ph p h) (λ side. volume_of (ph2v_on side p h)))

unfoldable pub ps2T_reg3_rule : Float → Float → Outcome Float
ps2T_reg3_rule p s = then (ps_box p s) (λ _. temperature_of (ps2T_on (side_s s) p s))

unfoldable pub ps2v_reg3_rule : Float → Float → Outcome Float
ps2v_reg3_rule p s = then (ps_box p s) (λ _. volume_of (ps2v_on (side_s s) p s))

unfoldable pub hs2p_reg3_rule : Float → Float → Outcome Float
hs2p_reg3_rule h s = then (hs_box h s) (λ _. pressure_of (hs2p_on (side_s s) h s))

-- ---- what a record is worked from, at any p, h and s: no box is looked at

-- T with its test, v, d = 1/v with its test
abbrev pub tvd_of : Outcome Float → Outcome Float → Outcome Tvd
tvd_of ofT of_v =
    then (temperature_of ofT)
    (λ t. then of_v (λ v. then (density_of (value v)) (λ d. value (record { t = record { 0 = t }; v = record { 0 = v }; d = record { 0 = d } }))))

unfoldable pub tvd_ph : Float → Float → Outcome Tvd
unfolding side_ph
tvd_ph p h = then (side_ph p h) (λ side. tvd_of (ph2T_on side p h) (ph2v_on side p h))

unfoldable pub tvd_ps : Float → Float → Outcome Tvd
tvd_ps p s = tvd_of (ps2T_on (side_s s) p s) (ps2v_on (side_s s) p s)
