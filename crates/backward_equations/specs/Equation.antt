-- To believe: the backward equations: S03rev, equations 2 to 9, and S04rev, in the Rust's order of operations (r3/region3_Tv_phps.rs, r3/region3_p_hs.rs).
-- Assumes nothing: these are definitions.
use Rattle.common.specs.Formula.{◌⊕◌, ◌⊖◌, ◌⊗◌, ◌⊘◌}
use Rattle.std.specs.Prelude.{List, Float}
use Rattle.common.specs.Outcome.{Outcome, value}
use Rattle.common.specs.Decimal.{decimal, whole}
use Rattle.algo.specs.Table.{Row}
use Rattle.algo.specs.Table.{sum_of}
use Rattle.printed.specs.Backward.{table_t3a_ph, table_t3b_ph, table_v3a_ph, table_v3b_ph, table_t3a_ps, table_t3b_ps, table_v3a_ps, table_v3b_ps, table_p3a_hs, table_p3b_hs}
use Rattle.backward_equations.specs.declared.Equation.{Equation}
use Rattle.backward_equations.specs.declared.Equation.TheVariants.{T3aPh, T3bPh, V3aPh, V3bPh, T3aPs, T3bPs, V3aPs, V3bPs, P3aHs, P3bHs}
use Rattle.backward_equations.specs.declared.Side.{Side}
use Rattle.backward_equations.specs.declared.Side.TheVariants.{A, B}
use Rattle.backward_equations.specs.declared.Form.{Form}
use Rattle.backward_equations.specs.declared.Form.TheVariants.{Plus, Less, Over}

abbrev pub table_of : Equation → List Row
table_of T3aPh = table_t3a_ph
table_of T3bPh = table_t3b_ph
table_of V3aPh = table_v3a_ph
table_of V3bPh = table_v3b_ph
table_of T3aPs = table_t3a_ps
table_of T3bPs = table_t3b_ps
table_of V3aPs = table_v3a_ps
table_of V3bPs = table_v3b_ps
table_of P3aHs = table_p3a_hs
table_of P3bHs = table_p3b_hs

-- z, x*, a, y* and b of each equation. S03rev prints (π + a) and (η - b) or (σ - b); S04rev prints (η - a) and (σ - b).
abbrev pub form_of : Equation → Form
form_of T3aPh = Plus (whole 760) (whole 100) (decimal 0_240 3) (whole 2300) (decimal 0_615 3)
form_of T3bPh = Plus (whole 860) (whole 100) (decimal 0_298 3) (whole 2800) (decimal 0_720 3)
form_of V3aPh = Plus (decimal 0_0028 4) (whole 100) (decimal 0_128 3) (whole 2100) (decimal 0_727 3)
form_of V3bPh = Plus (decimal 0_0088 4) (whole 100) (decimal 0_0661 4) (whole 2800) (decimal 0_720 3)
form_of T3aPs = Plus (whole 760) (whole 100) (decimal 0_240 3) (decimal 4_4 1) (decimal 0_703 3)
form_of T3bPs = Plus (whole 860) (whole 100) (decimal 0_760 3) (decimal 5_3 1) (decimal 0_818 3)
form_of V3aPs = Plus (decimal 0_0028 4) (whole 100) (decimal 0_187 3) (decimal 4_4 1) (decimal 0_755 3)
form_of V3bPs = Plus (decimal 0_0088 4) (whole 100) (decimal 0_298 3) (decimal 5_3 1) (decimal 0_816 3)
form_of P3aHs = Less (whole 99) (whole 2300) (decimal 1_01 2) (decimal 4_4 1) (decimal 0_75 2)
form_of P3bHs = Over (decimal 16_6 1) (whole 2800) (decimal 0_681 3) (decimal 5_3 1) (decimal 0_792 3)

unfoldable pub worked_by : Form → List Row → Float → Float → Outcome Float
worked_by (Plus z xs a ys b) rows x y = value z ⊗ sum_of (value x ⊘ value xs ⊕ value a) (value y ⊘ value ys ⊖ value b) rows
worked_by (Less z xs a ys b) rows x y = value z ⊗ sum_of (value x ⊘ value xs ⊖ value a) (value y ⊘ value ys ⊖ value b) rows
worked_by (Over z xs a ys b) rows x y = value z ⊘ sum_of (value x ⊘ value xs ⊖ value a) (value y ⊘ value ys ⊖ value b) rows

-- what an equation gives at x and y
unfoldable pub worked : Equation → Float → Float → Outcome Float
unfolding worked_by
worked e x y = worked_by (form_of e) (table_of e) x y

-- ---- by the side

-- the equation of a side
abbrev pub of_side : Side → Equation → Equation → Equation
of_side A a b = a
of_side B a b = b

abbrev pub ph2T_on : Side → Float → Float → Outcome Float
ph2T_on side p h = worked (of_side side T3aPh T3bPh) p h

abbrev pub ph2v_on : Side → Float → Float → Outcome Float
ph2v_on side p h = worked (of_side side V3aPh V3bPh) p h

abbrev pub ps2T_on : Side → Float → Float → Outcome Float
ps2T_on side p s = worked (of_side side T3aPs T3bPs) p s

abbrev pub ps2v_on : Side → Float → Float → Outcome Float
ps2v_on side p s = worked (of_side side V3aPs V3bPs) p s

abbrev pub hs2p_on : Side → Float → Float → Outcome Float
hs2p_on side h s = worked (of_side side P3aHs P3bHs) h s
