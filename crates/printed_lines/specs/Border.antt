-- To believe: the border between regions 2 and 3, R7-97, equations 5 and 6 with the coefficients of table 1, in the Rust's order of operations
-- (common/boundaries.rs). Assumes nothing: these are definitions.
use Rattle.common.specs.Formula.{◌⊕◌, ◌⊖◌, ◌⊗◌, ◌⊘◌}
use Rattle.std.specs.Prelude.{pos, cond, Float}
use Rattle.std.specs.Float.Ieee.{lt}
use Rattle.common.specs.Outcome.{Outcome, value, refused, then}
use Rattle.common.specs.Decimal.{plus, minus, negative}
use Rattle.common.specs.Range.{p_box, T_box, pT_box}
use Rattle.inverses.specs.Formula.{root_of}

-- table 1
abbrev pub n1 : Outcome Float
n1 = value (plus 14 0_34805185628969 (pos 3))

abbrev pub n2 : Outcome Float
n2 = value (minus 14 0_11671859879975 (pos 1))

abbrev pub n3 : Outcome Float
n3 = value (plus 14 0_10192970039326 (negative 2))

abbrev pub n4 : Outcome Float
n4 = value (plus 14 0_57254459862746 (pos 3))

abbrev pub n5 : Outcome Float
n5 = value (plus 14 0_13918839778870 (pos 2))

-- equation 5
unfoldable pub B23_T2p : Float → Outcome Float
B23_T2p t = n1 ⊕ (n2 ⊕ n3 ⊗ value t) ⊗ value t

-- equation 6: a power of one half is a root
unfoldable pub B23_p2T : Float → Outcome Float
B23_p2T p = n4 ⊕ root_of ((value p ⊖ n5) ⊘ n3)

-- the calls: T from 623.15 to 863.15, p from 16.529 to 100; what is answered has no range
unfoldable pub B23_T2p_rule : Float → Outcome Float
B23_T2p_rule t = then (T_box t) (λ _. B23_T2p t)

unfoldable pub B23_p2T_rule : Float → Outcome Float
B23_p2T_rule p = then (p_box p) (λ _. B23_p2T p)

-- T is not above the border, as it is worked out in f64. For a p of the box no step of it is lost (proofs/Never), so 8 is the one number that is added
unfoldable pub beside_border : Float → Float → Outcome Unit
unfolding B23_p2T
beside_border p t = then (B23_p2T p) (λ border. cond (lt border t) (refused 8) (value tt))

-- what the (p,T) entry, a row of the column run and the letter choice ask first: the box, then the border
unfoldable pub region3_box : Float → Float → Outcome Unit
unfolding beside_border
region3_box p t = then (pT_box p t) (λ _. beside_border p t)
