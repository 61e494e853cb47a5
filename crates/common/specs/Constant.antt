-- To believe: the ends of the ranges (docs/SCOPE.md) and the constants of common/constant.rs, as printed. Assumes nothing: these are definitions.
use Rattle.std.specs.Prelude.{List, [], ◌∷◌, Float, false}
use Rattle.common.specs.Decimal.{decimal, whole, scaled, negative}

-- the box
abbrev pub p_range_from : Float
p_range_from = decimal 16_529 3

abbrev pub p_range_to : Float
p_range_to = whole 100

abbrev pub t_range_from : Float
t_range_from = decimal 623_15 2

abbrev pub t_range_to : Float
t_range_to = decimal 863_15 2

abbrev pub d_range_from : Float
d_range_from = whole 100

abbrev pub d_range_to : Float
d_range_to = whole 800

abbrev pub h_range_from : Float
h_range_from = whole 1500

abbrev pub h_range_to : Float
h_range_to = whole 2900

abbrev pub s_range_from : Float
s_range_from = decimal 3_3 1

abbrev pub s_range_to : Float
s_range_to = decimal 5_3 1

-- where p and T end on the saturation line
abbrev pub p_max4 : Float
p_max4 = decimal 22_064 3

abbrev pub t_max4 : Float
t_max4 = decimal 647_096 3

-- common/constant.rs
abbrev pub p_tol : Float
p_tol = scaled false 1 0 (negative 15)

abbrev pub t_tol : Float
t_tol = scaled false 1 0 (negative 5)

abbrev pub rgas_water : Float
rgas_water = decimal 0_461526 6

abbrev pub tc_water : Float
tc_water = decimal 647_096 3

abbrev pub pc_water : Float
pc_water = decimal 22_064 3

abbrev pub dc_water : Float
dc_water = whole 322

abbrev pub sc_water : Float
sc_water = decimal 4_41202148223476 14

abbrev pub TT : Float
TT = decimal 273_16 2

-- all of them, in this order; the last two are the box's ends again, where the saturation line begins
unfoldable pub printed : List Float
printed =
    p_range_from ∷ p_range_to ∷ t_range_from ∷ t_range_to ∷ d_range_from ∷ d_range_to ∷ h_range_from ∷ h_range_to ∷ s_range_from ∷ s_range_to
    ∷ p_max4 ∷ t_max4
    ∷ p_tol ∷ t_tol ∷ rgas_water ∷ tc_water ∷ pc_water ∷ dc_water ∷ sc_water ∷ TT
    ∷ p_range_from ∷ t_range_from
    ∷ []
