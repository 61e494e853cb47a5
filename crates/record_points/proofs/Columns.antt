-- The column run at five rows in which p, T, letter and refusal differ: a letter's, the critical point's, one outside the box, another letter's, and one
-- beyond the border with region 2. Each byte and each density, to the last bit, is the Rust's under the four written rules. And 0 with the columns
-- filled, or 7 with every column as found where one is too short. Worked out by antt. Assumes nothing.
use mathlib.Core.Path.{◌≡◌, refl}
use mathlib.Core.Bool.{Bool, true, false, ◌&&◌}
use mathlib.Core.List.{List, [], ◌∷◌}
use Prim.Native.Nat.{ℕ}
use lib.Dec.{eqb, T}
use lib.Ieee.{Float, round, neg, add, sub, sum, mul, div, of_int, le, lt}
use Rattle.common.specs.Decimal.{scaled, decimal, whole, plus, minus}
use Rattle.common.specs.Outcome.{value, refused, zero_f}
use Rattle.common.specs.Sum.{total}
use Rattle.inverses.specs.Units.{in_units}
use Rattle.rules.specs.Power.{power_rule, by_bits, lowest}
use Rattle.inverses.specs.Root.{root_rule, nearest_root, whole_root}
use Rattle.inverses.specs.Log.{logarithm_rule, ln_of, ln_steps, L}
use Rattle.rules.specs.Exp.{exponential_rule, exp_steps, nearest_whole}
use Rattle.algo.specs.Table.{sum_rule}
use Rattle.printed.specs.Volumes.{table3a, table3b, table3c, table3d, table3e, table3f, table3g, table3h, table3i, table3j, table3k, table3l, table3m, table3n, table3o, table3p, table3q, table3r, table3s, table3t, table3u, table3v, table3w, table3x, table3y, table3z}
use Rattle.r4.specs.Saturation.{p_saturation, T_saturation}
use Rattle.border.specs.Border.{B23_p2T, beside_border, region3_box}
use Rattle.boundaries.specs.Boundary.{walk_rule, row_at, table, straight3ef}
use Rattle.boundary.specs.Choice.{letter_at, ab_rule, cdef_rule, chijk_rule, clmnopjk_rule, near_rule, cq_rk_rule, csrk_rule, cst_rule, ct_rule, limit}
use Rattle.volume.specs.Equation.{volume_at, volume_by}
use Rattle.origin.specs.Origin.{origin_at, origin_rule}
use Rattle.volume.specs.State.{state_by}
use Rattle.volume_at.specs.Volumes.{found_rule}
use Rattle.column_row.specs.Row.{row_rule}
use Rattle.column_run.specs.Columns.{lent, filled, rows_by, columns_rule}

pub ps : List Float
ps = (whole 24) ∷ (decimal 22_064 3) ∷ (whole 24) ∷ (whole 50) ∷ (whole 17) ∷ []

pub ts : List Float
ts = (whole 650) ∷ (decimal 647_096 3) ∷ (whole 623) ∷ (whole 630) ∷ (whole 800) ∷ []

-- the same f64, by its order
abbrev pub same : Float → Float → Bool
same x y = le x y && le y x

unfoldable pub every_byte : List ℕ → List ℕ → Bool
every_byte [] [] = true
every_byte [] (y ∷ ys) = false
every_byte (x ∷ xs) [] = false
every_byte (x ∷ xs) (y ∷ ys) = eqb x y && every_byte xs ys

unfoldable pub every_number : List Float → List Float → Bool
every_number [] [] = true
every_number [] (y ∷ ys) = false
every_number (x ∷ xs) [] = false
every_number (x ∷ xs) (y ∷ ys) = same x y && every_number xs ys

pub letters : T (every_byte (filled ps ts).letters (103 ∷ 0 ∷ 0 ∷ 97 ∷ 0 ∷ []))
unfolding every_byte ps ts rows_by row_rule found_rule origin_rule region3_box beside_border B23_p2T origin_at state_by volume_at volume_by letter_at ab_rule cdef_rule chijk_rule clmnopjk_rule near_rule cq_rk_rule csrk_rule cst_rule ct_rule limit walk_rule row_at table straight3ef p_saturation T_saturation sum_rule total table3a table3b table3c table3d table3e table3f table3g table3h table3i table3j table3k table3l table3m table3n table3o table3p table3q table3r table3s table3t table3u table3v table3w table3x table3y table3z power_rule by_bits lowest root_rule nearest_root whole_root in_units logarithm_rule ln_of ln_steps exponential_rule exp_steps nearest_whole L scaled decimal whole plus minus round neg add sub sum mul div of_int le lt
letters = tt

pub densities : T (every_number (filled ps ts).densities ((decimal 461_6711044147961 13) ∷ (whole 322) ∷ zero_f ∷ (decimal 679_8775485632074 13) ∷ zero_f ∷ []))
unfolding every_number ps ts rows_by row_rule found_rule origin_rule region3_box beside_border B23_p2T origin_at state_by volume_at volume_by letter_at ab_rule cdef_rule chijk_rule clmnopjk_rule near_rule cq_rk_rule csrk_rule cst_rule ct_rule limit walk_rule row_at table straight3ef p_saturation T_saturation sum_rule total table3a table3b table3c table3d table3e table3f table3g table3h table3i table3j table3k table3l table3m table3n table3o table3p table3q table3r table3s table3t table3u table3v table3w table3x table3y table3z power_rule by_bits lowest root_rule nearest_root whole_root in_units logarithm_rule ln_of ln_steps exponential_rule exp_steps nearest_whole L scaled decimal whole plus minus round neg add sub sum mul div of_int le lt
densities = tt

pub refusals : T (every_byte (filled ps ts).refusals (0 ∷ 0 ∷ 3 ∷ 0 ∷ 8 ∷ []))
unfolding every_byte ps ts rows_by row_rule found_rule origin_rule region3_box beside_border B23_p2T origin_at state_by volume_at volume_by letter_at ab_rule cdef_rule chijk_rule clmnopjk_rule near_rule cq_rk_rule csrk_rule cst_rule ct_rule limit walk_rule row_at table straight3ef p_saturation T_saturation sum_rule total table3a table3b table3c table3d table3e table3f table3g table3h table3i table3j table3k table3l table3m table3n table3o table3p table3q table3r table3s table3t table3u table3v table3w table3x table3y table3z power_rule by_bits lowest root_rule nearest_root whole_root in_units logarithm_rule ln_of ln_steps exponential_rule exp_steps nearest_whole L scaled decimal whole plus minus round neg add sub sum mul div of_int le lt
refusals = tt

pub accepted : columns_rule ps ts (lent (9 ∷ 9 ∷ 9 ∷ 9 ∷ 9 ∷ []) ps (9 ∷ 9 ∷ 9 ∷ 9 ∷ 9 ∷ [])) ≡ (value tt, filled ps ts)
unfolding ps ts columns_rule
accepted = refl

pub one_short : columns_rule ps ts (lent (9 ∷ 9 ∷ 9 ∷ 9 ∷ []) ps (9 ∷ 9 ∷ 9 ∷ 9 ∷ 9 ∷ [])) ≡ (refused 7, lent (9 ∷ 9 ∷ 9 ∷ 9 ∷ []) ps (9 ∷ 9 ∷ 9 ∷ 9 ∷ 9 ∷ []))
unfolding ps ts columns_rule
one_short = refl
