-- The five records at a point whose two arguments differ: the ten numbers are, to the last bit, those that the Rust gives under the four written rules. Then
-- a refused point of each, and the critical point, which has no letter. Worked out by antt. Assumes nothing.
use mathlib.Core.Path.{◌≡◌, refl}
use mathlib.Core.Bool.{Bool, false, ◌&&◌}
use Prim.Native.Nat.{ℕ}
use lib.Dec.{eqb, T}
use mathlib.Core.List.{List, [], ◌∷◌}
use lib.Ieee.{Float, round, neg, add, sub, sum, mul, div, of_int, le, lt}
use Rattle.common.specs.Decimal.{scaled, decimal, whole, plus, minus}
use Rattle.common.specs.Outcome.{Outcome, value, refused}
use Rattle.common.specs.Sum.{total}
use Rattle.inverses.specs.Units.{in_units}
use Rattle.rules.specs.Power.{power_rule, by_bits, lowest}
use Rattle.inverses.specs.Root.{root_rule, nearest_root, whole_root}
use Rattle.inverses.specs.Log.{logarithm_rule, ln_of, ln_steps, L}
use Rattle.rules.specs.Exp.{exponential_rule, exp_steps, nearest_whole}
use Rattle.algo.specs.Table.{sum_rule}
use Rattle.algo.specs.Joint.{share_rule}
use Rattle.printed.specs.Volumes.{table3a, table3b, table3c, table3d, table3e, table3f, table3g, table3h, table3i, table3j, table3k, table3l, table3m, table3n, table3o, table3p, table3q, table3r, table3s, table3t, table3u, table3v, table3w, table3x, table3y, table3z}
use Rattle.r4.specs.Saturation.{p_saturation, T_saturation}
use Rattle.border.specs.Border.{B23_T2p, B23_T2p_rule, B23_p2T, beside_border, region3_box}
use Rattle.boundaries.specs.Boundary.{walk_rule, row_at, table, straight3ef}
use Rattle.boundary.specs.Choice.{letter_at, ab_rule, cdef_rule, chijk_rule, clmnopjk_rule, near_rule, cq_rk_rule, csrk_rule, cst_rule, ct_rule, limit}
use Rattle.volume.specs.Equation.{volume_at, volume_by}
use Rattle.origin.specs.Origin.{origin_at, origin_rule}
use Rattle.volume.specs.declared.State.{State}
use Rattle.volume.specs.State.{state_by}
use Rattle.volume_at.specs.Volumes.{state_at, found_rule, pT2v_reg3_rule}
use Rattle.printed.specs.Backward.{table_t3a_ph, table_t3b_ph, table_v3a_ph, table_v3b_ph, table_t3a_ps, table_t3b_ps, table_v3a_ps, table_v3b_ps, table_p3a_hs, table_p3b_hs}
use Rattle.backward_equations.specs.Equation.{worked, worked_by}
use Rattle.backward.specs.Backward.{h3ab, side_ph, hs2p_reg3_rule, tvd_ph, tvd_ps}
use Rattle.printed.specs.Table30.{table30}
use Rattle.helmholtz.specs.Hfe.{slope, phi, phi_delta, phi_deltadelta, share, joint_phi, joint_delta, four_delta, four_deltadelta}
use Rattle.properties.specs.Td.{Td2v, Td2p, Td2h, Td2s, Td2u, Td2cv, Td2cp, Td2w, state_pressure}
use Rattle.record.specs.Record.{fields_of, byte_of}
use Rattle.record.specs.declared.Record.{Record}
use Rattle.td_record.specs.Steps.{record_rule, record_steps, record_after}
use Rattle.region3.specs.Entries.{pT_rule, ph_rule, ps_rule, hs_rule}
use Rattle.record_points.proofs.Columns.{same, every_number}

abbrev pub is_record : List Float → Outcome Record → Bool
is_record xs (value r) = every_number (fields_of r) xs
is_record xs (refused k) = false

pub Td_accepted : T (is_record ((whole 650) ∷ (whole 500) ∷ (decimal 0_002 3) ∷ (decimal 25_583701818521963 15) ∷ (decimal 1863_4301898334209 13) ∷ (decimal 4_0542727333393875 16) ∷ (decimal 1812_2627861963767 13) ∷ (decimal 3_1913178718893582 16) ∷ (decimal 13_89357174417142 14) ∷ (decimal 502_00555375782454 14) ∷ []) (record_rule (whole 650) (whole 500)))
unfolding every_number record_rule record_steps record_after Td2v Td2p Td2h Td2s Td2u Td2cv Td2cp Td2w state_pressure slope phi phi_delta phi_deltadelta share joint_phi joint_delta four_delta four_deltadelta share_rule table30 sum_rule total power_rule by_bits lowest root_rule nearest_root whole_root in_units logarithm_rule ln_of ln_steps exponential_rule exp_steps nearest_whole L scaled decimal whole plus minus round neg add sub sum mul div of_int le lt
Td_accepted = tt

pub pT_accepted : T (is_record ((whole 650) ∷ (decimal 461_6711044147961 13) ∷ (decimal 0_002166044160956483 18) ∷ (decimal 24_000022504213025 15) ∷ (decimal 1908_7655208396018 13) ∷ (decimal 4_12906453174752 14) ∷ (decimal 1856_780412231524 12) ∷ (decimal 3_3965240849754745 16) ∷ (decimal 22_63103343987699 14) ∷ (decimal 428_4877479962741 13) ∷ []) (pT_rule (whole 24) (whole 650)))
unfolding every_number pT_rule record_steps record_after Td2v Td2p Td2h Td2s Td2u Td2cv Td2cp Td2w state_pressure slope phi phi_delta phi_deltadelta share joint_phi joint_delta four_delta four_deltadelta share_rule table30 sum_rule total found_rule origin_rule region3_box beside_border B23_p2T origin_at state_by volume_at volume_by letter_at ab_rule cdef_rule chijk_rule clmnopjk_rule near_rule cq_rk_rule csrk_rule cst_rule ct_rule limit walk_rule row_at table straight3ef p_saturation T_saturation table3a table3b table3c table3d table3e table3f table3g table3h table3i table3j table3k table3l table3m table3n table3o table3p table3q table3r table3s table3t table3u table3v table3w table3x table3y table3z power_rule by_bits lowest root_rule nearest_root whole_root in_units logarithm_rule ln_of ln_steps exponential_rule exp_steps nearest_whole L scaled decimal whole plus minus round neg add sub sum mul div of_int le lt
pT_accepted = tt

pub ph_accepted : T (is_record ((decimal 657_20567344299 11) ∷ (decimal 348_74288507328674 14) ∷ (decimal 0_002867442011870305 18) ∷ (decimal 24_9995801104009 13) ∷ (decimal 2095_0002903069153 13) ∷ (decimal 4_410044864749924 15) ∷ (decimal 2023_3154440192366 13) ∷ (decimal 3_879843543752549 15) ∷ (decimal 65_30718312360705 14) ∷ (decimal 359_381435511441 12) ∷ []) (ph_rule (whole 25) (whole 2095)))
unfolding every_number ph_rule tvd_ph tvd_ps side_ph h3ab hs2p_reg3_rule worked worked_by table_t3a_ph table_t3b_ph table_v3a_ph table_v3b_ph table_t3a_ps table_t3b_ps table_v3a_ps table_v3b_ps table_p3a_hs table_p3b_hs record_steps record_after Td2v Td2p Td2h Td2s Td2u Td2cv Td2cp Td2w state_pressure slope phi phi_delta phi_deltadelta share joint_phi joint_delta four_delta four_deltadelta share_rule table30 sum_rule total power_rule by_bits lowest root_rule nearest_root whole_root in_units logarithm_rule ln_of ln_steps exponential_rule exp_steps nearest_whole L scaled decimal whole plus minus round neg add sub sum mul div of_int le lt
ph_accepted = tt

pub ps_accepted : T (is_record ((decimal 716_3687517267596 13) ∷ (decimal 428_69986208850924 14) ∷ (decimal 0_002332634293671735 18) ∷ (decimal 50_0050381715801 13) ∷ (decimal 2220_2199160107302 13) ∷ (decimal 4_499980413988454 15) ∷ (decimal 2103_576449115342 12) ∷ (decimal 2_898757914859528 15) ∷ (decimal 9_324606123420985 15) ∷ (decimal 584_9133632193857 13) ∷ []) (ps_rule (whole 50) (decimal 4_5 1)))
unfolding every_number ps_rule tvd_ph tvd_ps side_ph h3ab hs2p_reg3_rule worked worked_by table_t3a_ph table_t3b_ph table_v3a_ph table_v3b_ph table_t3a_ps table_t3b_ps table_v3a_ps table_v3b_ps table_p3a_hs table_p3b_hs record_steps record_after Td2v Td2p Td2h Td2s Td2u Td2cv Td2cp Td2w state_pressure slope phi phi_delta phi_deltadelta share joint_phi joint_delta four_delta four_deltadelta share_rule table30 sum_rule total power_rule by_bits lowest root_rule nearest_root whole_root in_units logarithm_rule ln_of ln_steps exponential_rule exp_steps nearest_whole L scaled decimal whole plus minus round neg add sub sum mul div of_int le lt
ps_accepted = tt

pub hs_accepted : T (is_record ((decimal 686_4181377089742 13) ∷ (decimal 509_5014771178652 13) ∷ (decimal 0_001962702847608557 18) ∷ (decimal 45_40873467774791 14) ∷ (decimal 2000_0503532711125 13) ∷ (decimal 4_20006958955662 14) ∷ (decimal 1910_9243236492941 13) ∷ (decimal 2_9181876137605 13) ∷ (decimal 8_435488887379433 15) ∷ (decimal 638_0946639623539 13) ∷ []) (hs_rule (whole 2000) (decimal 4_2 1)))
unfolding every_number hs_rule tvd_ph tvd_ps side_ph h3ab hs2p_reg3_rule worked worked_by table_t3a_ph table_t3b_ph table_v3a_ph table_v3b_ph table_t3a_ps table_t3b_ps table_v3a_ps table_v3b_ps table_p3a_hs table_p3b_hs record_steps record_after Td2v Td2p Td2h Td2s Td2u Td2cv Td2cp Td2w state_pressure slope phi phi_delta phi_deltadelta share joint_phi joint_delta four_delta four_deltadelta share_rule table30 sum_rule total power_rule by_bits lowest root_rule nearest_root whole_root in_units logarithm_rule ln_of ln_steps exponential_rule exp_steps nearest_whole L scaled decimal whole plus minus round neg add sub sum mul div of_int le lt
hs_accepted = tt

-- ---- refused

pub Td_refused : record_rule (whole 500) (whole 650) ≡ refused 2
unfolding record_rule scaled decimal whole plus minus round neg add sub sum mul div of_int le lt
Td_refused = refl

pub pT_beyond : pT_rule (whole 17) (whole 800) ≡ refused 8
unfolding pT_rule found_rule origin_rule region3_box beside_border B23_p2T origin_at state_by volume_at volume_by letter_at ab_rule cdef_rule chijk_rule clmnopjk_rule near_rule cq_rk_rule csrk_rule cst_rule ct_rule limit walk_rule row_at table straight3ef p_saturation T_saturation sum_rule total table3a table3b table3c table3d table3e table3f table3g table3h table3i table3j table3k table3l table3m table3n table3o table3p table3q table3r table3s table3t table3u table3v table3w table3x table3y table3z power_rule by_bits lowest root_rule nearest_root whole_root in_units logarithm_rule ln_of ln_steps exponential_rule exp_steps nearest_whole L scaled decimal whole plus minus round neg add sub sum mul div of_int le lt
pT_beyond = refl

-- the p of the found state is above 100
pub pT_refused : pT_rule (whole 100) (decimal 679_5125318168051 13) ≡ refused 4
unfolding pT_rule record_steps record_after Td2v Td2p Td2h Td2s Td2u Td2cv Td2cp Td2w state_pressure slope phi phi_delta phi_deltadelta share joint_phi joint_delta four_delta four_deltadelta share_rule table30 sum_rule total found_rule origin_rule region3_box beside_border B23_p2T origin_at state_by volume_at volume_by letter_at ab_rule cdef_rule chijk_rule clmnopjk_rule near_rule cq_rk_rule csrk_rule cst_rule ct_rule limit walk_rule row_at table straight3ef p_saturation T_saturation table3a table3b table3c table3d table3e table3f table3g table3h table3i table3j table3k table3l table3m table3n table3o table3p table3q table3r table3s table3t table3u table3v table3w table3x table3y table3z power_rule by_bits lowest root_rule nearest_root whole_root in_units logarithm_rule ln_of ln_steps exponential_rule exp_steps nearest_whole L scaled decimal whole plus minus round neg add sub sum mul div of_int le lt
pT_refused = refl

abbrev is_number : Float → Outcome Float → Bool
is_number x (value y) = same x y
is_number x (refused k) = false

-- the border's pressure, to the last bit
pub border_pressures : T (is_number (decimal 30_477196618414098 15) (B23_T2p_rule (whole 700)) && is_number (decimal 100_00000000002728 14) (B23_T2p_rule (decimal 863_15 2)))
unfolding B23_T2p_rule B23_T2p scaled decimal whole plus minus round neg add sub sum mul div le lt
border_pressures = tt

-- the volume alone is answered beyond the border
pub volume_beyond : T (is_number (decimal 0_00908693247290276 17) (pT2v_reg3_rule (whole 18) (whole 640)))
unfolding pT2v_reg3_rule state_at origin_at state_by volume_at volume_by letter_at ab_rule cdef_rule chijk_rule clmnopjk_rule near_rule cq_rk_rule csrk_rule cst_rule ct_rule limit walk_rule row_at table straight3ef p_saturation T_saturation sum_rule total table3a table3b table3c table3d table3e table3f table3g table3h table3i table3j table3k table3l table3m table3n table3o table3p table3q table3r table3s table3t table3u table3v table3w table3x table3y table3z power_rule by_bits lowest root_rule nearest_root whole_root in_units logarithm_rule ln_of ln_steps exponential_rule exp_steps nearest_whole L scaled decimal whole plus minus round neg add sub sum mul div of_int le lt
volume_beyond = tt

pub pT_outside : pT_rule (whole 24) (whole 623) ≡ refused 3
unfolding pT_rule found_rule origin_rule region3_box beside_border B23_p2T origin_at state_by volume_at volume_by letter_at ab_rule cdef_rule chijk_rule clmnopjk_rule near_rule cq_rk_rule csrk_rule cst_rule ct_rule limit walk_rule row_at table straight3ef p_saturation T_saturation sum_rule total table3a table3b table3c table3d table3e table3f table3g table3h table3i table3j table3k table3l table3m table3n table3o table3p table3q table3r table3s table3t table3u table3v table3w table3x table3y table3z power_rule by_bits lowest root_rule nearest_root whole_root in_units logarithm_rule ln_of ln_steps exponential_rule exp_steps nearest_whole L scaled decimal whole plus minus round neg add sub sum mul div of_int le lt
pT_outside = refl

pub ph_refused : ph_rule (whole 100) (whole 1500) ≡ refused 4
unfolding ph_rule tvd_ph tvd_ps side_ph h3ab hs2p_reg3_rule worked worked_by table_t3a_ph table_t3b_ph table_v3a_ph table_v3b_ph table_t3a_ps table_t3b_ps table_v3a_ps table_v3b_ps table_p3a_hs table_p3b_hs sum_rule total power_rule by_bits lowest scaled decimal whole plus minus round neg add sub sum mul div of_int le lt
ph_refused = refl

pub ps_refused : ps_rule (whole 80) (decimal 3_3 1) ≡ refused 4
unfolding ps_rule tvd_ph tvd_ps side_ph h3ab hs2p_reg3_rule worked worked_by table_t3a_ph table_t3b_ph table_v3a_ph table_v3b_ph table_t3a_ps table_t3b_ps table_v3a_ps table_v3b_ps table_p3a_hs table_p3b_hs sum_rule total power_rule by_bits lowest scaled decimal whole plus minus round neg add sub sum mul div of_int le lt
ps_refused = refl

pub hs_refused : hs_rule (whole 1500) (decimal 3_4 1) ≡ refused 4
unfolding hs_rule tvd_ph tvd_ps side_ph h3ab hs2p_reg3_rule worked worked_by table_t3a_ph table_t3b_ph table_v3a_ph table_v3b_ph table_t3a_ps table_t3b_ps table_v3a_ps table_v3b_ps table_p3a_hs table_p3b_hs sum_rule total power_rule by_bits lowest scaled decimal whole plus minus round neg add sub sum mul div of_int le lt
hs_refused = refl

-- a power of a base next to 0 has lost its digits: 5 before the 4 that p would be
pub hs_lost : hs_rule (whole 1500) (decimal 3_3 1) ≡ refused 5
unfolding hs_rule tvd_ph tvd_ps side_ph h3ab hs2p_reg3_rule worked worked_by table_t3a_ph table_t3b_ph table_v3a_ph table_v3b_ph table_t3a_ps table_t3b_ps table_v3a_ps table_v3b_ps table_p3a_hs table_p3b_hs sum_rule total power_rule by_bits lowest scaled decimal whole plus minus round neg add sub sum mul div of_int le lt
hs_lost = refl

-- ---- the critical point

abbrev is_state : ℕ → Float → Float → Outcome State → Bool
is_state byte v d (value s) = eqb (byte_of s.origin) byte && (same s.volume.0 v && same s.density.0 d)
is_state byte v d (refused k) = false

pub pT_critical : T (is_state 0 (decimal 0_003105590062111801 18) (whole 322) (found_rule (decimal 22_064 3) (decimal 647_096 3)))
unfolding found_rule origin_rule region3_box beside_border B23_p2T origin_at state_by volume_at volume_by letter_at ab_rule cdef_rule chijk_rule clmnopjk_rule near_rule cq_rk_rule csrk_rule cst_rule ct_rule limit walk_rule row_at table straight3ef p_saturation T_saturation sum_rule total table3a table3b table3c table3d table3e table3f table3g table3h table3i table3j table3k table3l table3m table3n table3o table3p table3q table3r table3s table3t table3u table3v table3w table3x table3y table3z power_rule by_bits lowest root_rule nearest_root whole_root in_units logarithm_rule ln_of ln_steps exponential_rule exp_steps nearest_whole L scaled decimal whole plus minus round neg add sub sum mul div of_int le lt
pT_critical = tt
