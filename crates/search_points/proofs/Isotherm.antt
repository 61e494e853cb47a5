-- (T,h) and (T,s) at the odd places of docs/SCOPE.md, from the definitions. Worked out by antt. Assumes nothing.
use mathlib.Core.Path.{◌≡◌, refl}
use mathlib.Core.Bool.{Bool, false, ◌&&◌}
use Prim.Native.Nat.{ℕ}
use lib.Dec.{eqb, T}
use lib.Ieee.{Float, round, neg, add, sub, sum, mul, div, of_int, le, lt, eq}
use Rattle.common.specs.Decimal.{scaled, decimal, whole, plus, minus}
use Rattle.common.specs.Outcome.{Outcome, value, refused}
use Rattle.common.specs.Sum.{total}
use Rattle.inverses.specs.Units.{in_units}
use Rattle.rules.specs.Power.{power_rule, by_bits, lowest}
use Rattle.inverses.specs.Root.{root_rule, nearest_root, whole_root}
use Rattle.inverses.specs.Log.{logarithm_rule, ln_of, ln_steps, L}
use Rattle.rules.specs.Exp.{exponential_rule, exp_steps, nearest_whole}
use Rattle.algo.specs.Table.{sum_rule}
use Rattle.algo.specs.Joint.{share_rule}
use Rattle.printed.specs.Volumes.{table3a, table3b, table3c, table3d, table3e, table3f, table3g, table3h, table3i, table3j, table3k, table3l, table3m, table3n, table3o, table3p, table3q, table3r, table3s, table3t, table3u, table3v, table3w, table3x, table3y, table3z}
use Rattle.r4.specs.Saturation.{p_saturation, T_saturation}
use Rattle.boundaries.specs.Boundary.{walk_rule, row_at, table, straight3ef}
use Rattle.boundary.specs.Choice.{letter_at, ab_rule, cdef_rule, chijk_rule, clmnopjk_rule, near_rule, cq_rk_rule, csrk_rule, cst_rule, ct_rule, limit}
use Rattle.volume.specs.Equation.{volume_at, volume_by}
use Rattle.origin.specs.Origin.{origin_at}
use Rattle.volume.specs.State.{volume_from}
use Rattle.volume_at.specs.Volumes.{pT2v_at}
use Rattle.border.specs.Border.{B23_T2p, B23_p2T}
use Rattle.printed.specs.Table30.{table30}
use Rattle.helmholtz.specs.Hfe.{slope, phi, phi_delta, phi_deltadelta, share, joint_phi, joint_delta, four_delta, four_deltadelta}
use Rattle.properties.specs.Td.{Td2v, Td2p, Td2h, Td2s, Td2u, Td2cv, Td2cp, Td2w, state_pressure}
use Rattle.secant.specs.Secant.{missing_at, opened_by, start_of, trial_by, turn_of, trials_from, proposal_from, proposal_rule}
use Rattle.secant.specs.declared.Proposal.{Proposal}
use Rattle.checks.specs.Checks.{held_to, check_p_rule, check_h_rule, check_s_rule}
use Rattle.place.specs.AcceptedPlace.{density_at, densities_at, starts_of, proposed_for, accepted_at, found_on}
use Rattle.td_record.specs.Steps.{record_steps, record_after}
use Rattle.search.specs.Calls.{Th2d_reg3_rule, Ts2d_reg3_rule, Th_rule}

abbrev no_trial : Outcome Proposal → Bool
no_trial (value q) = eqb q.trials 0
no_trial (refused k) = false

abbrev is_found : Float → ℕ → Outcome Proposal → Bool
is_found x n (value q) = eqb q.trials n && (le q.place x && le x q.place)
is_found x n (refused k) = false

-- as much is missing at both start points, of which the one at 100 MPa is the newer: with the other 7 trials lead to 343.7993402271357
pub in_eight : T (is_found (decimal 343_7993402271363 13) 8 (Th2d_reg3_rule (whole 690) (decimal 2245_2370307460014 13)))
unfolding Th2d_reg3_rule missing_at opened_by start_of trial_by turn_of trials_from proposal_from proposal_rule held_to check_p_rule check_h_rule check_s_rule density_at densities_at starts_of proposed_for accepted_at found_on B23_T2p B23_p2T pT2v_at volume_from origin_at volume_at volume_by letter_at ab_rule cdef_rule chijk_rule clmnopjk_rule near_rule cq_rk_rule csrk_rule cst_rule ct_rule limit walk_rule row_at table straight3ef p_saturation T_saturation table3a table3b table3c table3d table3e table3f table3g table3h table3i table3j table3k table3l table3m table3n table3o table3p table3q table3r table3s table3t table3u table3v table3w table3x table3y table3z Td2v Td2p Td2h Td2s Td2u Td2cv Td2cp Td2w state_pressure slope phi phi_delta phi_deltadelta share joint_phi joint_delta four_delta four_deltadelta share_rule table30 sum_rule total power_rule by_bits lowest root_rule nearest_root whole_root in_units logarithm_rule ln_of ln_steps exponential_rule exp_steps nearest_whole L scaled decimal whole plus minus round neg add sub sum mul div of_int le lt eq
in_eight = tt

-- the start point at 100 MPa has that h
pub at_once : T (no_trial (Th2d_reg3_rule (whole 700) (decimal 1924_8708156845616 13)))
unfolding Th2d_reg3_rule missing_at opened_by start_of trial_by turn_of trials_from proposal_from proposal_rule held_to check_p_rule check_h_rule check_s_rule density_at densities_at starts_of proposed_for accepted_at found_on B23_T2p B23_p2T pT2v_at volume_from origin_at volume_at volume_by letter_at ab_rule cdef_rule chijk_rule clmnopjk_rule near_rule cq_rk_rule csrk_rule cst_rule ct_rule limit walk_rule row_at table straight3ef p_saturation T_saturation table3a table3b table3c table3d table3e table3f table3g table3h table3i table3j table3k table3l table3m table3n table3o table3p table3q table3r table3s table3t table3u table3v table3w table3x table3y table3z Td2v Td2p Td2h Td2s Td2u Td2cv Td2cp Td2w state_pressure slope phi phi_delta phi_deltadelta share joint_phi joint_delta four_delta four_deltadelta share_rule table30 sum_rule total power_rule by_bits lowest root_rule nearest_root whole_root in_units logarithm_rule ln_of ln_steps exponential_rule exp_steps nearest_whole L scaled decimal whole plus minus round neg add sub sum mul div of_int le lt eq
at_once = tt

-- from a start density below 0
pub from_below_0 : T (is_found (decimal 381_83445187797275 14) 5 (Th2d_reg3_rule (decimal 863_15 2) (whole 2820)))
unfolding Th2d_reg3_rule missing_at opened_by start_of trial_by turn_of trials_from proposal_from proposal_rule held_to check_p_rule check_h_rule check_s_rule density_at densities_at starts_of proposed_for accepted_at found_on B23_T2p B23_p2T pT2v_at volume_from origin_at volume_at volume_by letter_at ab_rule cdef_rule chijk_rule clmnopjk_rule near_rule cq_rk_rule csrk_rule cst_rule ct_rule limit walk_rule row_at table straight3ef p_saturation T_saturation table3a table3b table3c table3d table3e table3f table3g table3h table3i table3j table3k table3l table3m table3n table3o table3p table3q table3r table3s table3t table3u table3v table3w table3x table3y table3z Td2v Td2p Td2h Td2s Td2u Td2cv Td2cp Td2w state_pressure slope phi phi_delta phi_deltadelta share joint_phi joint_delta four_delta four_deltadelta share_rule table30 sum_rule total power_rule by_bits lowest root_rule nearest_root whole_root in_units logarithm_rule ln_of ln_steps exponential_rule exp_steps nearest_whole L scaled decimal whole plus minus round neg add sub sum mul div of_int le lt eq
from_below_0 = tt

-- accepted by the check with no trial, and its record's p is above 100
pub above : Th_rule (decimal 863_15 2) (decimal 2812_952116123153 12) ≡ refused 4
unfolding Th_rule Th2d_reg3_rule record_steps record_after missing_at opened_by start_of trial_by turn_of trials_from proposal_from proposal_rule held_to check_p_rule check_h_rule check_s_rule density_at densities_at starts_of proposed_for accepted_at found_on B23_T2p B23_p2T pT2v_at volume_from origin_at volume_at volume_by letter_at ab_rule cdef_rule chijk_rule clmnopjk_rule near_rule cq_rk_rule csrk_rule cst_rule ct_rule limit walk_rule row_at table straight3ef p_saturation T_saturation table3a table3b table3c table3d table3e table3f table3g table3h table3i table3j table3k table3l table3m table3n table3o table3p table3q table3r table3s table3t table3u table3v table3w table3x table3y table3z Td2v Td2p Td2h Td2s Td2u Td2cv Td2cp Td2w state_pressure slope phi phi_delta phi_deltadelta share joint_phi joint_delta four_delta four_deltadelta share_rule table30 sum_rule total power_rule by_bits lowest root_rule nearest_root whole_root in_units logarithm_rule ln_of ln_steps exponential_rule exp_steps nearest_whole L scaled decimal whole plus minus round neg add sub sum mul div of_int le lt eq
above = refl

-- the entropy of a start density below 0 is lost
pub lost : Ts2d_reg3_rule (decimal 863_15 2) (whole 4) ≡ refused 5
unfolding Ts2d_reg3_rule missing_at opened_by start_of trial_by turn_of trials_from proposal_from proposal_rule held_to check_p_rule check_h_rule check_s_rule density_at densities_at starts_of proposed_for accepted_at found_on B23_T2p B23_p2T pT2v_at volume_from origin_at volume_at volume_by letter_at ab_rule cdef_rule chijk_rule clmnopjk_rule near_rule cq_rk_rule csrk_rule cst_rule ct_rule limit walk_rule row_at table straight3ef p_saturation T_saturation table3a table3b table3c table3d table3e table3f table3g table3h table3i table3j table3k table3l table3m table3n table3o table3p table3q table3r table3s table3t table3u table3v table3w table3x table3y table3z Td2v Td2p Td2h Td2s Td2u Td2cv Td2cp Td2w state_pressure slope phi phi_delta phi_deltadelta share joint_phi joint_delta four_delta four_deltadelta share_rule table30 sum_rule total power_rule by_bits lowest root_rule nearest_root whole_root in_units logarithm_rule ln_of ln_steps exponential_rule exp_steps nearest_whole L scaled decimal whole plus minus round neg add sub sum mul div of_int le lt eq
lost = refl

-- the border's pressure is 100 itself, so that both start points are one
pub one_start : Th2d_reg3_rule (decimal 863_1499999999539 13) (whole 2500) ≡ refused 15
unfolding Th2d_reg3_rule missing_at opened_by start_of trial_by turn_of trials_from proposal_from proposal_rule held_to check_p_rule check_h_rule check_s_rule density_at densities_at starts_of proposed_for accepted_at found_on B23_T2p B23_p2T pT2v_at volume_from origin_at volume_at volume_by letter_at ab_rule cdef_rule chijk_rule clmnopjk_rule near_rule cq_rk_rule csrk_rule cst_rule ct_rule limit walk_rule row_at table straight3ef p_saturation T_saturation table3a table3b table3c table3d table3e table3f table3g table3h table3i table3j table3k table3l table3m table3n table3o table3p table3q table3r table3s table3t table3u table3v table3w table3x table3y table3z Td2v Td2p Td2h Td2s Td2u Td2cv Td2cp Td2w state_pressure slope phi phi_delta phi_deltadelta share joint_phi joint_delta four_delta four_deltadelta share_rule table30 sum_rule total power_rule by_bits lowest root_rule nearest_root whole_root in_units logarithm_rule ln_of ln_steps exponential_rule exp_steps nearest_whole L scaled decimal whole plus minus round neg add sub sum mul div of_int le lt eq
one_start = refl
