-- (p,v) at the odd places of docs/SCOPE.md, from the definitions. Worked out by antt. Assumes nothing.
use mathlib.Core.Path.{◌≡◌, refl}
use mathlib.Core.Bool.{Bool, false, ◌&&◌}
use Prim.Native.Nat.{ℕ}
use lib.Dec.{eqb, T}
use lib.Ieee.{Float, nan, round, neg, add, sub, sum, mul, div, of_int, le, lt, eq}
use Rattle.common.specs.Decimal.{scaled, decimal, whole, plus, minus}
use Rattle.common.specs.Outcome.{Outcome, value, refused, zero_f}
use Rattle.common.specs.Sum.{total}
use Rattle.inverses.specs.Units.{in_units}
use Rattle.rules.specs.Power.{power_rule, by_bits, lowest}
use Rattle.inverses.specs.Root.{root_rule, nearest_root, whole_root}
use Rattle.inverses.specs.Log.{logarithm_rule, ln_of, ln_steps, L}
use Rattle.rules.specs.Exp.{exponential_rule, exp_steps, nearest_whole}
use Rattle.algo.specs.Table.{sum_rule}
use Rattle.algo.specs.Joint.{share_rule}
use Rattle.border.specs.Border.{B23_T2p, B23_p2T}
use Rattle.printed.specs.Table30.{table30}
use Rattle.helmholtz.specs.Hfe.{slope, phi, phi_delta, phi_deltadelta, share, joint_phi, joint_delta, four_delta, four_deltadelta}
use Rattle.properties.specs.Td.{Td2v, Td2p, Td2h, Td2s, Td2u, Td2cv, Td2cp, Td2w, state_pressure}
use Rattle.secant.specs.Secant.{missing_at, opened_by, start_of, trial_by, turn_of, trials_from, proposal_from, proposal_rule}
use Rattle.secant.specs.declared.Proposal.{Proposal}
use Rattle.checks.specs.Checks.{held_to, check_p_rule, check_h_rule, check_s_rule}
use Rattle.place.specs.AcceptedPlace.{density_at, densities_at, starts_of, proposed_for, accepted_at, found_on}
use Rattle.td_record.specs.Steps.{record_steps, record_after}
use Rattle.search.specs.Calls.{Searched, pv2T_reg3_rule, pv_rule}

abbrev holds_v : Float → Outcome Searched → Bool
holds_v v (value a) = le a.state.v v && le v a.state.v
holds_v v (refused k) = false

abbrev is_found : Float → ℕ → Outcome Proposal → Bool
is_found x n (value q) = eqb q.trials n && (le q.place x && le x q.place)
is_found x n (refused k) = false

pub in_five : T (is_found (decimal 697_54983343387 11) 5 (pv2T_reg3_rule (whole 50) (decimal 0_002 3)))
unfolding pv2T_reg3_rule missing_at opened_by start_of trial_by turn_of trials_from proposal_from proposal_rule held_to check_p_rule check_h_rule check_s_rule density_at densities_at starts_of proposed_for accepted_at found_on B23_T2p B23_p2T Td2v Td2p Td2h Td2s Td2u Td2cv Td2cp Td2w state_pressure slope phi phi_delta phi_deltadelta share joint_phi joint_delta four_delta four_deltadelta share_rule table30 sum_rule total power_rule by_bits lowest root_rule nearest_root whole_root in_units logarithm_rule ln_of ln_steps exponential_rule exp_steps nearest_whole L scaled decimal whole plus minus round neg add sub sum mul div of_int le lt eq
in_five = tt

-- the border is 623.15 itself, so that both start points are one: no trial, and the check refuses
pub one_start : pv2T_reg3_rule (decimal 16_529164252604808 15) (decimal 0_0013157015192282405 19) ≡ refused 15
unfolding pv2T_reg3_rule missing_at opened_by start_of trial_by turn_of trials_from proposal_from proposal_rule held_to check_p_rule check_h_rule check_s_rule density_at densities_at starts_of proposed_for accepted_at found_on B23_T2p B23_p2T Td2v Td2p Td2h Td2s Td2u Td2cv Td2cp Td2w state_pressure slope phi phi_delta phi_deltadelta share joint_phi joint_delta four_delta four_deltadelta share_rule table30 sum_rule total power_rule by_bits lowest root_rule nearest_root whole_root in_units logarithm_rule ln_of ln_steps exponential_rule exp_steps nearest_whole L scaled decimal whole plus minus round neg add sub sum mul div of_int le lt eq
one_start = refl

-- the p of the state is above 100
pub above : pv2T_reg3_rule (whole 100) (decimal 0_001533061262553137 18) ≡ refused 4
unfolding pv2T_reg3_rule missing_at opened_by start_of trial_by turn_of trials_from proposal_from proposal_rule held_to check_p_rule check_h_rule check_s_rule density_at densities_at starts_of proposed_for accepted_at found_on B23_T2p B23_p2T Td2v Td2p Td2h Td2s Td2u Td2cv Td2cp Td2w state_pressure slope phi phi_delta phi_deltadelta share joint_phi joint_delta four_delta four_deltadelta share_rule table30 sum_rule total power_rule by_bits lowest root_rule nearest_root whole_root in_units logarithm_rule ln_of ln_steps exponential_rule exp_steps nearest_whole L scaled decimal whole plus minus round neg add sub sum mul div of_int le lt eq
above = refl

-- a NaN before the ranges; p's range before v's; 1/0 is outside
pub outside :
    (pv2T_reg3_rule nan zero_f ≡ refused 1)
    × (pv2T_reg3_rule (whole 101) zero_f ≡ refused 2)
    × (pv2T_reg3_rule (whole 50) zero_f ≡ refused 3)
unfolding pv2T_reg3_rule scaled decimal whole round div le
outside = (refl, refl, refl)

-- the record's v is 1/d, and not the asked one
pub not_asked : T (holds_v (decimal 0_00683270975577216 17) (pv_rule (decimal 24_99 2) (decimal 0_0068327097557721594 19)))
unfolding pv_rule pv2T_reg3_rule record_steps record_after missing_at opened_by start_of trial_by turn_of trials_from proposal_from proposal_rule held_to check_p_rule check_h_rule check_s_rule density_at densities_at starts_of proposed_for accepted_at found_on B23_T2p B23_p2T Td2v Td2p Td2h Td2s Td2u Td2cv Td2cp Td2w state_pressure slope phi phi_delta phi_deltadelta share joint_phi joint_delta four_delta four_deltadelta share_rule table30 sum_rule total power_rule by_bits lowest root_rule nearest_root whole_root in_units logarithm_rule ln_of ln_steps exponential_rule exp_steps nearest_whole L scaled decimal whole plus minus round neg add sub sum mul div of_int le lt eq
not_asked = tt
