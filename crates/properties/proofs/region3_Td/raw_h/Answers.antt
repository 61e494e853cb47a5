-- `properties::region3_Td::raw_h`: the proof is the formula, tested once at its end.
use Rattle.common.proofs.Formulas.{raw_check, at, ◌+ʳ◌, ◌*ʳ◌}
use lib.Ieee.{of_bits}
use Rattle.common.specs.Decimal.{decimal, scaled}
use Rattle.helmholtz.specs.Hfe.{joint_tau, joint_delta}
use Rattle.properties.specs.Td.{Td2h}
use Rattle.helmholtz.proofs.Steps.{R}
use Rattle.common.proofs.Numbers.{tested}
use Rattle.properties.proofs.region3_Td.raw_h.Goals as goal

pub returns : goal.returns
unfolding of_bits decimal scaled Td2h
returns c =
    let T = raw_check c.args.t.0 in
    let τ = c.tau_of-tau.ensures.raw in
    let δ = c.delta_of-delta.ensures.raw in
    let joint = c.polys_i_j_powi_reg3-joint.ensures in
    tested (R *ʳ T *ʳ (τ *ʳ at joint_tau δ τ joint.1.raw +ʳ δ *ʳ at joint_delta δ τ joint.0.raw)) c.finite_or_nan.ensures
