-- `properties::region3_Td::raw_s`: the proof is the formula, tested once at its end.
use Rattle.common.proofs.Formulas.{at, ◌-ʳ◌, ◌*ʳ◌}
use lib.Ieee.{of_bits}
use Rattle.common.specs.Decimal.{decimal, scaled}
use Rattle.helmholtz.specs.Hfe.{joint_phi, joint_tau}
use Rattle.properties.specs.Td.{Td2s}
use Rattle.helmholtz.proofs.Steps.{R}
use Rattle.common.proofs.Numbers.{tested}
use Rattle.properties.proofs.region3_Td.raw_s.Goals as goal

pub returns : goal.returns
unfolding of_bits decimal scaled Td2s
returns c =
    let τ = c.tau_of-tau.ensures.raw in
    let δ = c.delta_of-delta.ensures.raw in
    let joint = c.polys_0_j_powi_reg3-joint.ensures in
    tested (R *ʳ (τ *ʳ at joint_tau δ τ joint.1.raw -ʳ at joint_phi δ τ joint.0.raw)) c.finite_or_nan.ensures
