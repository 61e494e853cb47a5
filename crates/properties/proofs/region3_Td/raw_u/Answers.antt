-- `properties::region3_Td::raw_u`: the proof is the formula, tested once at its end.
use Rattle.common.proofs.Formulas.{raw_check, at, ◌*ʳ◌}
use lib.Ieee.{of_bits}
use Rattle.common.specs.Decimal.{decimal, scaled}
use Rattle.helmholtz.specs.Hfe.{phi_tau}
use Rattle.properties.specs.Td.{Td2u}
use Rattle.helmholtz.proofs.Steps.{R}
use Rattle.common.proofs.Numbers.{tested}
use Rattle.properties.proofs.region3_Td.raw_u.Goals as goal

pub returns : goal.returns
unfolding of_bits decimal scaled Td2u
returns c =
    let T = raw_check c.args.t.0 in
    let τ = c.tau_of-tau.ensures.raw in
    let δ = c.delta_of-delta.ensures.raw in
    tested (R *ʳ T *ʳ τ *ʳ at phi_tau δ τ c.phi_tau_reg3.ensures.raw) c.finite_or_nan.ensures
