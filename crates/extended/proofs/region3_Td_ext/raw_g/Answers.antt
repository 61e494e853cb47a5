-- `extended::region3_Td_ext::raw_g`: the proof is the formula, tested once at its end.
use Rattle.common.proofs.Formulas.{raw_check, at, ◌+ʳ◌, ◌*ʳ◌}
use lib.Ieee.{of_bits}
use Rattle.common.specs.Decimal.{decimal, scaled}
use Rattle.helmholtz.specs.Hfe.{phi, phi_delta}
use Rattle.extended.specs.Ext.{Td2g}
use Rattle.helmholtz.proofs.Steps.{R}
use Rattle.common.proofs.Numbers.{tested}
use Rattle.extended.proofs.region3_Td_ext.raw_g.Goals as goal

pub returns : goal.returns
unfolding of_bits decimal scaled Td2g
returns c =
    let T = raw_check c.args.t.0 in
    let τ = c.tau_of-tau.ensures.raw in
    let δ = c.delta_of-delta.ensures.raw in
    tested (R *ʳ T *ʳ (at phi δ τ c.phi_reg3-phi.ensures.raw +ʳ δ *ʳ at phi_delta δ τ c.phi_delta_reg3-phi_delta.ensures.raw)) c.finite_or_nan.ensures
