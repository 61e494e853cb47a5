-- `extended::region3_Td_ext::raw_e`: the proof is the formula, tested once at its end.
use Rattle.common.proofs.Formulas.{raw_check, at, ◌+ʳ◌, ◌-ʳ◌, ◌*ʳ◌}
use lib.Ieee.{of_bits}
use Rattle.common.specs.Decimal.{decimal, scaled}
use Rattle.helmholtz.specs.Hfe.{phi, phi_delta, phi_tau}
use Rattle.extended.specs.Ext.{Td2e}
use Rattle.helmholtz.proofs.Steps.{R, Tt}
use Rattle.common.proofs.Numbers.{tested}
use Rattle.extended.proofs.region3_Td_ext.raw_e.Goals as goal

pub returns : goal.returns
unfolding of_bits decimal scaled Td2e
returns c =
    let T = raw_check c.args.t.0 in
    let τ = c.tau_of-tau.ensures.raw in
    let δ = c.delta_of-delta.ensures.raw in
    let φ = at phi δ τ c.phi_reg3-phi.ensures.raw in
    let φδ = at phi_delta δ τ c.phi_delta_reg3-phi_delta.ensures.raw in
    let φτ = at phi_tau δ τ c.phi_tau_reg3-phi_tau.ensures.raw in
    tested (R *ʳ (T *ʳ (φ +ʳ δ *ʳ φδ) +ʳ (T -ʳ Tt) *ʳ τ *ʳ (φτ -ʳ φ))) c.finite_or_nan.ensures
