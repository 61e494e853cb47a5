-- `extended::region3_Td_ext::raw_dpdtcv`: the proof is the formula, tested once at its end.
use Rattle.common.proofs.Formulas.{raw_value, raw_check, at, ◌-ʳ◌, ◌*ʳ◌}
use mathlib.Core.Path.{refl}
use lib.Ieee.{of_bits}
use Rattle.common.specs.Decimal.{decimal, scaled}
use Rattle.helmholtz.specs.Hfe.{phi_delta, phi_deltatau}
use Rattle.extended.specs.Ext.{Td2dpdtcv}
use Rattle.helmholtz.proofs.Steps.{R}
use Rattle.common.proofs.Numbers.{tested}
use Rattle.extended.proofs.region3_Td_ext.raw_dpdtcv.Goals as goal

pub returns : goal.returns
unfolding of_bits decimal scaled Td2dpdtcv
returns c =
    let d = raw_check c.args.d.0 in
    let τ = c.tau_of-tau.ensures.raw in
    let δ = c.delta_of-delta.ensures.raw in
    let φδ = at phi_delta δ τ c.phi_delta_reg3-phi_delta.ensures.raw in
    let φδτ = at phi_deltatau δ τ c.phi_deltatau_reg3-phi_deltatau.ensures.raw in
    tested (raw_value (decimal 0_001 3) refl *ʳ R *ʳ d *ʳ δ *ʳ (φδ -ʳ τ *ʳ φδτ)) c.finite_or_nan.ensures
