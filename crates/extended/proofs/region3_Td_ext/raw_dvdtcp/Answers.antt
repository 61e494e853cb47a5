-- `extended::region3_Td_ext::raw_dvdtcp`: the proof is the formula, tested once at its end.
use Rattle.common.proofs.Formulas.{raw_value, raw_check, at, named, ◌+ʳ◌, ◌-ʳ◌, ◌*ʳ◌, ◌/ʳ◌}
use mathlib.Core.Path.{refl}
use lib.Ieee.{of_bits}
use Rattle.common.specs.Decimal.{whole, scaled}
use Rattle.helmholtz.specs.Hfe.{phi_delta, phi_deltadelta, phi_deltatau}
use Rattle.extended.specs.Ext.{Td2dvdtcp}
use Rattle.common.proofs.Numbers.{tested}
use Rattle.extended.proofs.region3_Td_ext.raw_dvdtcp.Goals as goal

pub returns : goal.returns
unfolding of_bits whole scaled Td2dvdtcp
returns c =
    let a = c.args in
    let τ = c.tau_of-tau.ensures.raw in
    let δ = c.delta_of-delta.ensures.raw in
    let φδ = at phi_delta δ τ c.phi_delta_reg3-phi_delta.ensures.raw in
    let φδτ = at phi_deltatau δ τ c.phi_deltatau_reg3-phi_deltatau.ensures.raw in
    let φδδ = at phi_deltadelta δ τ c.phi_deltadelta_reg3-phi_deltadelta.ensures.raw in
    let d1 = φδ -ʳ τ *ʳ φδτ in
    let d2 = raw_value (whole 2) refl *ʳ φδ +ʳ δ *ʳ φδδ in
    let once = named c.over.ensures (d1 /ʳ d2) in
    tested (named c.over-3.ensures (named c.over-2.ensures (once /ʳ raw_check a.t.0) /ʳ raw_check a.d.0)) c.finite_or_nan.ensures
