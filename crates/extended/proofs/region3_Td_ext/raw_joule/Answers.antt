-- `extended::region3_Td_ext::raw_joule`: the proof is the formula, tested once at its end.
use Rattle.common.proofs.Formulas.{raw_value, raw_minus, raw_check, at, named, ◌+ʳ◌, ◌-ʳ◌, ◌*ʳ◌, ◌/ʳ◌}
use mathlib.Core.Path.{refl}
use lib.Ieee.{of_bits}
use Rattle.common.specs.Decimal.{decimal, whole, scaled}
use Rattle.helmholtz.specs.Hfe.{phi_delta, phi_deltadelta, phi_tautau, phi_deltatau}
use Rattle.extended.specs.Ext.{Td2joule}
use Rattle.helmholtz.proofs.Steps.{R}
use Rattle.common.proofs.Numbers.{tested}
use Rattle.extended.proofs.region3_Td_ext.raw_joule.Goals as goal

pub returns : goal.returns
unfolding of_bits decimal whole scaled Td2joule
returns c =
    let T = raw_check c.args.t.0 in
    let τ = c.tau_of-tau.ensures.raw in
    let δ = c.delta_of-delta.ensures.raw in
    let v = c.raw_v-v.ensures.raw in
    let φδ = at phi_delta δ τ c.phi_delta_reg3-phi_delta.ensures.raw in
    let φδτ = at phi_deltatau δ τ c.phi_deltatau_reg3-phi_deltatau.ensures.raw in
    let φδδ = at phi_deltadelta δ τ c.phi_deltadelta_reg3-phi_deltadelta.ensures.raw in
    let φττ = at phi_tautau δ τ c.phi_tautau_reg3-phi_tautau.ensures.raw in
    let one = raw_value (whole 1) refl in
    let d1 = φδ -ʳ τ *ʳ φδτ in
    let d2 = raw_value (whole 2) refl *ʳ φδ +ʳ δ *ʳ φδδ in
    let a = δ *ʳ d1 in
    let cp = R *ʳ (raw_minus one *ʳ τ *ʳ τ *ʳ φττ +ʳ named c.over.ensures (a *ʳ a /ʳ (δ *ʳ d2))) in
    let cex = named c.over-cex.ensures (named c.over-2.ensures (d1 /ʳ d2) /ʳ T) in
    tested (raw_value (whole 1000) refl *ʳ named c.over-3.ensures (v /ʳ cp) *ʳ (T *ʳ cex -ʳ one)) c.finite_or_nan.ensures
