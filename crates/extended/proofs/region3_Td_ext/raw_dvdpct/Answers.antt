-- `extended::region3_Td_ext::raw_dvdpct`: the proof is the formula, tested once at its end.
use Rattle.common.proofs.Formulas.{raw_value, raw_minus, raw_check, at, named, ◌+ʳ◌, ◌*ʳ◌, ◌/ʳ◌}
use mathlib.Core.Path.{refl}
use lib.Ieee.{of_bits}
use Rattle.common.specs.Decimal.{decimal, whole, scaled}
use Rattle.helmholtz.specs.Hfe.{phi_delta, phi_deltadelta}
use Rattle.extended.specs.Ext.{Td2dvdpct}
use Rattle.helmholtz.proofs.Steps.{R, ρc}
use Rattle.common.proofs.Numbers.{tested}
use Rattle.extended.proofs.region3_Td_ext.raw_dvdpct.Goals as goal

pub returns : goal.returns
unfolding of_bits decimal whole scaled Td2dvdpct
returns c =
    let a = c.args in
    let T = raw_check a.t.0 in
    let d = raw_check a.d.0 in
    let τ = c.tau_of-tau.ensures.raw in
    let δ = c.delta_of-delta.ensures.raw in
    let φδ = at phi_delta δ τ c.phi_delta_reg3-phi_delta.ensures.raw in
    let φδδ = at phi_deltadelta δ τ c.phi_deltadelta_reg3-phi_deltadelta.ensures.raw in
    let below = d *ʳ R *ʳ T *ʳ (raw_value (whole 2) refl *ʳ φδ +ʳ δ *ʳ φδδ) in
    let once = named c.over.ensures (raw_minus (raw_value (whole 1000) refl) *ʳ ρc /ʳ d) in
    tested (named c.over-3.ensures (named c.over-2.ensures (once /ʳ d) /ʳ below)) c.finite_or_nan.ensures
