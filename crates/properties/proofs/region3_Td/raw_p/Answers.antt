-- `properties::region3_Td::raw_p`: the proof is the formula, tested once at its end.
use Rattle.common.proofs.Formulas.{raw_value, raw_check, at, ◌*ʳ◌}
use mathlib.Core.Path.{refl}
use lib.Ieee.{of_bits}
use Rattle.common.specs.Decimal.{decimal, scaled}
use Rattle.helmholtz.specs.Hfe.{phi_delta}
use Rattle.properties.specs.Td.{Td2p}
use Rattle.helmholtz.proofs.Steps.{R}
use Rattle.common.proofs.Numbers.{tested}
use Rattle.properties.proofs.region3_Td.raw_p.Goals as goal

pub returns : goal.returns
unfolding of_bits decimal scaled Td2p
returns c =
    let a = c.args in
    let T = raw_check a.t.0 in
    let d = raw_check a.d.0 in
    let τ = c.tau_of-tau.ensures.raw in
    let δ = c.delta_of-delta.ensures.raw in
    let φδ = at phi_delta δ τ c.phi_delta_reg3.ensures.raw in
    tested (raw_value (decimal 0_001 3) refl *ʳ d *ʳ R *ʳ T *ʳ δ *ʳ φδ) c.finite_or_nan.ensures
