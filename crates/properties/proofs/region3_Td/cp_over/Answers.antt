-- `properties::region3_Td::cp_over`: the proof is the formula, tested once at its end.
use Rattle.common.proofs.Formulas.{raw_value, raw_check, raw_minus, named, ◌+ʳ◌, ◌-ʳ◌, ◌*ʳ◌, ◌/ʳ◌}
use mathlib.Core.Path.{refl}
use lib.Ieee.{of_bits}
use Rattle.common.specs.Decimal.{decimal, whole, scaled}
use Rattle.helmholtz.proofs.Steps.{R}
use Rattle.common.proofs.Numbers.{tested}
use Rattle.properties.proofs.region3_Td.cp_over.Goals as goal

pub returns : goal.returns
unfolding of_bits decimal whole scaled
returns c =
    let g = c.args in
    let φ = g.phi in
    let δ = raw_check g.delta in
    let τ = raw_check g.tau in
    let φδ = raw_check φ.delta in
    let a = δ *ʳ (φδ -ʳ τ *ʳ raw_check φ.deltatau) in
    let b = δ *ʳ (raw_value (whole 2) refl *ʳ φδ +ʳ δ *ʳ raw_check φ.deltadelta) in
    tested (R *ʳ (raw_minus τ *ʳ τ *ʳ raw_check φ.tautau +ʳ named c.over.ensures (a *ʳ a /ʳ b))) c.finite_or_nan.ensures
