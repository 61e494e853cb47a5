-- `properties::region3_Td::w_over`: the proof is the formula, tested once at its end.
use Rattle.common.proofs.Formulas.{raw_value, raw_check, named, ◌+ʳ◌, ◌-ʳ◌, ◌*ʳ◌, ◌/ʳ◌}
use mathlib.Core.Path.{refl}
use lib.Ieee.{of_bits, binary64}
use lib.Ieee.Fits.{mul-fits}
use Rattle.common.specs.Decimal.{decimal, whole, scaled}
use Rattle.inverses.proofs.Formulas.{raw_root_of}
use Rattle.helmholtz.proofs.Steps.{R}
use Rattle.common.proofs.Numbers.{tested}
use Rattle.properties.proofs.region3_Td.w_over.Goals as goal

pub returns : goal.returns
unfolding of_bits decimal whole scaled
returns c =
    let g = c.args in
    let φ = g.phi in
    let T = raw_check g.t.0 in
    let δ = raw_check g.delta in
    let τ = raw_check g.tau in
    let φδ = raw_check φ.delta in
    let two = raw_value (whole 2) refl in
    let a = δ *ʳ φδ -ʳ δ *ʳ τ *ʳ raw_check φ.deltatau in
    let below = τ *ʳ τ *ʳ raw_check φ.tautau in
    let sum = two *ʳ δ *ʳ φδ +ʳ δ *ʳ δ *ʳ raw_check φ.deltadelta -ʳ named c.over.ensures (a *ʳ a /ʳ below) in
    tested (named c.raw_root.ensures (raw_root_of (mul-fits binary64 _ _) (raw_value (whole 1000) refl *ʳ R *ʳ T *ʳ sum))) c.finite_or_nan.ensures
