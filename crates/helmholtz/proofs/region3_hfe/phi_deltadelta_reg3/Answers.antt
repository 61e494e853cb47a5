-- `helmholtz::region3_hfe::phi_deltadelta_reg3`: the proof is the formula, tested once at its end.
use Rattle.common.proofs.Formulas.{raw_minus, raw_check, named, ◌+ʳ◌, ◌/ʳ◌}
use lib.Ieee.{of_bits}
use Rattle.common.specs.Decimal.{scaled, plus}
use Rattle.helmholtz.specs.Hfe.{phi_deltadelta}
use Rattle.helmholtz.proofs.Steps.{n₁}
use Rattle.common.proofs.Numbers.{tested}
use Rattle.helmholtz.proofs.region3_hfe.phi_deltadelta_reg3.Goals as goal

pub returns : goal.returns
unfolding of_bits plus scaled phi_deltadelta
returns c =
    let δ = raw_check c.args.delta in
    let once = named c.over.ensures (raw_minus n₁ /ʳ δ) in
    tested (named c.over-2.ensures (once /ʳ δ) +ʳ c.sum.ensures.raw) c.finite_or_nan.ensures
