-- `helmholtz::region3_hfe::polys_i_ii_ij_jj_powi_reg3`: the proof is the formula, tested once at its end.
use Rattle.common.proofs.Formulas.{raw_minus, raw_check, named, ◌+ʳ◌, ◌/ʳ◌}
use lib.Ieee.{of_bits}
use Rattle.common.specs.Decimal.{scaled, plus}
use Rattle.helmholtz.specs.Hfe.{four_delta, four_deltadelta}
use Rattle.helmholtz.proofs.Steps.{n₁}
use Rattle.common.proofs.Numbers.{tested}
use Rattle.helmholtz.proofs.region3_hfe.polys_i_ii_ij_jj_powi_reg3.Goals as goal

pub returns : goal.returns
unfolding of_bits plus scaled four_delta four_deltadelta
returns c =
    let δ = raw_check c.args.delta in
    let joint = c.four-joint.ensures in
    let once = named c.over-2.ensures (raw_minus n₁ /ʳ δ) in (
      tested (named c.over.ensures (n₁ /ʳ δ) +ʳ joint.0.raw) c.finite_or_nan.ensures,
      tested (named c.over-3.ensures (once /ʳ δ) +ʳ joint.1.raw) c.finite_or_nan-2.ensures,
      joint.2,
      joint.3,
    )
