-- `helmholtz::region3_hfe::polys_i_j_powi_reg3`: the proof is the formula, tested once at its end.
use Rattle.common.proofs.Formulas.{raw_check, named, ◌+ʳ◌, ◌/ʳ◌}
use lib.Ieee.{of_bits}
use Rattle.common.specs.Decimal.{scaled, plus}
use Rattle.helmholtz.specs.Hfe.{joint_delta}
use Rattle.helmholtz.proofs.Steps.{n₁}
use Rattle.common.proofs.Numbers.{tested}
use Rattle.helmholtz.proofs.region3_hfe.polys_i_j_powi_reg3.Goals as goal

pub returns : goal.returns
unfolding of_bits plus scaled joint_delta
returns c =
    let joint = c.pair-joint.ensures in
    (tested (joint.0.raw +ʳ named c.over.ensures (n₁ /ʳ raw_check c.args.delta)) c.finite_or_nan.ensures, joint.1)
