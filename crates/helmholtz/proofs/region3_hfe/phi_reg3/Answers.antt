-- `helmholtz::region3_hfe::phi_reg3`: the proof is the formula, tested once at its end.
use Rattle.common.proofs.Formulas.{raw_check, named, ◌+ʳ◌, ◌*ʳ◌}
use mathlib.Core.Path.{sym, subst}
use lib.Dec.{T}
use lib.Ieee.{of_bits}
use Rattle.common.specs.Decimal.{scaled, plus}
use Rattle.inverses.proofs.Formulas.{raw_logarithm_of}
use Rattle.helmholtz.specs.Hfe.{phi}
use Rattle.helmholtz.proofs.Steps.{n₁}
use Rattle.common.proofs.Numbers.{tested}
use Rattle.helmholtz.proofs.region3_hfe.phi_reg3.Goals as goal

pub returns : goal.returns
unfolding of_bits plus scaled phi
returns c =
    let ln = raw_logarithm_of (subst T (sym c.well_formed.0.1) tt) (raw_check c.args.delta) in
    tested (n₁ *ʳ named c.raw_logarithm.ensures ln +ʳ c.sum.ensures.raw) c.finite_or_nan.ensures
