-- `properties::region3_Td::delta_of`: the proof is the formula, tested once at its end.
use Rattle.common.proofs.Formulas.{raw_div, raw_check}
use lib.Ieee.{of_bits}
use mathlib.Core.Path.{refl}
use Rattle.common.specs.Decimal.{whole, scaled}
use Rattle.helmholtz.proofs.Steps.{ρc}
use Rattle.common.proofs.Numbers.{tested}
use Rattle.properties.proofs.region3_Td.delta_of.Goals as goal

pub returns : goal.returns
unfolding of_bits whole scaled
returns c = tested (raw_div refl (raw_check c.args.d.0) ρc) c.finite_or_nan.ensures
