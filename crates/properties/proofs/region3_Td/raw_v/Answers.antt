-- `properties::region3_Td::raw_v`: the proof is the formula, tested once at its end.
use Rattle.common.proofs.Formulas.{raw_value, raw_check, named, ◌/ʳ◌}
use mathlib.Core.Path.{refl}
use lib.Ieee.{of_bits}
use Rattle.common.specs.Decimal.{whole, scaled}
use Rattle.properties.specs.Td.{Td2v}
use Rattle.common.proofs.Numbers.{tested}
use Rattle.properties.proofs.region3_Td.raw_v.Goals as goal

pub returns : goal.returns
unfolding of_bits whole scaled Td2v
returns c = tested (named c.over.ensures (raw_value (whole 1) refl /ʳ raw_check c.args.d.0)) c.finite_or_nan.ensures
