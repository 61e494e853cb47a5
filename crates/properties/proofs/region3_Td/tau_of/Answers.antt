-- `properties::region3_Td::tau_of`: the proof is the formula, tested once at its end.
use Rattle.common.proofs.Formulas.{raw_check, named, ◌/ʳ◌}
use lib.Ieee.{of_bits}
use Rattle.common.specs.Decimal.{decimal, scaled}
use Rattle.helmholtz.proofs.Steps.{Tc}
use Rattle.common.proofs.Numbers.{tested}
use Rattle.properties.proofs.region3_Td.tau_of.Goals as goal

pub returns : goal.returns
unfolding of_bits decimal scaled
returns c = tested (named c.over.ensures (Tc /ʳ raw_check c.args.t.0)) c.finite_or_nan.ensures
