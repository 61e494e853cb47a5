-- `extended::region3_Td_ext::raw_fi`: the proof is the formula, tested once at its end.
use Rattle.common.proofs.Formulas.{raw_div, raw_check, named, ◌/ʳ◌}
use mathlib.Core.Path.{refl}
use lib.Ieee.{of_bits}
use Rattle.common.specs.Decimal.{decimal, scaled}
use Rattle.rules.proofs.Formulas.{raw_exponential_of}
use Rattle.extended.specs.Ext.{Td2fi}
use Rattle.helmholtz.proofs.Steps.{R}
use Rattle.common.proofs.Numbers.{tested}
use Rattle.extended.proofs.region3_Td_ext.raw_fi.Goals as goal

pub returns : goal.returns
unfolding of_bits decimal scaled Td2fi
returns c =
    let g = c.raw_g.ensures.raw in
    let x = raw_div refl g R in
    tested (named c.raw_exponential.ensures (raw_exponential_of (named c.over.ensures (x /ʳ raw_check c.args.t.0)))) c.finite_or_nan.ensures
