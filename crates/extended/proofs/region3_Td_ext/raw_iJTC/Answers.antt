-- `extended::region3_Td_ext::raw_iJTC`: the proof is the formula, tested once at its end.
use Rattle.common.proofs.Formulas.{raw_value, raw_div, raw_minus, ◌*ʳ◌}
use mathlib.Core.Path.{refl}
use lib.Ieee.{of_bits}
use Rattle.common.specs.Decimal.{whole, scaled}
use Rattle.properties.proofs.Together.{cp_number}
use Rattle.extended.specs.Ext.{Td2iJTC}
use Rattle.common.proofs.Numbers.{tested}
use Rattle.extended.proofs.region3_Td_ext.raw_iJTC.Goals as goal

pub returns : goal.returns
unfolding of_bits whole scaled Td2iJTC
returns c =
    let a = c.args in
    let cp = (cp_number a.t.0 a.d.0 c.raw_cp_w-both.ensures.0).raw in
    tested (raw_div refl (raw_minus cp *ʳ c.raw_joule.ensures.raw) (raw_value (whole 1000) refl)) c.finite_or_nan.ensures
