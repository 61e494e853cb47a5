-- `extended_with_p::state_z`: p is tested at its place (TestedP), and the rest is the formula.
use Rattle.common.proofs.Formulas.{raw_value, raw_div, raw_check, named, ◌*ʳ◌, ◌/ʳ◌}
use mathlib.Core.Path.{refl}
use lib.Ieee.{of_bits}
use Rattle.common.specs.Decimal.{decimal, whole, scaled}
use Rattle.properties.specs.Td.{state_pressure}
use Rattle.extended_with_p.specs.WithP.{Td2z}
use Rattle.extended_with_p.proofs.TestedP.{then_p}
use Rattle.helmholtz.proofs.Steps.{R}
use Rattle.extended_with_p.proofs.state_z.Goals as goal

pub returns : goal.returns
unfolding of_bits decimal whole scaled state_pressure Td2z
returns c =
    let t = c.args.t.0 in
    let v = c.raw_v-v.ensures.raw in
    let p = c.raw_p-p.ensures.raw in
    rw (c.with_tested_p.ensures, c.lost_or.ensures)
    (then_p c.over.result _ v p
    (λ fv fp. named c.over.ensures (raw_div refl (raw_value (whole 1000) refl *ʳ raw_value _ fp *ʳ raw_value _ fv) R /ʳ raw_check t)))
