-- `extended_with_p::state_ks`: p is tested at its place (TestedP), and the rest is the formula.
use Rattle.common.proofs.Formulas.{raw_value, raw_check, named, ◌*ʳ◌, ◌/ʳ◌}
use mathlib.Core.Path.{refl}
use lib.Ieee.{of_bits}
use Rattle.common.specs.Decimal.{scaled}
use Rattle.properties.specs.Td.{state_pressure}
use Rattle.properties.proofs.Together.{w_number}
use Rattle.extended_with_p.specs.WithP.{Td2ks}
use Rattle.extended_with_p.proofs.TestedP.{then_p}
use Rattle.extended_with_p.proofs.state_ks.Goals as goal

pub returns : goal.returns
unfolding of_bits scaled state_pressure Td2ks
returns c =
    let a = c.args in
    let d = raw_check a.d.0 in
    let w = (w_number a.t.0 a.d.0 c.raw_cp_w-w.ensures.1).raw in
    rw (c.with_tested_p.ensures, c.lost_or.ensures)
    (then_p c.over.result _ w c.raw_p-p.ensures.raw
    (λ fw fp. named c.over.ensures (raw_value _ refl *ʳ raw_value _ fw *ʳ raw_value _ fw *ʳ d /ʳ raw_value _ fp)))
