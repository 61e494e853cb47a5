-- `extended_with_p::state_batap`: p is tested at its place (TestedP), and the rest is the formula.
use Rattle.common.proofs.Formulas.{raw_value, raw_check, named, ◌*ʳ◌, ◌/ʳ◌}
use Rattle.properties.specs.Td.{state_pressure}
use Rattle.extended_with_p.specs.WithP.{Td2batap}
use Rattle.extended_with_p.proofs.TestedP.{then_p}
use Rattle.extended_with_p.proofs.state_batap.Goals as goal

pub returns : goal.returns
unfolding state_pressure Td2batap
returns c =
    let d = raw_check c.args.d.0 in
    rw (c.with_tested_p.ensures, c.lost_or.ensures)
    (then_p c.over.result _ c.raw_kt-kt.ensures.raw c.raw_p-p.ensures.raw
    (λ fk fp. named c.over.ensures (d /ʳ (raw_value _ fp *ʳ raw_value _ fk))))
