-- `extended_with_p::state_alfap`: p is tested at its place (TestedP), and the rest is the formula.
use Rattle.common.proofs.Formulas.{raw_value, named, ◌/ʳ◌}
use mathlib.Core.Path.{◌∙◌}
use Rattle.properties.specs.Td.{state_pressure}
use Rattle.extended_with_p.specs.WithP.{Td2alfap}
use Rattle.extended_with_p.proofs.TestedP.{first_p}
use Rattle.extended_with_p.proofs.state_alfap.Goals as goal

pub returns : goal.returns
unfolding state_pressure Td2alfap
returns c =
    let ec = c.raw_ec-ec.ensures.raw in
    let kt = c.raw_kt-kt.ensures.raw in
    c.with_tested_p.ensures
    ∙ first_p _ _ c.raw_p-p.ensures.raw
    (λ fp. named c.over-2.ensures (named c.over.ensures (ec /ʳ raw_value _ fp) /ʳ kt))
