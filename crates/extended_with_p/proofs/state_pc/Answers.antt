-- `extended_with_p::state_pc`: p is tested at its place (TestedP), and the rest is the formula.
use Rattle.common.proofs.Formulas.{raw_value, named, ◌*ʳ◌, ◌/ʳ◌}
use mathlib.Core.Path.{refl, ◌∙◌}
use lib.Ieee.{of_bits}
use Rattle.common.specs.Decimal.{whole, scaled}
use Rattle.properties.specs.Td.{state_pressure}
use Rattle.extended_with_p.specs.WithP.{Td2pc}
use Rattle.extended_with_p.proofs.TestedP.{first_p}
use Rattle.extended_with_p.proofs.state_pc.Goals as goal

pub returns : goal.returns
unfolding of_bits whole scaled state_pressure Td2pc
returns c =
    c.with_tested_p.ensures
    ∙ first_p _ _ c.raw_p-p.ensures.raw
    (λ fp. named c.over.ensures (raw_value (whole 1) refl /ʳ raw_value _ fp) *ʳ c.raw_dpdtcv.ensures.raw)
