-- `extended_with_p::state_fu`: p is tested at its place (TestedP), and the rest is the formula.
use Rattle.common.proofs.Formulas.{raw_value, ◌*ʳ◌}
use Rattle.properties.specs.Td.{state_pressure}
use Rattle.extended_with_p.specs.WithP.{Td2fu}
use Rattle.extended_with_p.proofs.TestedP.{then_p}
use Rattle.extended_with_p.proofs.state_fu.Goals as goal

pub returns : goal.returns
unfolding state_pressure Td2fu
returns c =
    rw (c.with_tested_p.ensures, c.lost_or.ensures)
    (then_p _ _ c.raw_fi-fi.ensures.raw c.raw_p-p.ensures.raw (λ ff fp. raw_value _ fp *ʳ raw_value _ ff))
