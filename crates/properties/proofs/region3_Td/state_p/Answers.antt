-- `properties::region3_Td::state_p`: the test of a p, at the p of table 31.
use mathlib.Core.Path.{sym, ap, ◌∙◌}
use Rattle.record.specs.State.{pressure_of}
use Rattle.properties.specs.Td.{state_pressure}
use Rattle.properties.proofs.region3_Td.state_p.Goals as goal

pub returns : goal.returns
unfolding state_pressure
returns c = c.settle_p.ensures ∙ ap pressure_of (sym c.raw_p.ensures.raw.is)
