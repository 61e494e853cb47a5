-- `search::Th_reg3` meets its contract: what is found, then the record there. Assumes nothing.
use mathlib.Core.Path.{sym}
use Rattle.search.specs.Calls.{Th_rule}
use Rattle.search.proofs.calls.Th_reg3.Goals as goal

pub returns : goal.returns
unfolding Th_rule
returns c = rw (sym c.Th2d_reg3.ensures) c.on_isotherm.ensures
