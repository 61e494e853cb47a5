-- `search::Ts_reg3` meets its contract: what is found, then the record there. Assumes nothing.
use mathlib.Core.Path.{sym}
use Rattle.search.specs.Calls.{Ts_rule}
use Rattle.search.proofs.calls.Ts_reg3.Goals as goal

pub returns : goal.returns
unfolding Ts_rule
returns c = rw (sym c.Ts2d_reg3.ensures) c.on_isotherm.ensures
