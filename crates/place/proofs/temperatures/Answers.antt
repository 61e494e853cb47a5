-- `place::temperatures` meets its contract: the border's T. Assumes nothing.
use mathlib.Core.Path.{sym}
use lib.Ieee.{of_bits, round}
use Rattle.common.specs.Decimal.{decimal, scaled}
use Rattle.common.proofs.Calls.{passed_on}
use Rattle.place.proofs.Laws.{p2T_settled, answered}
use Rattle.place.proofs.temperatures.Goals as goal

pub returns-in_err-second : goal.returns-in_err-second
returns-in_err-second c = passed_on _ _ _ c.from_residual.ensures.1 (sym (answered (p2T_settled c.args.p.0) c.raw_B23_p2T.ensures c.in_err-second.ensures))

pub returns : goal.returns
unfolding of_bits decimal scaled round
returns c = rw (answered (p2T_settled c.args.p.0) c.raw_B23_p2T.ensures c.in_ok-second.ensures)
