-- `search::check_Th` meets its contract: the ends of the ranges. Assumes nothing.
use lib.Ieee.{of_bits, round}
use Rattle.common.specs.Decimal.{decimal, whole, scaled}
use Rattle.search.proofs.calls.check_Th.Goals as goal

pub returns : goal.returns
unfolding of_bits decimal whole scaled round
returns c = c.check_pair.ensures
