-- `common::in_p` meets its contract: its literals are the range's decimals. Assumes nothing.
use lib.Ieee.{of_bits}
use Rattle.common.specs.Decimal.{decimal, whole, scaled}
use Rattle.common.proofs.in_p.Goals as goal

pub returns : goal.returns
unfolding of_bits decimal whole scaled
returns c = c.contains.ensures
