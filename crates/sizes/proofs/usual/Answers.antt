-- `sizes::usual` meets its contract: both ends of the square are tested. Assumes nothing.
use lib.Ieee.{of_bits}
use Rattle.sizes.specs.Usual.{usual_base}
use Rattle.sizes.proofs.usual.Goals as goal

pub returns-then-square : goal.returns-then-square
unfolding usual_base of_bits
returns-then-square c = rw c.if-square.true

pub returns-else-square : goal.returns-else-square
unfolding usual_base of_bits
returns-else-square c = rw c.if-square.false
