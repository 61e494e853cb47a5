-- `choosers::letter_by::by_steam` meets its contract: by p and then by 3wx. Assumes nothing.
use lib.Ieee.{of_bits, round}
use Rattle.common.specs.Decimal.{decimal, scaled}
use Rattle.choosers.proofs.letter_by.by_steam.Goals as goal

pub returns-then-t-twx : goal.returns-then-t-twx
unfolding decimal scaled round of_bits
returns-then-t-twx c = rw (c.if-p.true, c.if-t-twx.true)

pub returns-else-t-twx : goal.returns-else-t-twx
unfolding decimal scaled round of_bits
returns-else-t-twx c = rw (c.if-p.true, c.if-t-twx.false)

pub returns-else-p : goal.returns-else-p
unfolding decimal scaled round of_bits
returns-else-p c = rw c.if-p.false
