-- `choosers::letter_by::by_liquid` meets its contract: by p and then by 3uv. Assumes nothing.
use lib.Ieee.{of_bits, round}
use Rattle.common.specs.Decimal.{decimal, scaled}
use Rattle.choosers.proofs.letter_by.by_liquid.Goals as goal

pub returns-then-t-tuv : goal.returns-then-t-tuv
unfolding decimal scaled round of_bits
returns-then-t-tuv c = rw (c.if-p.true, c.if-t-tuv.true)

pub returns-else-t-tuv : goal.returns-else-t-tuv
unfolding decimal scaled round of_bits
returns-else-t-tuv c = rw (c.if-p.true, c.if-t-tuv.false)

pub returns-else-p : goal.returns-else-p
unfolding decimal scaled round of_bits
returns-else-p c = rw c.if-p.false
