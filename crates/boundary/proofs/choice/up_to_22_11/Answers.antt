-- `boundary::choice::up_to_22_11` meets its contract: the boundaries are tested together. Assumes nothing.
use lib.Ieee.{of_bits, round}
use Rattle.common.specs.Decimal.{decimal, scaled}
use Rattle.bands.proofs.Lost.{one_kept, two_kept}
use Rattle.boundary.proofs.choice.up_to_22_11.Goals as goal

pub returns-then-p : goal.returns-then-p
unfolding decimal scaled round of_bits
returns-then-p c = rw (c.if-p.true, one_kept, ← c.by_uyzx.ensures) c.answered.ensures

pub returns : goal.returns
unfolding decimal scaled round of_bits
returns c = rw (c.if-p.false, ← c.raw_T_saturation-tsat.ensures, two_kept, ← c.by_saturated.ensures) c.answered-2.ensures
