-- `boundary::choice::letter_at` meets its contract: each return rewrites the choice of a band with the tests that led there. Assumes nothing.
use lib.Ieee.{of_bits, round}
use Rattle.common.specs.Decimal.{decimal, whole, scaled}
use Rattle.boundary.specs.Choice.{letter_at}
use Rattle.boundary.proofs.Bands.{ab_raw, cdef_raw}
use Rattle.boundary.proofs.Limit.{limit_is}
use Rattle.boundary.proofs.choice.letter_at.Goals as goal

pub returns-then-x-2 : goal.returns-then-x-2
unfolding letter_at decimal whole scaled round of_bits
returns-then-x-2 c = rw (limit_is, c.if-x.true, c.if-x-2.true, ab_raw) c.band_ab.ensures

pub returns-then-x : goal.returns-then-x
unfolding letter_at decimal whole scaled round of_bits
returns-then-x c = rw (limit_is, c.if-x.true, c.if-x-2.false, cdef_raw) c.band_cdef.ensures

pub returns : goal.returns
unfolding letter_at decimal whole scaled round of_bits
returns c = rw c.if-x.false c.up_to_40.ensures
