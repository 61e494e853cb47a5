-- `boundary::choice::up_to_40` meets its contract: each return rewrites the choice of a band with the tests that led there. Assumes nothing.
use mathlib.Core.Path.{ap}
use lib.Ieee.{of_bits, round}
use Rattle.common.specs.Outcome.{value}
use Rattle.common.specs.Decimal.{decimal, whole, scaled}
use Rattle.boundary.proofs.Bands.{cdef_raw, chijk_raw}
use Rattle.boundary.proofs.Middle.{middle}
use Rattle.boundary.proofs.Limit.{limit_is}
use Rattle.boundary.proofs.choice.up_to_40.Goals as goal

pub returns-then-x : goal.returns-then-x
unfolding decimal whole scaled round of_bits
returns-then-x c = rw (limit_is, c.if-x.true, cdef_raw) c.band_cdef.ensures

pub returns-then-x-2 : goal.returns-then-x-2
unfolding decimal whole scaled round of_bits
returns-then-x-2 c =
    rw (limit_is, c.if-x.false, c.if-x-2.true, chijk_raw _ _ (middle _ _ _ tt tt tt tt c.if-x-2.true c.if-x.false) _)
    (ap value c.band_chijk.ensures)

pub returns-then-x-3 : goal.returns-then-x-3
unfolding decimal whole scaled round of_bits
returns-then-x-3 c =
    rw (limit_is, c.if-x.false, c.if-x-2.false, c.if-x-3.true, chijk_raw _ _ (middle _ _ _ tt tt tt tt c.if-x-3.true c.if-x.false) _)
    (ap value c.band_chijk-then-x-3.ensures)

pub returns : goal.returns
unfolding decimal whole scaled round of_bits
returns c = rw (c.if-x.false, c.if-x-2.false, c.if-x-3.false) (c.up_to_23.ensures c.if-x.false)
