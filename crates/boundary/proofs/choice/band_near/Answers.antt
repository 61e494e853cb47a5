-- `boundary::choice::band_near` meets its contract: 3wx is tested. Assumes nothing.
use lib.Ieee.{of_bits, round}
use Rattle.common.specs.Decimal.{decimal, scaled}
use Rattle.bands.proofs.Lost.{one_kept}
use Rattle.boundary.proofs.choice.band_near.Goals as goal

pub returns-then-p : goal.returns-then-p
unfolding decimal scaled round of_bits
returns-then-p c =
    rw (← c.bare_boundary-tuv.ensures, ← c.raw_boundary-twx.ensures, ← c.raw_boundary-tef.ensures, c.if-p.true)
    (rw (one_kept, ← c.by_uvwx.ensures) c.answered.ensures)

pub returns : goal.returns
unfolding decimal scaled round of_bits
returns c = rw (← c.bare_boundary-tuv.ensures, ← c.raw_boundary-twx.ensures, ← c.raw_boundary-tef.ensures, c.if-p.false) c.up_to_22_11.ensures
