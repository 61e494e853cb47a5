-- `boundary::choice::band_cq_rk` meets its contract: c or q below and r or k above, and what lies between. Assumes nothing.
use Rattle.choosers.proofs.Tests.{around_or}
use Rattle.boundary.proofs.choice.band_cq_rk.Goals as goal

pub returns-in-Some : goal.returns-in-Some
returns-in-Some c =
    rw (← c.bare_boundary-tcd.ensures, ← c.bare_boundary-tqu.ensures, ← c.bare_boundary-trx.ensures, ← c.bare_boundary-tjk.ensures)
    (rw (around_or, ← c.round_critical.ensures, c.in-Some.is))
