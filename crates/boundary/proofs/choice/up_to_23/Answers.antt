-- `boundary::choice::up_to_23` meets its contract: each return rewrites the choice of a band with the tests that led there. Assumes nothing.
use lib.Ieee.{of_bits, round}
use Rattle.common.specs.Decimal.{decimal, whole, scaled}
use Rattle.boundary.proofs.Bands.{clmnopjk_raw, cq_rk_raw, csrk_raw, cst_raw, ct_raw}
use Rattle.boundary.proofs.Middle.{middle}
use Rattle.boundary.proofs.Limit.{limit_is}
use Rattle.boundary.proofs.choice.up_to_23.Goals as goal

pub returns-then-x : goal.returns-then-x
unfolding decimal whole scaled round of_bits
returns-then-x c h = rw (limit_is, c.if-x.true, clmnopjk_raw _ _ (middle _ _ _ tt tt tt tt c.if-x.true h)) c.band_clmnopjk.ensures

pub returns-then-x-2 : goal.returns-then-x-2
unfolding decimal whole scaled round of_bits
returns-then-x-2 c h = rw (limit_is, c.if-x.false, c.if-x-2.true, cq_rk_raw _ _ (middle _ _ _ tt tt tt tt c.if-x-2.true h)) c.band_cq_rk.ensures

pub returns-then-x-3 : goal.returns-then-x-3
unfolding decimal whole scaled round of_bits
returns-then-x-3 c h =
    rw (limit_is, c.if-x.false, c.if-x-2.false, c.if-x-3.true, csrk_raw _ _ (middle _ _ _ tt tt tt tt c.if-x-3.true h)) c.band_csrk.ensures

pub returns-then-x-4 : goal.returns-then-x-4
unfolding decimal whole scaled round of_bits
returns-then-x-4 c h =
    rw (limit_is, c.if-x.false, c.if-x-2.false, c.if-x-3.false, c.if-x-4.true, cst_raw _ _ (middle _ _ _ tt tt tt tt c.if-x-4.true h))
    c.band_cst.ensures

pub returns : goal.returns
unfolding decimal whole scaled round of_bits
returns c h = rw (limit_is, c.if-x.false, c.if-x-2.false, c.if-x-3.false, c.if-x-4.false, ct_raw) c.band_ct.ensures
