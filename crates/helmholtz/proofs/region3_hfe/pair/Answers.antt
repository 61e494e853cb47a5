-- `helmholtz::region3_hfe::pair` meets its contract: its columns are table 30. Assumes nothing.
use lib.Ieee.{of_bits}
use Rattle.common.specs.Decimal.{scaled, plus, minus}
use Rattle.algo.specs.Table.{rows_of}
use Rattle.printed.specs.Table30.{table30}
use Rattle.helmholtz.proofs.Tables.{share_of}
use Rattle.helmholtz.proofs.region3_hfe.pair.Goals as goal

pub returns : goal.returns
unfolding of_bits rows_of table30 plus minus scaled
returns c =
    let a = c.args in
    let p = c.fill_powers.ensures in
    let q = c.fill_powers-2.ensures in
    let h = c.joint_sums-p.ensures in
    (share_of a.delta a.tau p q a.s h.0 c.finished.ensures, share_of a.delta a.tau p q a.t h.1 c.finished-2.ensures)
