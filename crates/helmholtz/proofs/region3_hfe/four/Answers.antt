-- `helmholtz::region3_hfe::four` meets its contract: its columns are table 30. Assumes nothing.
use lib.Ieee.{of_bits}
use Rattle.common.specs.Decimal.{scaled, plus, minus}
use Rattle.algo.specs.Table.{rows_of}
use Rattle.printed.specs.Table30.{table30}
use Rattle.algo.specs.declared.Share.TheVariants.{I, Ii, Ij, Jj}
use Rattle.helmholtz.proofs.Tables.{share_of}
use Rattle.helmholtz.proofs.region3_hfe.four.Goals as goal

pub returns : goal.returns
unfolding of_bits rows_of table30 plus minus scaled
returns c =
    let a = c.args in
    let p = c.fill_powers.ensures in
    let q = c.fill_powers-2.ensures in
    let h = c.four_sums-p.ensures in (
      share_of a.delta a.tau p q I h.0 c.finished.ensures,
      share_of a.delta a.tau p q Ii h.1 c.finished-2.ensures,
      share_of a.delta a.tau p q Ij h.2 c.finished-3.ensures,
      share_of a.delta a.tau p q Jj h.3 c.finished-4.ensures,
    )
