-- `helmholtz::region3_hfe::sum` meets its contract: its columns are table 30. Assumes nothing.
use lib.Ieee.{of_bits}
use Rattle.common.specs.Decimal.{scaled, plus, minus}
use Rattle.algo.specs.Table.{rows_of}
use Rattle.printed.specs.Table30.{table30}
use Rattle.helmholtz.proofs.Tables.{slope_of}
use Rattle.helmholtz.proofs.region3_hfe.sum.Goals as goal

pub returns : goal.returns
unfolding of_bits rows_of table30 plus minus scaled
returns c =
    let a = c.args in
    slope_of a.delta a.tau c.fill_powers.ensures c.fill_powers-2.ensures a.a a.b c.slope_sum.ensures c.gated.ensures
