-- antt computes that the rows are those of table_p3b_hs, the bits of each literal those of its decimal, and that none goes past the reach.
use mathlib.Core.Path.{refl}
use lib.Ieee.{of_bits}
use Rattle.common.specs.Sum.{every}
use Rattle.common.specs.Decimal.{plus, minus, scaled}
use Rattle.printed.specs.Backward.{table_p3b_hs}
use Rattle.tables_ps_hs.proofs.P3bHsTable.rows.Goals as goal

pub returns : goal.returns
unfolding every plus minus scaled of_bits table_p3b_hs
returns c = record { printed = refl; covered = refl }
