-- antt computes that the rows are those of table_v3b_ph, the bits of each literal those of its decimal, and that none goes past the reach.
use mathlib.Core.Path.{refl}
use lib.Ieee.{of_bits}
use Rattle.common.specs.Sum.{every}
use Rattle.common.specs.Decimal.{plus, minus, scaled}
use Rattle.printed.specs.Backward.{table_v3b_ph}
use Rattle.tables_ph.proofs.V3bPhTable.rows.Goals as goal

pub returns : goal.returns
unfolding every plus minus scaled of_bits table_v3b_ph
returns c = record { printed = refl; covered = refl }
