-- antt computes that the rows are those of table3k, the bits of each literal those of its decimal, and that none goes past the reach.
use mathlib.Core.Path.{refl}
use lib.Ieee.{of_bits}
use Rattle.common.specs.Sum.{every}
use Rattle.common.specs.Decimal.{plus, minus, scaled}
use Rattle.printed.specs.Volumes.{table3k}
use Rattle.tables_h_m.proofs.V3kTable.rows.Goals as goal

pub returns : goal.returns
unfolding every plus minus scaled of_bits table3k
returns c = record { printed = refl; covered = refl }
