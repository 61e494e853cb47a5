-- `boundaries::temperatures::t_3ef` meets its contract: the bits of each literal are those of its decimal. Assumes nothing.
use mathlib.Core.Path.{refl}
use lib.Ieee.{of_bits, round}
use Rattle.common.specs.Decimal.{scaled, decimal}
use Rattle.boundaries.proofs.temperatures.t_3ef.Goals as goal

pub returns : goal.returns
unfolding decimal scaled round of_bits
returns c = refl
