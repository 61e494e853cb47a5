-- `common::constants` meets its contract: antt computes that the bits of each literal are those of its decimal, rounded once.
-- Assumes nothing.
use mathlib.Core.Path.{refl}
use lib.Ieee.{of_bits}
use Rattle.common.specs.Constant.{printed}
use Rattle.common.specs.Decimal.{decimal, whole, scaled}
use Rattle.common.proofs.constants.Goals as goal

pub returns : goal.returns
unfolding of_bits printed decimal whole scaled
returns c = refl
