-- `common::property_numbers` meets its contract: each constant is the number printed for it. Assumes nothing.
use mathlib.Core.Path.{refl}
use Rattle.common.specs.Property.{property_numbers}
use Rattle.common.proofs.property_numbers.Goals as goal

pub returns : goal.returns
unfolding property_numbers
returns c = refl
