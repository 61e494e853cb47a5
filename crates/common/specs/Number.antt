-- To believe: what a raw form that crates share promises. r is the number of the rule's outcome o, and a NaN where o is refused; so one r meets it.
-- `raw` follows from it where o is refused with 5 alone, and is what a formula above goes on with.
use Rattle.std.specs.Prelude.{◌≡◌, Float}
use Rattle.common.specs.Outcome.{Outcome, or_nan}
use Rattle.common.specs.Formula.{Raw}

pub record Number (o : Outcome Float) (r : Float) : Type 0 where
  pub is : r ≡ or_nan o
  pub raw : Raw o r
