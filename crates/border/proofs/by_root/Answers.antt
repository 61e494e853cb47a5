-- `border::by_root` meets its contract: the test is the comparison itself, with the root as the rule has it. Assumes nothing.
use mathlib.Core.Path.{ap}
use mathlib.Core.Bool.{not}
use lib.Ieee.{Float, binary64, add, lt, of_bits, round}
use Rattle.common.specs.Decimal.{scaled, plus}
use Rattle.border.proofs.Never.{N4}
use Rattle.border.proofs.by_root.Goals as goal

pub returns : goal.returns
unfolding plus scaled round of_bits
returns c = ap (λ (y : Float). not (lt (add binary64 N4 y) c.args.t)) c.raw_root.ensures
