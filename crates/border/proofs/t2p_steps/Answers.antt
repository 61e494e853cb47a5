-- `border::t2p_steps` meets its contract: the proof has the shape of equation 5. Assumes nothing.
use mathlib.Core.Path.{refl}
use lib.Ieee.{binary64, mul, of_bits, round}
use Rattle.common.specs.Outcome.{or_nan}
use Rattle.common.specs.Decimal.{scaled, plus, minus}
use Rattle.common.proofs.Formulas.{raw_value, raw_first, raw_times, ◌+ʳ◌}
use Rattle.border.specs.Border.{B23_T2p, n1, n2, n3}
use Rattle.border.proofs.t2p_steps.Goals as goal

pub returns : goal.returns
unfolding B23_T2p plus minus scaled round of_bits
returns c =
    let t = c.args.t in
    raw_value (or_nan n1) refl +ʳ raw_times t (raw_value (or_nan n2) refl +ʳ raw_first (mul binary64) (or_nan n3) t)
