-- `border::p2t_steps` meets its contract: the proof has the shape of equation 6. Assumes nothing.
use mathlib.Core.Path.{refl}
use lib.Ieee.{binary64, sub, of_bits, round}
use lib.Ieee.Fits.{div-fits}
use Rattle.common.specs.Outcome.{or_nan}
use Rattle.common.specs.Decimal.{scaled, plus}
use Rattle.common.proofs.Formulas.{raw_value, raw_first, raw_by, named, ◌+ʳ◌}
use Rattle.inverses.proofs.Formulas.{raw_root_of}
use Rattle.border.specs.Border.{B23_p2T, n3, n4, n5}
use Rattle.border.proofs.p2t_steps.Goals as goal

pub returns : goal.returns
unfolding B23_p2T plus scaled round of_bits
returns c =
    let p = c.args.p in
    raw_value (or_nan n4) refl
    +ʳ named c.raw_root.ensures (raw_root_of (div-fits binary64 _ _) (raw_by (or_nan n3) (raw_first (sub binary64) p (or_nan n5))))
