-- `r4::quotient_d` meets its contract: the proof has the shape of equation 31. Assumes nothing.
use mathlib.Core.Path.{refl}
use lib.Ieee.{binary64, of_bits, round}
use lib.Ieee.Fits.{sub-fits}
use Rattle.common.specs.Outcome.{or_nan}
use Rattle.common.specs.Decimal.{scaled, whole, plus, minus}
use Rattle.common.proofs.Formulas.{raw_value as num, raw_minus, named, ◌+ʳ◌, ◌-ʳ◌, ◌*ʳ◌, ◌/ʳ◌}
use Rattle.inverses.proofs.Formulas.{raw_root_of}
use Rattle.r4.specs.Saturation.{n1, n2, n3, n4, n5, n6, n7, n8}
use Rattle.r4.proofs.quotient_d.Goals as goal

pub returns : goal.returns
unfolding plus minus scaled whole round of_bits
returns c o β =
    let E = β *ʳ (β +ʳ num (or_nan n3) refl) +ʳ num (or_nan n6) refl in
    let F = β *ʳ (num (or_nan n1) refl *ʳ β +ʳ num (or_nan n4) refl) +ʳ num (or_nan n7) refl in
    let G = β *ʳ (num (or_nan n2) refl *ʳ β +ʳ num (or_nan n5) refl) +ʳ num (or_nan n8) refl in
    let root = named c.raw_root.ensures (raw_root_of (sub-fits binary64 _ _) (F *ʳ F -ʳ num (whole 4) refl *ʳ E *ʳ G)) in
    named c.over.ensures (num (whole 2) refl *ʳ G /ʳ (raw_minus F -ʳ root))
