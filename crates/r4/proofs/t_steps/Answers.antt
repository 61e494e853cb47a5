-- `r4::t_steps` meets its contract: the proof has the shape of equation 31. Assumes nothing.
use mathlib.Core.Path.{refl, sym, subst}
use lib.Dec.{T}
use lib.Ieee.{binary64, of_bits, round}
use lib.Ieee.Fits.{sub-fits}
use Rattle.common.specs.Outcome.{or_nan}
use Rattle.common.specs.Decimal.{scaled, decimal, whole, plus, minus}
use Rattle.common.proofs.Formulas.{raw_value, named, ◌+ʳ◌, ◌-ʳ◌, ◌*ʳ◌}
use Rattle.inverses.proofs.Formulas.{raw_root_of, raw_root_from}
use Rattle.r4.specs.Saturation.{T_saturation, n9, n10}
use Rattle.r4.proofs.t_steps.Goals as goal

pub returns : goal.returns
unfolding T_saturation plus minus scaled decimal whole round of_bits
returns c =
    let p = c.args.p in
    let four = raw_value (whole 4) refl in
    let N9 = raw_value (or_nan n9) refl in
    let N10 = raw_value (or_nan n10) refl in
    let first = named c.raw_root.ensures (raw_root_from p (subst T (sym c.well_formed.0.1) tt)) in
    let β = named c.raw_root-2.ensures (raw_root_of (subst T (sym c.raw_root.type_inv) tt) first) in
    let D = c.quotient_d-d.ensures _ β in
    let square = (N10 +ʳ D) *ʳ (N10 +ʳ D) -ʳ four *ʳ (N9 +ʳ N10 *ʳ D) in
    raw_value (decimal 0_5 1) refl *ʳ (N10 +ʳ D -ʳ named c.raw_root-3.ensures (raw_root_of (sub-fits binary64 _ _) square))
