-- `r4::p_steps` meets its contract: the proof has the shape of equation 30. Assumes nothing.
use mathlib.Core.Path.{refl, ◌∙◌, ap}
use lib.IntN.{pos}
use lib.Ieee.{of_bits, round}
use Rattle.common.specs.Outcome.{or_nan}
use Rattle.common.specs.Decimal.{scaled, plus, minus}
use Rattle.common.proofs.Formulas.{raw_value, raw_add_from, raw_sub_from, named, ◌/ʳ◌}
use Rattle.rules.proofs.Formulas.{raw_power_of}
use Rattle.r4.specs.Saturation.{p_saturation, n9, n10}
use Rattle.r4.proofs.p_steps.Goals as goal

pub returns : goal.returns
unfolding p_saturation plus minus scaled round of_bits
returns c =
    let t = c.args.t in
    let ϑ = raw_add_from t (named c.over.ensures (raw_value (or_nan n9) refl /ʳ raw_sub_from t (raw_value (or_nan n10) refl))) in
    named (c.or_nan.ensures ∙ ap or_nan c.power.ensures) (raw_power_of (pos 4) (c.quotient.ensures _ ϑ))
