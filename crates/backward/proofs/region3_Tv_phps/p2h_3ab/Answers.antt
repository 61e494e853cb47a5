-- `backward::p2h_3ab`: the proof has the shape of the equation.
use Rattle.common.proofs.Formulas.{raw_value, raw_add, raw_mul, raw_first, raw_times}
use mathlib.Core.Path.{refl, sym}
use lib.Ieee.{binary64, div, neg, of_bits, round}
use Rattle.common.specs.Outcome.{or_nan}
use Rattle.common.specs.Decimal.{plus, minus, whole, scaled}
use Rattle.backward.specs.Backward.{n1, n2, n3, n4, h3ab}
use Rattle.backward.proofs.region3_Tv_phps.p2h_3ab.Goals as goal

pub returns : goal.returns
unfolding h3ab of_bits neg plus minus whole scaled round
returns c =
    let π = raw_first (div binary64) c.args.p.0 (whole 1) in
    let inner = raw_add (raw_value (or_nan n3) refl) (raw_mul (raw_value (or_nan n4) refl) π) in
    let η = raw_add (raw_value (or_nan n1) refl) (raw_mul π (raw_add (raw_value (or_nan n2) refl) (raw_mul π inner))) in
    sym (raw_times (whole 1) η).is
