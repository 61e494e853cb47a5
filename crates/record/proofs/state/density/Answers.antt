-- `record::density` meets its contract: by its range, in which no volume that is lost has its density; else a volume that is lost is its own quotient, so
-- nothing is hidden. Assumes nothing.
use Rattle.common.proofs.Formulas.{raw_value, raw_over_lem, raw_check}
use mathlib.Core.Path.{◌≡◌, refl, sym, ap, subst, ◌∙◌}
use mathlib.Core.Bool.{true, false}
use lib.Dec.{T}
use lib.Ieee.{Float, nan, inf, fin, binary64, div, of_bits, round, le, lt, eq}
use Rattle.common.specs.Outcome.{Outcome, value, check, then}
use Rattle.common.specs.Decimal.{decimal, whole, scaled}
use Rattle.common.specs.Constant.{d_range_from, d_range_to}
use Rattle.common.specs.Range.{within}
use Rattle.common.proofs.Laws.{check_kept}
use Rattle.common.proofs.Ranges.{finite_within}
use Rattle.record.specs.State.{tested, density_of}
use Rattle.record.proofs.state.density.Goals as goal

-- a density in its range is that of its volume
in_range_lem : (v : Float) → within d_range_from d_range_to (div binary64 (whole 1) v) ≡ true → value (div binary64 (whole 1) v) ≡ density_of (check v)
unfolding decimal whole scaled round div le lt eq
in_range_lem nan e = absurd (subst T (sym e) tt)
in_range_lem (inf true) e = absurd (subst T (sym e) tt)
in_range_lem (inf false) e = absurd (subst T (sym e) tt)
in_range_lem (fin s m x) e = rw (check_kept (div binary64 (whole 1) (fin s m x)) (finite_within d_range_from d_range_to (div binary64 (whole 1) (fin s m x)) tt tt e), e)

pub returns-then-in_d : goal.returns-then-in_d
unfolding of_bits decimal whole scaled round
returns-then-in_d c = in_range_lem c.args.v.0 (sym c.in_d.ensures ∙ c.if-in_d.true)

pub returns : goal.returns
unfolding of_bits decimal whole scaled
returns c =
    let v = c.args.v.0 in
    let d = raw_over_lem (raw_value (whole 1) refl) (raw_check v) in
    c.settle_in.ensures ∙ ap (λ (o : Outcome Float). then o (tested d_range_from d_range_to)) (ap check c.over.ensures ∙ sym d.is)
