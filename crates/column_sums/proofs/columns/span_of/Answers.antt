-- `column_sums::span_of` meets its contract: its two numbers are the highest and the lowest exponent, by 0.
use Rattle.std.proofs.Common.{arith, pos, fold, ap, ◌∙◌}
use Rattle.std.specs.Int.{int_max, int_min}
use Rattle.std.proofs.lemmas.Int.{to_z-of_z}
use Rattle.std.proofs.lemmas.List.{take_all}
use Rattle.std.proofs.lemmas.List.Sums.{fold_more}
use Rattle.column_sums.proofs.Farthest.{up_from_top, down_from_low}
use Rattle.column_sums.proofs.columns.span_of.Goals as goal

pub loop-n-preserved : goal.loop-n-preserved
loop-n-preserved c = record {
  top = grind (arith, to_z-of_z, fold_more);
  low = grind (arith, to_z-of_z, fold_more);
}

pub returns : goal.returns
returns c =
    let ks = c.args.column.now in
    let v = c.loop-n.invariant in
    let all = take_all _ ks c.loop-n-test.false in (
      c.unsigned_abs.ensures.value ∙ up_from_top ks _ (v.top ∙ ap (fold int_max (pos 0)) all),
      c.unsigned_abs-2.ensures.value ∙ down_from_low ks _ (v.low ∙ ap (fold int_min (pos 0)) all),
      c.unsigned_abs-2.ensures.bound,
    )
