-- The invariant of `column_sums::span_of`: the highest and the lowest exponent so far, by 0.
use Rattle.std.proofs.Common.{◌≡◌, take, pos, fold}
use Rattle.std.specs.Int.{int_max, int_min}
use Rattle.column_sums.proofs.columns.span_of.Given as goal

abbrev pub invariant-loop-n : goal.invariant-loop-n
invariant-loop-n l = record {
  top : l.top ≡ fold int_max (pos 0) (take l.n-index l.column);
  low : l.low ≡ fold int_min (pos 0) (take l.n-index l.column);
}
