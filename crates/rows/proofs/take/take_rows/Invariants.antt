-- `rows::take::take_rows` in its loop: both columns stand up to the row reached. Assumes nothing.
use Rattle.std.proofs.Common.{◌≡◌, length}
use Rattle.std.proofs.lemmas.List.Edits.{sets}
use Rattle.rows.specs.Lines.{p_column, t_column}
use Rattle.rows.proofs.take.take_rows.Given as goal

abbrev pub invariant-loop-i : goal.invariant-loop-i
invariant-loop-i l = record {
  ps_long : length l.ps ≡ length l.initial.ps;
  ts_long : length l.ts ≡ length l.initial.ts;
  ps_after : l.ps ≡ sets l.initial.ps 0 (p_column l.s l.i);
  ts_after : l.ts ≡ sets l.initial.ts 0 (t_column l.s l.i);
}
