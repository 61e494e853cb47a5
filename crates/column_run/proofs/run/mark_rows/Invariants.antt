-- The invariant of `column_run::mark_rows`: after k turns the first k rows of each column are written.
use Rattle.column_row.specs.TwoTurns.{mark_in, stop_in}
use Rattle.column_run.proofs.Rows.{Filled}
use Rattle.column_run.proofs.run.mark_rows.Given as goal

abbrev pub invariant-loop-k : goal.invariant-loop-k
invariant-loop-k l = record {
  letters : Filled mark_in 0 l.ps l.ts l.k l.letters;
  refusals : Filled stop_in 0 l.ps l.ts l.k l.refusals;
}
