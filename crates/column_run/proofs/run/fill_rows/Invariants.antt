-- The invariant of `column_run::fill_rows`: after i turns the first i rows of each column are written, and the others hold their marks.
use lib.Ieee.{nan}
use Rattle.column_row.specs.TwoTurns.{mark_in, stop_in}
use Rattle.column_run.specs.Columns.{letter_in, density_in, refusal_in}
use Rattle.column_run.proofs.Rows.{Filled, Left}
use Rattle.column_run.proofs.run.fill_rows.Given as goal

abbrev pub invariant-loop-i : goal.invariant-loop-i
invariant-loop-i l = record {
  letters : Filled letter_in 0 l.ps l.ts l.i l.letters;
  densities : Filled density_in nan l.ps l.ts l.i l.densities;
  refusals : Filled refusal_in 0 l.ps l.ts l.i l.refusals;
  marks : Left mark_in 0 l.ps l.ts l.i l.letters;
  stops : Left stop_in 0 l.ps l.ts l.i l.refusals;
}
