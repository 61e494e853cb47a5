-- `rows::put::put_lines` in its loop: the lines of the rows passed stand written. Assumes nothing.
use Rattle.std.proofs.Common.{◌≡◌, ◌*◌, ◌≤◌}
use Rattle.text.specs.Text.{Wrote}
use Rattle.rows.specs.Lines.{lines_of}
use Rattle.rows.proofs.put.put_lines.Given as goal

abbrev pub invariant-loop-i : goal.invariant-loop-i
invariant-loop-i l = record {
  upper_bound : l.text.at ≤ 27 * l.i;
  wrote : Wrote l.initial.text.out.now 0 (lines_of l.done l.ps l.ts l.i) l.text.out.now l.text.at;
  lent : l.text.out.ghost_name ≡ l.initial.text.out.ghost_name;
}
