-- `rows::put::put_last` meets its contract: the words and the two numbers stand one after the other. Assumes nothing.
use native.Mathlib.Omega.{arith}
use mathlib.Core.List.{append_assoc}
use Rattle.std.proofs.Math.ListN.{length-append}
use Rattle.text.proofs.Laws.{fitted, wrote_then, wrote_length, decimal_room}
use Rattle.rows.specs.Lines.{last_line}
use Rattle.rows.proofs.put.put_last.Goals as goal

pub put_number-requires-2 : goal.put_number-requires-2
put_number-requires-2 c =
    let e = fitted 5 (omega arith) c.put.ensures.wrote in
    let w = c.put_number.ensures.wrote in
    omega (arith, decimal_room c.args.rows c.ranges.rows.fits, e.ends, wrote_length e, wrote_length w, simp length-append at w.ends)

pub returns-clause-wrote : goal.returns-clause-wrote
unfolding last_line
returns-clause-wrote c =
    let e = fitted 5 (omega arith) c.put.ensures.wrote in
    rw append_assoc at (wrote_then e (wrote_then c.put_number.ensures.wrote c.put_number-2.ensures.wrote))

pub returns-clause-upper_bound : goal.returns-clause-upper_bound
returns-clause-upper_bound c =
    let rows = decimal_room c.args.rows c.ranges.rows.fits in
    let left = decimal_room c.args.left c.ranges.left.fits in
    let e = fitted 5 (omega arith) c.put.ensures.wrote in
    omega (arith, rows, left, e.ends, simp length-append at c.put_number.ensures.wrote.ends, simp length-append at c.put_number-2.ensures.wrote.ends)
