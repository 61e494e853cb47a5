-- `rows::put::put_line` meets its contract: a row's number and its mark, then the refusal, of three digits at most. Assumes nothing.
use native.Mathlib.Omega.{arith}
use mathlib.Core.List.{append_assoc}
use Rattle.std.proofs.Math.ListN.{length-append}
use Rattle.text.proofs.Laws.{wrote_then, wrote_length, decimal_length, decimal_room}
use Rattle.rows.specs.Lines.{line_of}
use Rattle.rows.proofs.put.put_line.Goals as goal

pub put_number-requires-2 : goal.put_number-requires-2
put_number-requires-2 c =
    let w = c.put_number.ensures.wrote in
    omega (arith, c.requires, decimal_room c.args.row c.ranges.row.fits, wrote_length w, simp length-append at w.ends)

pub returns-clause-wrote : goal.returns-clause-wrote
unfolding line_of
returns-clause-wrote c =
    rw (← c.mark.ensures, ← c.refusal_byte.ensures, ← c.into.ensures)
    (rw append_assoc at (wrote_then c.put_number.ensures.wrote c.put_number-2.ensures.wrote))

pub returns-clause-upper_bound : goal.returns-clause-upper_bound
returns-clause-upper_bound c =
    let row = decimal_room c.args.row c.ranges.row.fits in
    let short = decimal_length 2 c.into.result (omega (arith, c.into.ensures, c.refusal_byte.type_inv)) in
    omega (arith, short, row, simp length-append at c.put_number.ensures.wrote.ends, simp length-append at c.put_number-2.ensures.wrote.ends)
