-- `column_run::mark_rows`: after the last turn all rows of each column are written.
use Rattle.column_row.specs.TwoTurns.{mark_in, stop_in}
use Rattle.column_run.proofs.Rows.{filled_all}
use Rattle.column_run.proofs.run.mark_rows.Goals as goal

pub returns : goal.returns
returns c =
    let v = c.loop-k.invariant in
    let e = c.requires.times_long in
    let o = c.loop-k-test.false in
    record { letters_after = filled_all mark_in 0 _ _ _ _ e o v.letters; refusals_after = filled_all stop_in 0 _ _ _ _ e o v.refusals }
