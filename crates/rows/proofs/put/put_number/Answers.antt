-- `rows::put::put_number` meets its contract: both have room. Assumes nothing.
use native.Mathlib.Omega.{arith}
use Rattle.text.proofs.Laws.{fitted, wrote_then, wrote_length, decimal_room}
use Rattle.rows.proofs.put.put_number.Goals as goal

pub returns-clause-wrote : goal.returns-clause-wrote
returns-clause-wrote c =
    let a = fitted 20 (omega (arith, c.requires)) c.put_decimal.ensures.wrote in
    let b = fitted _ (omega (arith, c.requires, decimal_room c.args.n c.ranges.n.fits, a.ends, wrote_length a)) c.put.ensures.wrote in
    wrote_then a b
