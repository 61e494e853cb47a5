-- `exchange_record::reader::read` meets its contract: a step goes on past a field or stops as the grammar says, and the end decides. Assumes nothing.
use borrow.Author.Rules.{rules}
use Rattle.std.proofs.lemmas.Result.{err_from_is_err_and}
use Rattle.exchange_record.proofs.Walk.{goes_on, stops, ends}
use Rattle.exchange_record.proofs.reader.read.Goals as goal

pub loop-rest-preserved : goal.loop-rest-preserved
loop-rest-preserved c = goes_on _ _ _ c.loop-rest.invariant _ _ c.in_ok-rest.ensures

pub returns-in_err-rest : goal.returns-in_err-rest
returns-in_err-rest c =
    let p = err_from_is_err_and c.from_residual.result c.from_residual.ensures.1 in
    rw (p.1, p.2) (stops _ _ _ c.loop-rest.invariant _ c.in_err-rest.ensures)

pub returns : goal.returns
returns c = rw c.finish.ensures (ends _ _ _ c.loop-rest.invariant (search rules))
