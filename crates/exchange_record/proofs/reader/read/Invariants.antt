-- `exchange_record::reader::read`: what follows the fields that were passed decides the whole. Assumes nothing.
use Rattle.std.proofs.Common.{length}
use Rattle.exchange_record.proofs.Walk.{Reached}
use Rattle.exchange_record.proofs.reader.read.Given as goal

abbrev pub invariant-loop-rest : goal.invariant-loop-rest
invariant-loop-rest l = Reached l.s l.seen l.rest

abbrev pub decreases-loop-rest : goal.decreases-loop-rest
decreases-loop-rest l = length l.rest
