-- The contract admits one answer: some bytes come to one outcome. Assumes nothing.
use Rattle.std.proofs.Common.{sym, ap, ◌∙◌}
use Rattle.common.proofs.Same.{One}
use Rattle.exchange_record.proofs.Exchange.{one_outcome}
use Rattle.exchange.specs.Reply.{bytes_of}
use Rattle.exchange.proofs as own

pub reply_one : One 1 own.bytes.reply.Kinds.ps own.bytes.reply.Kinds.r own.bytes.reply.Reads.Post
reply_one κs a e x y p q =
    p.bytes ∙ ap bytes_of (one_outcome _ p.read q.read p.means q.means) ∙ sym q.bytes
