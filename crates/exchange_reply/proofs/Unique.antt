-- Each contract admits one answer. Assumes nothing.
use mathlib.Core.Path.{sym, ◌∙◌}
use Rattle.common.proofs.Same.{One}
use Rattle.exchange_reply.proofs as own

pub asked_bytes_one : One 0 own.asked_bytes.Kinds.ps own.asked_bytes.Kinds.r own.asked_bytes.Reads.Post
asked_bytes_one κs a e x y p q = p ∙ sym q

pub refused_bytes_one : One 0 own.refused_bytes.Kinds.ps own.refused_bytes.Kinds.r own.refused_bytes.Reads.Post
refused_bytes_one κs a e x y p q = p ∙ sym q
