-- Each contract admits one answer and one content of the lent page. The theorems are about the contracts' own readings, `Reads.Post`.
-- Assumes nothing.
use mathlib.Core.Path.{◌≡◌, sym, ◌∙◌}
use contract.Lifetimes.{Lfts}
use denote.Triple.Clauses.{AtExit}
use borrow.Fn.Kinds.{Dens, ended_of, res_t}
use Rattle.common.proofs.Same.{One}
use Rattle.reply.proofs as own

pub refused_one : One 0 own.shape.refused.Kinds.ps own.shape.refused.Kinds.r own.shape.refused.Reads.Post
refused_one κs a e x y p q = p ∙ sym q

pub first_one : One 0 own.shape.first.Kinds.ps own.shape.first.Kinds.r own.shape.first.Reads.Post
first_one κs a e x y p q = p ∙ sym q

pub number_reply_one : One 0 own.shape.number_reply.Kinds.ps own.shape.number_reply.Kinds.r own.shape.number_reply.Reads.Post
number_reply_one κs a e x y p q = p ∙ sym q

pub letter_reply_one : One 0 own.shape.letter_reply.Kinds.ps own.shape.letter_reply.Kinds.r own.shape.letter_reply.Reads.Post
letter_reply_one κs a e x y p q = p ∙ sym q

pub record_reply_one : One 0 own.shape.record_reply.Kinds.ps own.shape.record_reply.Kinds.r own.shape.record_reply.Reads.Post
record_reply_one κs a e x y p q = p ∙ sym q

pub bytes_one : One 0 own.bytes.ArrayU888FromReply.from.Kinds.ps own.bytes.ArrayU888FromReply.from.Kinds.r own.bytes.ArrayU888FromReply.from.Reads.Post
bytes_one κs a e x y p q = p ∙ sym q

pub put_reply_one : (κs : Lfts 1) (a : Dens κs own.bytes.put_reply.Kinds.ps) (d e : AtExit (ended_of 1 own.bytes.put_reply.Kinds.ps own.bytes.put_reply.Kinds.r) κs) (x y : (res_t own.bytes.put_reply.Kinds.r κs).Denot) →
    own.bytes.put_reply.Reads.Post κs a x d → own.bytes.put_reply.Reads.Post κs a y e → d.0.now ≡ e.0.now
put_reply_one κs a d e x y p q = p ∙ sym q
