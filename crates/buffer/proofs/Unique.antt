-- Each contract admits one answer and one content of the lent bytes. The theorems are about the contracts' own readings, `Reads.Post`.
-- Assumes nothing.
use mathlib.Core.Path.{◌≡◌, sym, ◌∙◌}
use contract.Lifetimes.{Lfts}
use denote.Triple.Clauses.{AtExit}
use borrow.Fn.Kinds.{Dens, ended_of, res_t}
use Rattle.common.proofs.Same.{One}
use Rattle.buffer.proofs as own

pub lies_one : One 0 own.lies.Kinds.ps own.lies.Kinds.r own.lies.Reads.Post
lies_one κs a e x y p q = p ∙ sym q

pub byte_at_one : One 1 own.byte_at.Kinds.ps own.byte_at.Kinds.r own.byte_at.Reads.Post
byte_at_one κs a e x y p q = p ∙ sym q

pub int_at_one : One 1 own.int_at.Kinds.ps own.int_at.Kinds.r own.int_at.Reads.Post
int_at_one κs a e x y p q = p ∙ sym q

pub float_of_one : One 0 own.float_of.Kinds.ps own.float_of.Kinds.r own.float_of.Reads.Post
float_of_one κs a e x y p q = p ∙ sym q

pub float_at_one : One 1 own.float_at.Kinds.ps own.float_at.Kinds.r own.float_at.Reads.Post
float_at_one κs a e x y p q = p ∙ sym q

pub put_bytes_one : (κs : Lfts 2) (a : Dens κs own.put_bytes.Kinds.ps) (d e : AtExit (ended_of 2 own.put_bytes.Kinds.ps own.put_bytes.Kinds.r) κs) (x y : (res_t own.put_bytes.Kinds.r κs).Denot) →
    own.put_bytes.Reads.Post κs a x d → own.put_bytes.Reads.Post κs a y e → d.0.now ≡ e.0.now
put_bytes_one κs a d e x y p q = p ∙ sym q

pub put_word_one : (κs : Lfts 1) (a : Dens κs own.put_word.Kinds.ps) (d e : AtExit (ended_of 1 own.put_word.Kinds.ps own.put_word.Kinds.r) κs) (x y : (res_t own.put_word.Kinds.r κs).Denot) →
    own.put_word.Reads.Post κs a x d → own.put_word.Reads.Post κs a y e → d.0.now ≡ e.0.now
put_word_one κs a d e x y p q = p ∙ sym q

pub put_float_one : (κs : Lfts 1) (a : Dens κs own.put_float.Kinds.ps) (d e : AtExit (ended_of 1 own.put_float.Kinds.ps own.put_float.Kinds.r) κs) (x y : (res_t own.put_float.Kinds.r κs).Denot) →
    own.put_float.Reads.Post κs a x d → own.put_float.Reads.Post κs a y e → d.0.now ≡ e.0.now
put_float_one κs a d e x y p q = p ∙ sym q
