-- Each contract admits one answer. Assumes nothing.
use mathlib.Core.Path.{sym, ◌∙◌}
use Rattle.common.proofs.Same.{One}
use Rattle.tables.proofs as own

pub letter_sum_one : One 0 own.letter_sum.Kinds.ps own.letter_sum.Kinds.r own.letter_sum.Reads.Post
letter_sum_one κs a e x y p q = p ∙ sym q
