-- Each contract admits one answer.
use mathlib.Core.Path.{sym, ◌∙◌}
use Rattle.common.proofs.Same.{One}
use Rattle.column_row.proofs as own

pub mark_one : One 0 own.mark.Kinds.ps own.mark.Kinds.r own.mark.Reads.Post
mark_one κs a e x y p q = p ∙ sym q

pub line_of_one : One 0 own.line_of.Kinds.ps own.line_of.Kinds.r own.line_of.Reads.Post
line_of_one κs a e x y p q = p ∙ sym q

pub row_one : One 0 own.row.Kinds.ps own.row.Kinds.r own.row.Reads.Post
row_one κs a e x y p q = p ∙ sym q
