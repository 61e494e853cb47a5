-- Each contract admits one answer. The theorems are about the contracts' own readings, `Reads.Post`. Assumes nothing.
use mathlib.Core.Path.{sym, ◌∙◌}
use Rattle.common.proofs.Same.{One}
use Rattle.sum_rows.proofs as own

pub on_table_one : One 1 own.table.on_table.Kinds.ps own.table.on_table.Kinds.r own.table.on_table.Reads.Post
on_table_one κs a e x y p q = p ∙ sym q

pub reply_to_one : One 2 own.row.reply_to.Kinds.ps own.row.reply_to.Kinds.r own.row.reply_to.Reads.Post
reply_to_one κs a e x y p q = p ∙ sym q
