-- The contract admits one answer. The theorem is about the contract's own reading, `Reads.Post`. Assumes nothing.
use mathlib.Core.Path.{sym, ◌∙◌}
use Rattle.common.proofs.Same.{One}
use Rattle.entry_numbers.proofs as own

pub entry_of_one : One 0 own.entry_of.Kinds.ps own.entry_of.Kinds.r own.entry_of.Reads.Post
entry_of_one κs a e x y p q = p ∙ sym q
