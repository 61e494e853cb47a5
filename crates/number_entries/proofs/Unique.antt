-- Each contract admits one answer. The theorems are about the contracts' own readings, `Reads.Post`. Assumes nothing.
use mathlib.Core.Path.{sym, ◌∙◌}
use Rattle.common.proofs.Same.{One}
use Rattle.number_entries.proofs as own

pub at_boundary_one : One 0 own.at_boundary.Kinds.ps own.at_boundary.Kinds.r own.at_boundary.Reads.Post
at_boundary_one κs a e x y p q = p ∙ sym q

pub by_letter_one : One 0 own.by_letter.Kinds.ps own.by_letter.Kinds.r own.by_letter.Reads.Post
by_letter_one κs a e x y p q = p ∙ sym q

pub by_phase_one : One 0 own.by_phase.Kinds.ps own.by_phase.Kinds.r own.by_phase.Reads.Post
by_phase_one κs a e x y p q = p ∙ sym q
