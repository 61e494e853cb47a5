-- Each contract admits one answer. The theorems are about the contracts' own readings, `Reads.Post`. Assumes nothing.
use mathlib.Core.Path.{sym, ◌∙◌}
use Rattle.common.proofs.Same.{One}
use Rattle.sizes.proofs as sizes

pub usual_one : One 0 sizes.usual.Kinds.ps sizes.usual.Kinds.r sizes.usual.Reads.Post
usual_one κs a e x y p q = p ∙ sym q

pub look_one : One 0 sizes.look.Kinds.ps sizes.look.Kinds.r sizes.look.Reads.Post
look_one κs a e x y p q = p ∙ sym q
