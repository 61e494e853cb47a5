-- Each contract admits one answer. The theorem is about the contract's own reading, `Reads.Post`, and not about a copy of it.
-- Assumes nothing.
use mathlib.Core.Path.{sym, ◌∙◌}
use Rattle.common.proofs.Same.{One}
use Rattle.algo.proofs as algo

pub gated_one : One 0 algo.gated.Kinds.ps algo.gated.Kinds.r algo.gated.Reads.Post
gated_one κs a e x y p q = p ∙ sym q
