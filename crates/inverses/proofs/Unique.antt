-- Each contract admits one answer. The theorems are about the contracts' own readings, `Reads.Post`. Assumes nothing.
use mathlib.Core.Path.{sym, ◌∙◌}
use Rattle.common.proofs.Same.{One, same_result}
use Rattle.inverses.proofs as inverses

pub root_one : One 0 inverses.sqrt.root.Kinds.ps inverses.sqrt.root.Kinds.r inverses.sqrt.root.Reads.Post
root_one κs a e x y p q = same_result _ x y p q

pub logarithm_one : One 0 inverses.ln.logarithm.Kinds.ps inverses.ln.logarithm.Kinds.r inverses.ln.logarithm.Reads.Post
logarithm_one κs a e x y p q = same_result _ x y p q

pub raw_root_one : One 0 inverses.sqrt.raw_root.Kinds.ps inverses.sqrt.raw_root.Kinds.r inverses.sqrt.raw_root.Reads.Post
raw_root_one κs a e x y p q = p ∙ sym q

pub raw_logarithm_one : One 0 inverses.ln.raw_logarithm.Kinds.ps inverses.ln.raw_logarithm.Kinds.r inverses.ln.raw_logarithm.Reads.Post
raw_logarithm_one κs a e x y p q = p ∙ sym q
