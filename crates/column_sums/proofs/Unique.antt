-- Each contract admits one answer. The theorems are about the contracts' own readings, `Reads.Post`, and not about a copy of them.
-- Assumes nothing.
use mathlib.Core.Path.{sym, ◌∙◌}
use Rattle.common.proofs.Same.{One}
use Rattle.column_sums.proofs as sums

pub raw_sum_one : One 1 sums.raw.raw_sum.Kinds.ps sums.raw.raw_sum.Kinds.r sums.raw.raw_sum.Reads.Post
raw_sum_one κs a e x y p q = p ∙ sym q

pub raw_pair_one : One 1 sums.raw.raw_pair.Kinds.ps sums.raw.raw_pair.Kinds.r sums.raw.raw_pair.Reads.Post
raw_pair_one κs a e x y p q = rw (p.0, p.1, q.0, q.1)

pub raw_four_one : One 1 sums.raw.raw_four.Kinds.ps sums.raw.raw_four.Kinds.r sums.raw.raw_four.Reads.Post
raw_four_one κs a e x y p q = rw (p.0, p.1, p.2, p.3, q.0, q.1, q.2, q.3)
