-- Each contract admits one answer. The theorems are about the contracts' own readings, `Reads.Post`, and not about a copy of them.
-- Assumes nothing.
use mathlib.Core.Path.{sym, ◌∙◌}
use Rattle.common.proofs.Same.{One}
use Rattle.slopes.proofs as slopes

pub fallen_one : One 0 slopes.fallen.Kinds.ps slopes.fallen.Kinds.r slopes.fallen.Reads.Post
fallen_one κs a e x y p q = p ∙ sym q

pub factor_one : One 1 slopes.factor.Kinds.ps slopes.factor.Kinds.r slopes.factor.Reads.Post
factor_one κs a e x y p q = p ∙ sym q

pub slope_sum_one : One 3 slopes.slope_sum.Kinds.ps slopes.slope_sum.Kinds.r slopes.slope_sum.Reads.Post
slope_sum_one κs a e x y p q = p.is ∙ sym q.is
