-- Each contract admits one answer. The theorems are about the contracts' own readings, `Reads.Post`. Assumes nothing.
use mathlib.Core.Path.{sym, ◌∙◌}
use Rattle.common.proofs.Same.{One}
use Rattle.sums_by_number.proofs as own

pub two_numbers_one : One 0 own.shape.two_numbers.Kinds.ps own.shape.two_numbers.Kinds.r own.shape.two_numbers.Reads.Post
two_numbers_one κs a e x y p q = p ∙ sym q

pub four_numbers_one : One 0 own.shape.four_numbers.Kinds.ps own.shape.four_numbers.Kinds.r own.shape.four_numbers.Reads.Post
four_numbers_one κs a e x y p q = p ∙ sym q

pub sum_of_one : One 0 own.sums.sum_of.Kinds.ps own.sums.sum_of.Kinds.r own.sums.sum_of.Reads.Post
sum_of_one κs a e x y p q = p ∙ sym q

pub work_one : One 3 own.sums.work.Kinds.ps own.sums.work.Kinds.r own.sums.work.Reads.Post
work_one κs a e x y p q = p ∙ sym q
