-- Each contract admits one answer. The theorems are about the contracts' own readings, `Reads.Post`, and not about a copy of them.
-- Assumes nothing.
use mathlib.Core.Path.{sym, ◌∙◌}
use Rattle.common.proofs.Same.{One}
use Rattle.joint.proofs as joint

pub finished_one : One 0 joint.finished.Kinds.ps joint.finished.Kinds.r joint.finished.Reads.Post
finished_one κs a e x y p q = p ∙ sym q

pub joint_sums_one : One 3 joint.joint_sums.Kinds.ps joint.joint_sums.Kinds.r joint.joint_sums.Reads.Post
joint_sums_one κs a e x y p q = rw (p.0.is, p.1.is, q.0.is, q.1.is)

pub four_sums_one : One 3 joint.four_sums.Kinds.ps joint.four_sums.Kinds.r joint.four_sums.Reads.Post
four_sums_one κs a e x y p q = rw (p.0.is, p.1.is, p.2.is, p.3.is, q.0.is, q.1.is, q.2.is, q.3.is)
