-- The contract of `found` admits one answer. Assumes nothing.
use Rattle.common.proofs.Same.{One, same_result}
use Rattle.place.proofs as own

pub found_one : One 0 own.found.Kinds.ps own.found.Kinds.r own.found.Reads.Post
found_one κs a e x y p q = same_result _ x y p q
