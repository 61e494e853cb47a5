-- Each contract admits one answer.
use Rattle.common.proofs.Same.{One, same_result}
use Rattle.volume.proofs as own

pub found_by_one : One 0 own.by_origin.found_by.Kinds.ps own.by_origin.found_by.Kinds.r own.by_origin.found_by.Reads.Post
found_by_one κs a e x y p q = same_result _ x y p q

pub volume_from_one : One 0 own.by_origin.volume_from.Kinds.ps own.by_origin.volume_from.Kinds.r own.by_origin.volume_from.Reads.Post
volume_from_one κs a e x y p q = same_result _ x y p q
