-- Each contract admits one answer.
use Rattle.common.proofs.Same.{One, same_result}
use Rattle.origin.proofs as own

pub origin_at_one : One 0 own.origin_at.Kinds.ps own.origin_at.Kinds.r own.origin_at.Reads.Post
origin_at_one κs a e x y p q = same_result _ x y p q

pub origin_pT_one : One 0 own.origin_pT.Kinds.ps own.origin_pT.Kinds.r own.origin_pT.Reads.Post
origin_pT_one κs a e x y p q = same_result _ x y p q
