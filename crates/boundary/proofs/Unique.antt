-- Each contract admits one answer. Assumes nothing.
use Rattle.common.proofs.Same.{One, same_result}
use Rattle.boundary.proofs as own

pub letter_at_one : One 0 own.choice.letter_at.Kinds.ps own.choice.letter_at.Kinds.r own.choice.letter_at.Reads.Post
letter_at_one κs a e x y p q = same_result _ x y p q

pub sub_region3_pT_one : One 0 own.choice.sub_region3_pT.Kinds.ps own.choice.sub_region3_pT.Kinds.r own.choice.sub_region3_pT.Reads.Post
sub_region3_pT_one κs a e x y p q = same_result _ x y p q
