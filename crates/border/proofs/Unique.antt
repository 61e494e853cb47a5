-- Each contract admits one answer. Assumes nothing.
use mathlib.Core.Path.{sym, ◌∙◌}
use Rattle.common.proofs.Same.{One, same_result}
use Rattle.border.proofs as border

pub B23_T2p_one : One 0 border.B23_T2p.Kinds.ps border.B23_T2p.Kinds.r border.B23_T2p.Reads.Post
B23_T2p_one κs a e x y p q = same_result _ x y p q

pub B23_p2T_one : One 0 border.B23_p2T.Kinds.ps border.B23_p2T.Kinds.r border.B23_p2T.Reads.Post
B23_p2T_one κs a e x y p q = same_result _ x y p q

pub raw_B23_T2p_one : One 0 border.raw_B23_T2p.Kinds.ps border.raw_B23_T2p.Kinds.r border.raw_B23_T2p.Reads.Post
raw_B23_T2p_one κs a e x y p q = p ∙ sym q

pub raw_B23_p2T_one : One 0 border.raw_B23_p2T.Kinds.ps border.raw_B23_p2T.Kinds.r border.raw_B23_p2T.Reads.Post
raw_B23_p2T_one κs a e x y p q = p ∙ sym q

pub check_region3_one : One 0 border.check_region3.Kinds.ps border.check_region3.Kinds.r border.check_region3.Reads.Post
check_region3_one κs a e x y p q = same_result _ x y p q
