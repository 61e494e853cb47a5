-- Each contract admits one answer.
use Rattle.common.proofs.Same.{One, same_result}
use Rattle.backward.proofs as own

pub ph2T_reg3_one : One 0 own.region3_Tv_phps.ph2T_reg3.Kinds.ps own.region3_Tv_phps.ph2T_reg3.Kinds.r own.region3_Tv_phps.ph2T_reg3.Reads.Post
ph2T_reg3_one κs a e x y p q = same_result _ x y p q

pub ph2v_reg3_one : One 0 own.region3_Tv_phps.ph2v_reg3.Kinds.ps own.region3_Tv_phps.ph2v_reg3.Kinds.r own.region3_Tv_phps.ph2v_reg3.Reads.Post
ph2v_reg3_one κs a e x y p q = same_result _ x y p q

pub ps2T_reg3_one : One 0 own.region3_Tv_phps.ps2T_reg3.Kinds.ps own.region3_Tv_phps.ps2T_reg3.Kinds.r own.region3_Tv_phps.ps2T_reg3.Reads.Post
ps2T_reg3_one κs a e x y p q = same_result _ x y p q

pub ps2v_reg3_one : One 0 own.region3_Tv_phps.ps2v_reg3.Kinds.ps own.region3_Tv_phps.ps2v_reg3.Kinds.r own.region3_Tv_phps.ps2v_reg3.Reads.Post
ps2v_reg3_one κs a e x y p q = same_result _ x y p q

pub hs2p_reg3_one : One 0 own.region3_p_hs.hs2p_reg3.Kinds.ps own.region3_p_hs.hs2p_reg3.Kinds.r own.region3_p_hs.hs2p_reg3.Reads.Post
hs2p_reg3_one κs a e x y p q = same_result _ x y p q

pub found_ph_one : One 0 own.region3_Tv_phps.found_ph.Kinds.ps own.region3_Tv_phps.found_ph.Kinds.r own.region3_Tv_phps.found_ph.Reads.Post
found_ph_one κs a e x y p q = same_result _ x y p q

pub found_ps_one : One 0 own.region3_Tv_phps.found_ps.Kinds.ps own.region3_Tv_phps.found_ps.Kinds.r own.region3_Tv_phps.found_ps.Reads.Post
found_ps_one κs a e x y p q = same_result _ x y p q
