-- Each contract admits one answer.
use Rattle.common.proofs.Same.{One, same_result}
use Rattle.volume_at.proofs as own

pub found_pT_one : One 0 own.found_pT.Kinds.ps own.found_pT.Kinds.r own.found_pT.Reads.Post
found_pT_one κs a e x y p q = same_result _ x y p q

pub pT2v_at_one : One 0 own.pT2v_at.Kinds.ps own.pT2v_at.Kinds.r own.pT2v_at.Reads.Post
pT2v_at_one κs a e x y p q = same_result _ x y p q

pub pT2v_reg3_one : One 0 own.pT2v_reg3.Kinds.ps own.pT2v_reg3.Kinds.r own.pT2v_reg3.Reads.Post
pT2v_reg3_one κs a e x y p q = same_result _ x y p q

pub pT2v_3subreg_one : One 0 own.pT2v_3subreg.Kinds.ps own.pT2v_3subreg.Kinds.r own.pT2v_3subreg.Reads.Post
pT2v_3subreg_one κs a e x y p q = same_result _ x y p q

pub pT2v_sat_reg3_one : One 0 own.pT2v_sat_reg3.Kinds.ps own.pT2v_sat_reg3.Kinds.r own.pT2v_sat_reg3.Reads.Post
pT2v_sat_reg3_one κs a e x y p q = same_result _ x y p q
