-- Each contract admits one answer. Assumes nothing.
use Rattle.common.proofs.Same.{One, same_result}
use Rattle.checks.proofs as own

pub check_p_one : One 0 own.check_p.Kinds.ps own.check_p.Kinds.r own.check_p.Reads.Post
check_p_one κs a e x y p q = same_result _ x y p q

pub check_h_one : One 0 own.check_h.Kinds.ps own.check_h.Kinds.r own.check_h.Reads.Post
check_h_one κs a e x y p q = same_result _ x y p q

pub check_s_one : One 0 own.check_s.Kinds.ps own.check_s.Kinds.r own.check_s.Reads.Post
check_s_one κs a e x y p q = same_result _ x y p q
