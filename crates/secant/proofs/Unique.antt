-- Each contract admits one answer. Assumes nothing.
use Rattle.common.proofs.Same.{One, same_result}
use Rattle.secant.proofs as own

pub rtsec_p_one : One 0 own.rtsec_p.Kinds.ps own.rtsec_p.Kinds.r own.rtsec_p.Reads.Post
rtsec_p_one κs a e x y p q = same_result _ x y p q

pub rtsec_h_one : One 0 own.rtsec_h.Kinds.ps own.rtsec_h.Kinds.r own.rtsec_h.Reads.Post
rtsec_h_one κs a e x y p q = same_result _ x y p q

pub rtsec_s_one : One 0 own.rtsec_s.Kinds.ps own.rtsec_s.Kinds.r own.rtsec_s.Reads.Post
rtsec_s_one κs a e x y p q = same_result _ x y p q
