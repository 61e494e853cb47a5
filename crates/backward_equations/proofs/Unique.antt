-- Each contract admits one answer.
use Rattle.common.proofs.Same.{One}
use Rattle.common.proofs.Numbers.{one_number}
use Rattle.backward_equations.proofs as own

pub raw_ph2T_one : One 0 own.by_side.raw_ph2T.Kinds.ps own.by_side.raw_ph2T.Kinds.r own.by_side.raw_ph2T.Reads.Post
raw_ph2T_one κs a e x y p q = one_number p q

pub raw_ph2v_one : One 0 own.by_side.raw_ph2v.Kinds.ps own.by_side.raw_ph2v.Kinds.r own.by_side.raw_ph2v.Reads.Post
raw_ph2v_one κs a e x y p q = one_number p q

pub raw_ps2T_one : One 0 own.by_side.raw_ps2T.Kinds.ps own.by_side.raw_ps2T.Kinds.r own.by_side.raw_ps2T.Reads.Post
raw_ps2T_one κs a e x y p q = one_number p q

pub raw_ps2v_one : One 0 own.by_side.raw_ps2v.Kinds.ps own.by_side.raw_ps2v.Kinds.r own.by_side.raw_ps2v.Reads.Post
raw_ps2v_one κs a e x y p q = one_number p q

pub raw_hs2p_one : One 0 own.by_side.raw_hs2p.Kinds.ps own.by_side.raw_hs2p.Kinds.r own.by_side.raw_hs2p.Reads.Post
raw_hs2p_one κs a e x y p q = one_number p q
