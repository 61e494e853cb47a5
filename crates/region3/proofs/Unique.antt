-- Each contract admits one answer, a record with its verdict.
use Rattle.common.proofs.Same.{One}
use Rattle.record.proofs.Unique.{same_record}
use Rattle.region3.proofs as own

pub pT_reg3_one : One 0 own.region3.pT_reg3.Kinds.ps own.region3.pT_reg3.Kinds.r own.region3.pT_reg3.Reads.Post
pT_reg3_one κs a e x y p q = same_record _ x y p q

pub ph_reg3_one : One 0 own.region3.ph_reg3.Kinds.ps own.region3.ph_reg3.Kinds.r own.region3.ph_reg3.Reads.Post
ph_reg3_one κs a e x y p q = same_record _ x y p q

pub ps_reg3_one : One 0 own.region3.ps_reg3.Kinds.ps own.region3.ps_reg3.Kinds.r own.region3.ps_reg3.Reads.Post
ps_reg3_one κs a e x y p q = same_record _ x y p q

pub hs_reg3_one : One 0 own.region3.hs_reg3.Kinds.ps own.region3.hs_reg3.Kinds.r own.region3.hs_reg3.Reads.Post
hs_reg3_one κs a e x y p q = same_record _ x y p q
