-- Each contract admits one answer, whatever the caller's record holds.
use Rattle.common.proofs.Same.{One}
use Rattle.record.proofs.Unique.{same_record}
use Rattle.td_record.proofs as own

pub work_record_one : One 0 own.work_record.Kinds.ps own.work_record.Kinds.r own.work_record.Reads.Post
work_record_one κs a e x y p q = same_record _ x y p q

pub Td_reg3_one : One 0 own.Td_reg3.Kinds.ps own.Td_reg3.Kinds.r own.Td_reg3.Reads.Post
Td_reg3_one κs a e x y p q = same_record _ x y p q
