-- Helps proofs only: a record whose fields are worked with no check, and tested once.
use Rattle.std.specs.Prelude.{cond, Float}
use Rattle.common.specs.Outcome.{Outcome, value, refused, finite}
use Rattle.common.specs.Formula.{lost_or}
use Rattle.record.specs.declared.Record.{Record}

-- the last of the numbers that follow p, or the first of them that is lost
abbrev pub last_of : Record → Float
last_of r = lost_or r.h (lost_or r.s (lost_or r.u (lost_or r.cv (lost_or r.cp r.w))))

-- the record, where none of them is lost
abbrev pub complete : Record → Outcome Record
complete r = cond (finite (last_of r)) (value r) (refused 5)
