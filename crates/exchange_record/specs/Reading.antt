-- To believe: the paper's number of each refusal of the reader, the byte of a pair and the pair of a byte, and what an answer of the reader means.
-- Assumes nothing: these are definitions.
use Rattle.std.specs.Prelude.{cond, ℕ, eqb, List, Result, Ok, Err}
use Rattle.common.specs.Outcome.{Outcome, value, refused}
use Rattle.exchange_record.specs.Grammar.{Accepted, Refused}
use Rattle.exchange_record.specs.declared.Pair.{Pair}
use Rattle.exchange_record.specs.declared.Pair.TheVariants.{PT, TD, PH, PS, HS}
use Rattle.exchange_record.specs.declared.Asked.{Asked}
use Rattle.exchange_record.specs.declared.ReadRefusal.{ReadRefusal}
use Rattle.exchange_record.specs.declared.ReadRefusal.TheVariants.{PastEnd, UnknownTag, WrongLength, OutOfOrder, NotAPair}
use Rattle.exchange_record.specs.declared.NoPair.{NoPair}

abbrev pub read_number : ReadRefusal → ℕ
read_number PastEnd = 10
read_number UnknownTag = 11
read_number WrongLength = 12
read_number OutOfOrder = 13
read_number NotAPair = 14

-- 0 is none
abbrev pub pair_byte : Pair → ℕ
pair_byte PT = 1
pair_byte TD = 2
pair_byte PH = 3
pair_byte PS = 4
pair_byte HS = 5

-- the pair that a byte names, for callers that have no units: 255 where no pair has the byte
abbrev pub pair_by : ℕ → Outcome Pair
pair_by n =
    cond (eqb n 1) (value PT)
    (cond (eqb n 2) (value TD)
    (cond (eqb n 3) (value PH) (cond (eqb n 4) (value PS) (cond (eqb n 5) (value HS) (refused 255)))))

abbrev pub paper_named : Result Pair NoPair → Outcome Pair
paper_named (Ok p) = value p
paper_named (Err e) = refused 255

abbrev pub paper_read : Result Asked ReadRefusal → Outcome Asked
paper_read (Ok q) = value q
paper_read (Err k) = refused (read_number k)

-- the bytes s come to the outcome
abbrev pub Means : List ℕ → Outcome Asked → Type 0
Means s (value q) = Accepted s q
Means s (refused n) = Refused s n
