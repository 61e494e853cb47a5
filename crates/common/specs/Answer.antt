-- To believe: the paper's number of each refusal, and what an answer says. An answer is a Result whose error is a Refusal; `paper` takes it to an `Outcome`, and a
-- contract says `paper result ≡ rule arguments`. A record's answer has a reader of its own (record, search, exchange_entry), and so have answers that are refused for
-- other reasons (exchange_record, exchange_writer). `number_and_value` (Outcome) is the number and value of it that the exported calls and the stored replies hold.
-- Assumes nothing: these are definitions.
use Rattle.std.specs.Prelude.{ℕ, Result, Ok, Err}
use Rattle.common.specs.Outcome.{Outcome, value, refused}
use Rattle.common.specs.declared.Refusal.{Refusal}
use Rattle.common.specs.declared.Refusal.TheVariants.{NotFinite, First, Second, State, Step, Property, Columns, Border, Unfound}

abbrev pub number_of : Refusal → ℕ
number_of NotFinite = 1
number_of First = 2
number_of Second = 3
number_of State = 4
number_of Step = 5
number_of Property = 6
number_of Columns = 7
number_of Border = 8
number_of Unfound = 15

abbrev pub paper : {A : Type 0} → Result A Refusal → Outcome A
paper (Ok x) = value x
paper (Err k) = refused (number_of k)
