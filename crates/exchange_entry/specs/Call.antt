-- To believe: the entry of each pair, and the answer to a record: the reader's refusal, or the entry's own answer with the pair.
-- Assumes nothing: these are definitions.
use Rattle.std.specs.Prelude.{◌≡◌, List, ℕ, Result, Ok, Err}
use Rattle.common.specs.Outcome.{Outcome, value, refused, number_in}
use Rattle.common.specs.Answer.{number_of}
use Rattle.record.specs.declared.Record.{Record}
use Rattle.record.specs.Record.{report}
use Rattle.td_record.specs.Steps.{record_rule}
use Rattle.region3.specs.Entries.{pT_rule, ph_rule, ps_rule, hs_rule}
use Rattle.exchange_record.specs.declared.Pair.{Pair}
use Rattle.exchange_record.specs.declared.Asked.{Asked}
use Rattle.exchange_record.specs.Reading.{Means, read_number, pair_byte}
use Rattle.exchange_writer.specs.declared.Point.{Point}
use Rattle.exchange_writer.specs.declared.Point.TheVariants as at
use Rattle.exchange_writer.specs.Point.{point_of}
use Rattle.exchange_entry.specs.declared.ExchangeRefusal.{ExchangeRefusal}
use Rattle.exchange_entry.specs.declared.ExchangeRefusal.TheVariants.{Reader, Entry}
use Rattle.exchange_entry.specs.declared.ExchangeAnswer.{ExchangeAnswer}

abbrev pub entry_rule : Point → Outcome Record
entry_rule (at.PT p t) = pT_rule p.0 t.0
entry_rule (at.TD t d) = record_rule t.0 d.0
entry_rule (at.PH p h) = ph_rule p.0 h.0
entry_rule (at.PS p s) = ps_rule p.0 s.0
entry_rule (at.HS h s) = hs_rule h.0 s.0

-- the pair that was read, and the entry's report; a refusal of the reader is both
abbrev pub exchange_of : Outcome Asked → Outcome Pair × (Outcome Unit × Record)
exchange_of (value q) = (value q.pair, report (entry_rule (point_of q)))
exchange_of (refused n) = (refused n, report (refused n))

abbrev pub heard : Result Pair ExchangeRefusal → Outcome Pair × Outcome Unit
heard (Ok p) = (value p, value tt)
heard (Err (Reader k)) = (refused (read_number k), refused (read_number k))
heard (Err (Entry p k)) = (value p, refused (number_of k))

abbrev pub paper_exchange : ExchangeAnswer → Outcome Pair × (Outcome Unit × Record)
paper_exchange a = ((heard a.verdict).0, ((heard a.verdict).1, a.record))

abbrev pub verdict_number : Result Pair ExchangeRefusal → ℕ
verdict_number v = number_in (heard v).1

-- 0 where no pair was read
abbrev pub pair_in : Outcome Pair → ℕ
pair_in (value p) = pair_byte p
pair_in (refused n) = 0

abbrev pub verdict_pair : Result Pair ExchangeRefusal → ℕ
verdict_pair v = pair_in (heard v).0

-- what some bytes come to, and the answer to it
pub record Exchanged (s : List ℕ) (a : Outcome Pair × (Outcome Unit × Record)) : Type 0 where
  pub read : Outcome Asked
  pub means : Means s read
  pub answer : a ≡ exchange_of read
