-- To believe: the bytes that answer some bytes. Assumes nothing: these are definitions.
use Rattle.std.specs.Prelude.{◌≡◌, ℕ, List}
use Rattle.common.specs.Outcome.{Outcome, value, refused}
use Rattle.record.specs.Record.{report}
use Rattle.exchange_record.specs.declared.Asked.{Asked}
use Rattle.exchange_record.specs.Reading.{Means}
use Rattle.exchange_writer.specs.Point.{point_of}
use Rattle.exchange_entry.specs.Call.{entry_rule}
use Rattle.exchange_reply.specs.Bytes.{asked_bytes, refused_bytes}

abbrev pub bytes_of : Outcome Asked → List ℕ
bytes_of (value q) = asked_bytes q (report (entry_rule (point_of q)))
bytes_of (refused n) = refused_bytes n

-- what some bytes come to, and the bytes that answer it
pub record Replied (s r : List ℕ) : Type 0 where
  pub read : Outcome Asked
  pub means : Means s read
  pub bytes : r ≡ bytes_of read
