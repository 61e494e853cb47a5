-- To believe: where a point is written: its entry's own refusals, and then the writer's rule; under its units, or by the byte of its pair.
-- Assumes nothing: these are definitions.
use Rattle.std.specs.Prelude.{List, ℕ, Float}
use Rattle.common.specs.Outcome.{Outcome, value, refused, number_in}
use Rattle.record.specs.Record.{report}
use Rattle.exchange_record.specs.declared.Pair.{Pair}
use Rattle.exchange_record.specs.Reading.{pair_by}
use Rattle.exchange_writer.specs.declared.Point.{Point}
use Rattle.exchange_writer.specs.Point.{point_at}
use Rattle.exchange_writer.specs.Written.{after}
use Rattle.exchange_entry.specs.Call.{entry_rule}

abbrev pub write_rule : Point → List ℕ → Outcome Unit × List ℕ
write_rule x found = after (report (entry_rule x)).0 x found

abbrev pub numbered : Outcome Unit × List ℕ → ℕ × List ℕ
numbered z = (number_in z.0, z.1)

abbrev pub written_for : Outcome Pair → Float → Float → List ℕ → ℕ × List ℕ
written_for (value p) a b found = numbered (write_rule (point_at p a b) found)
written_for (refused k) a b found = (k, found)

abbrev pub written_by : ℕ → Float → Float → List ℕ → ℕ × List ℕ
written_by n = written_for (pair_by n)
