-- To believe: the record of a point, in the grammar that the reader goes by, and where it is written, by its entry's verdict: that refusal, then 16, then 22
-- bytes at the front and every other byte as found. Assumes nothing: these are definitions.
use Rattle.std.specs.Prelude.{cond, List, [], ◌∷◌, ℕ, ◌/◌, ◌%◌, ◌^◌, ltb, length, Float, Result, Ok, Err}
use Rattle.std.proofs.lemmas.List.Edits.{sets}
use Rattle.std.specs.Float.{binary64}
use Rattle.std.specs.Float.Ieee.{to_bits}
use Rattle.common.specs.Outcome.{Outcome, value, refused}
use Rattle.common.specs.Answer.{number_of}
use Rattle.exchange_record.specs.declared.Asked.{Asked}
use Rattle.exchange_record.specs.declared.Pair.TheVariants as pair
use Rattle.exchange_record.specs.Grammar.{Field, encoded}
use Rattle.exchange_writer.specs.declared.Point.{Point}
use Rattle.exchange_writer.specs.declared.Point.TheVariants as at
use Rattle.exchange_writer.specs.declared.WriteRefusal.{WriteRefusal}
use Rattle.exchange_writer.specs.declared.WriteRefusal.TheVariants.{Entry, Room}

-- the eight bytes of a number below 2^64, the high byte first
abbrev pub high : ℕ → List ℕ
high n =
    n / 2 ^ 56 % 256 ∷ n / 2 ^ 48 % 256 ∷ n / 2 ^ 40 % 256 ∷ n / 2 ^ 32 % 256
    ∷ n / 2 ^ 24 % 256 ∷ n / 2 ^ 16 % 256 ∷ n / 2 ^ 8 % 256 ∷ n % 256 ∷ []

-- a field of a number
abbrev pub number_field : ℕ → Float → Field
number_field t x = record { tag = t; high = 0; low = 8; body = high (to_bits binary64 x) }

abbrev pub two_fields : ℕ → Float → ℕ → Float → List ℕ
two_fields x a y b = encoded (number_field x a ∷ number_field y b ∷ [])

-- the tags are those of the grammar's pairs
abbrev pub record_of : Point → List ℕ
record_of (at.PT p t) = two_fields 1 p.0 2 t.0
record_of (at.TD t d) = two_fields 2 t.0 3 d.0
record_of (at.PH p h) = two_fields 1 p.0 4 h.0
record_of (at.PS p s) = two_fields 1 p.0 5 s.0
record_of (at.HS h s) = two_fields 4 h.0 5 s.0

abbrev pub room_rule : Point → List ℕ → Outcome Unit × List ℕ
room_rule x found = cond (ltb (length found) 22) (refused 16, found) (value tt, sets found 0 (record_of x))

abbrev pub after : Outcome Unit → Point → List ℕ → Outcome Unit × List ℕ
after (value u) x found = room_rule x found
after (refused k) x found = (refused k, found)

abbrev pub write_number : WriteRefusal → ℕ
write_number (Entry k) = number_of k
write_number Room = 16

abbrev pub paper_write : Result Unit WriteRefusal → Outcome Unit
paper_write (Ok u) = value u
paper_write (Err k) = refused (write_number k)

-- what a point is, as the reader says it: its pair and the bits of its two numbers
abbrev pub asked_for : Point → Asked
asked_for (at.PT p t) = record { pair = pair.PT; a = to_bits binary64 p.0; b = to_bits binary64 t.0 }
asked_for (at.TD t d) = record { pair = pair.TD; a = to_bits binary64 t.0; b = to_bits binary64 d.0 }
asked_for (at.PH p h) = record { pair = pair.PH; a = to_bits binary64 p.0; b = to_bits binary64 h.0 }
asked_for (at.PS p s) = record { pair = pair.PS; a = to_bits binary64 p.0; b = to_bits binary64 s.0 }
asked_for (at.HS h s) = record { pair = pair.HS; a = to_bits binary64 h.0; b = to_bits binary64 s.0 }
