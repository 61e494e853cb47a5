-- To believe: rows of 24 bytes and the replies to them.
use Rattle.std.specs.Prelude.{ℕ, ◌+◌, ◌*◌, ◌/◌, min, List, length, get_or}
use Rattle.buffer.specs.Bytes.{joined, int_in, float_in}
use Rattle.entry_numbers.specs.Numbers.{entry_of}
use Rattle.entries.specs.Entries.{asked_rule}
use Rattle.reply.specs.declared.Reply.{Reply}
use Rattle.reply.specs.Bytes.{reply_bytes}

-- the reply to the row that begins at an index: byte 0 the entry, bytes 1 to 3 not looked at, bytes 4 to 7 the number, then the two arguments
unfoldable pub reply_at : List ℕ → ℕ → Reply
reply_at s i = asked_rule (entry_of (get_or s i 0)) (int_in s (i + 4)) (float_in s (i + 8)) (float_in s (i + 16))

-- the rows of a page that are answered: whole ones whose replies have room
abbrev pub rows_in : List ℕ → List ℕ → ℕ
rows_in s out = min (length s / 24) (length out / 88)

-- the replies to the first n rows
unfoldable pub replies_to : List ℕ → ℕ → List ℕ
replies_to s n = joined (λ i. reply_bytes (reply_at s (24 * i))) n
