-- To believe: the 112 bytes that answer a record. Assumes nothing: these are definitions.
use Rattle.std.specs.Prelude.{List, [], ◌∷◌, ◌++◌, ℕ, replicate}
use Rattle.common.specs.Outcome.{Outcome}
use Rattle.record.specs.declared.Record.{Record}
use Rattle.buffer.specs.Bytes.{eight}
use Rattle.reply.specs.Shape.{record_reply}
use Rattle.reply.specs.Bytes.{reply_bytes}
use Rattle.exchange_record.specs.declared.Asked.{Asked}
use Rattle.exchange_record.specs.Reading.{pair_byte}

-- byte 0 the reader's refusal, byte 1 the pair, then zeros to byte 8, the bits of the two numbers, the entry's reply
abbrev pub asked_bytes : Asked → Outcome Unit × Record → List ℕ
asked_bytes q a = (0 ∷ pair_byte q.pair ∷ 0 ∷ 0 ∷ 0 ∷ 0 ∷ 0 ∷ 0 ∷ []) ++ eight q.a ++ eight q.b ++ reply_bytes (record_reply a)

-- all zero after a refusal of the reader
abbrev pub refused_bytes : ℕ → List ℕ
refused_bytes n = n ∷ replicate 111 0
