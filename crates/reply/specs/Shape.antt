-- To believe: the shapes of a reply.
use Rattle.std.specs.Prelude.{ℕ, ◌∷◌, replicate, Float}
use Rattle.common.specs.Outcome.{Outcome, number_in, value_in, zero_f}
use Rattle.subregion.specs.declared.Letter.{Letter}
use Rattle.subregion.specs.Letter.{byte_in}
use Rattle.record.specs.declared.Record.{Record}
use Rattle.record.specs.Record.{fields_of}
use Rattle.reply.specs.declared.Reply.{Reply}

-- a call that is refused: no letter, nothing beside, and +0.0 in every place
abbrev pub refused_by : ℕ → Reply
refused_by k = record { refusal = k; letter = 0; beside = 0; numbers = replicate 10 zero_f }

-- a call for one number has it in the first place, and +0.0 in the others
abbrev pub number_reply : Outcome Float → Reply
number_reply o = record { refusal = number_in o; letter = 0; beside = 0; numbers = value_in o ∷ replicate 9 zero_f }

-- a call for a letter has no number
abbrev pub letter_reply : Outcome Letter → Reply
letter_reply o = record { refusal = number_in o; letter = byte_in o; beside = 0; numbers = replicate 10 zero_f }

-- a call for a record has its fields in their order
abbrev pub record_reply : Outcome Unit × Record → Reply
record_reply a = record { refusal = number_in a.0; letter = 0; beside = 0; numbers = fields_of a.1 }
