-- To believe: the 88 bytes of a reply.
use Rattle.std.specs.Prelude.{ℕ, ◌/◌, ◌%◌, ◌^◌, List, [], ◌∷◌, ◌++◌, get_or, Float}
use Rattle.std.specs.Float.{nan, binary64}
use Rattle.std.specs.Float.Ieee.{to_bits}
use Rattle.buffer.specs.Bytes.{joined, eight}
use Rattle.reply.specs.declared.Reply.{Reply}

-- number k of a reply
abbrev pub number_bytes : List Float → ℕ → List ℕ
number_bytes xs k = eight (to_bits binary64 (get_or xs k nan))

-- the four bytes of a number below 2^32
abbrev pub four : ℕ → List ℕ
four n = n % 256 ∷ n / 2 ^ 8 % 256 ∷ n / 2 ^ 16 % 256 ∷ n / 2 ^ 24 % 256 ∷ []

-- byte 0 the refusal, byte 1 the letter or 0, bytes 2 and 3 zero, bytes 4 to 7 what stands beside
abbrev pub head_bytes : ℕ → ℕ → ℕ → List ℕ
head_bytes refusal letter beside = (refusal ∷ letter ∷ 0 ∷ 0 ∷ []) ++ four beside

-- then the ten numbers
unfoldable pub reply_bytes : Reply → List ℕ
reply_bytes r = head_bytes r.refusal r.letter r.beside ++ joined (number_bytes r.numbers) 10
