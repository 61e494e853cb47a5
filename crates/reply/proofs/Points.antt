-- Points of the definitions, worked out by antt: every byte of a reply, and where it is written: rooms of 88 bytes, fewer and more. Assumes nothing.
use mathlib.Core.Path.{◌≡◌, refl}
use mathlib.Core.List.{List, [], ◌∷◌, ◌++◌}
use Prim.Native.Nat.{ℕ}
use lib.ListN.{replicate}
use lib.Ieee.{nan, to_bits}
use Rattle.common.specs.Outcome.{zero_f}
use Rattle.common.specs.Decimal.{whole, scaled}
use Rattle.buffer.specs.Bytes.{joined, placed}
use Rattle.reply.specs.declared.Reply.{Reply}
use Rattle.reply.specs.Bytes.{reply_bytes}

-- 24 in the first place, a NaN in the last
abbrev reply : Reply
reply = record { refusal = 15; letter = 97; beside = 0x0102_0304; numbers = whole 24 ∷ (replicate 8 zero_f ++ (nan ∷ [])) }

abbrev bytes : List ℕ
bytes = (15 ∷ 97 ∷ 0 ∷ 0 ∷ 4 ∷ 3 ∷ 2 ∷ 1 ∷ 0 ∷ 0 ∷ 0 ∷ 0 ∷ 0 ∷ 0 ∷ 56 ∷ 64 ∷ []) ++ (replicate 70 0 ++ (248 ∷ 127 ∷ []))

pub of_a_reply : reply_bytes reply ≡ bytes
unfolding reply_bytes joined to_bits whole scaled
of_a_reply = refl

pub rooms :
    placed (replicate 87 90) 0 (reply_bytes reply) ∷ placed (replicate 89 90) 1 (reply_bytes reply) ∷ placed (replicate 89 90) 2 (reply_bytes reply)
    ∷ placed (replicate 160 90) 70 (reply_bytes reply) ∷ []
    ≡ replicate 87 90 ∷ (90 ∷ bytes) ∷ replicate 89 90 ∷ (replicate 70 90 ++ (bytes ++ (90 ∷ 90 ∷ []))) ∷ []
unfolding reply_bytes joined to_bits whole scaled
rooms = refl
