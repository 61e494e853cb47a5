-- The count of a reply's bytes. Assumes nothing.
use mathlib.Core.Path.{◌≡◌, refl, ap}
use Prim.Native.Nat.{ℕ, ◌+◌}
use mathlib.Core.List.{List}
use lib.ListN.{length}
use lib.Ieee.{Float}
use Rattle.buffer.specs.Bytes.{joined}
use Rattle.buffer.proofs.Laws.{joined_length}
use Rattle.reply.specs.Bytes.{number_bytes, reply_bytes}
use Rattle.reply.specs.declared.Reply.{Reply}

pub number_length : (xs : List Float) (k : ℕ) → length (number_bytes xs k) ≡ 8
number_length xs k = refl

pub reply_length : (r : Reply) → length (reply_bytes r) ≡ 88
unfolding reply_bytes joined
reply_length r = ap (λ (n : ℕ). 8 + n) (joined_length (number_bytes r.numbers) 8 10 (number_length r.numbers))
