-- `buffer::float_at` meets its contract: the float of eight bytes that lie there, else of eight zeros. Assumes nothing.
use mathlib.Core.Path.{◌≡◌, refl, ap, ◌∙◌}
use mathlib.Core.List.{List}
use Prim.Native.Nat.{ℕ, ◌+◌, ◌≤◌, ◌<◌}
use lib.ListN.{length, replicate}
use lib.Ieee.{binary64, of_bits}
use mir.Syntax.{w64}
use borrow.Author.Tests.{le-leb, lt-leb}
use Rattle.std.specs.Prelude.{Option, None, Some, MatchOption}
use Rattle.std.specs.Int.{from_le_bytes}
use Rattle.std.specs.Option.{unwrap_or}
use Rattle.buffer.specs.Bytes.{float_at, float_in}
use Rattle.buffer.proofs.Laws.{Copied, word_read}
use Rattle.buffer.proofs.float_at.Goals as goal

read : (s : List ℕ) (at : ℕ) (o : Option (List ℕ)) → MatchOption o (length s < at + 8) (λ b. (at + 8 ≤ length s) × Copied b s at 8) →
    of_bits binary64 (from_le_bytes w64 (unwrap_or o (replicate 8 0))) ≡ float_in s at
unfolding float_at of_bits
read s at None h = rw (lt-leb _ _ h) refl
read s at (Some b) h = rw (le-leb _ _ h.0) (ap (of_bits binary64) (word_read s b at h.1))

pub returns : goal.returns
returns c =
    let a = c.args in
    c.float_of.ensures
    ∙ ap (of_bits binary64) (c.from_le_bytes.ensures ∙ ap (from_le_bytes w64) c.unwrap_or-b.ensures)
    ∙ read a.s.now a.at c.array_at.result c.array_at.ensures
