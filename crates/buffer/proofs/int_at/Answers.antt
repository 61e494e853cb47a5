-- `buffer::int_at` meets its contract: the number of four bytes that lie there, else of four zeros. Assumes nothing.
use mathlib.Core.Path.{◌≡◌, refl, ap, ◌∙◌}
use mathlib.Core.List.{List}
use Prim.Native.Nat.{ℕ, ◌+◌, ◌≤◌, ◌<◌}
use lib.ListN.{length, replicate}
use mir.Syntax.{w32}
use mir.Val.{to_z}
use mir.ValLaws.{to_z-of_z}
use borrow.Author.Tests.{le-leb, lt-leb}
use Rattle.std.specs.Prelude.{Option, None, Some, MatchOption}
use Rattle.std.specs.Int.{from_le_bytes}
use Rattle.std.specs.Option.{unwrap_or}
use Rattle.buffer.specs.Bytes.{signed, int_in}
use Rattle.buffer.proofs.Laws.{Copied, half_read}
use Rattle.buffer.proofs.int_at.Goals as goal

read : (s : List ℕ) (at : ℕ) (o : Option (List ℕ)) → MatchOption o (length s < at + 4) (λ b. (at + 4 ≤ length s) × Copied b s at 4) →
    to_z w32 (from_le_bytes w32 (unwrap_or o (replicate 4 0))) ≡ int_in s at
unfolding signed
read s at None h = rw (lt-leb _ _ h) refl
read s at (Some b) h = rw (le-leb _ _ h.0) (ap (to_z w32) (half_read s b at h.1))

pub returns : goal.returns
returns c =
    let a = c.args in
    to_z-of_z w32 c.from_le_bytes.result (record { sfits = c.from_le_bytes.type_inv })
    ∙ c.from_le_bytes.ensures
    ∙ ap (λ (b : List ℕ). to_z w32 (from_le_bytes w32 b)) c.unwrap_or-b.ensures
    ∙ read a.s.now a.at c.array_at.result c.array_at.ensures
