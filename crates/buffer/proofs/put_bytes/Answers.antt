-- `buffer::put_bytes` meets its contract: bytes that lie in the room are stored there. Assumes nothing.
use mathlib.Core.Path.{sym, ap, ◌∙◌}
use mathlib.Core.List.{List}
use Prim.Native.Nat.{ℕ, ◌+◌, ◌-◌, ◌≤◌}
use native.Mathlib.Omega.{arith}
use lib.ListN.{length}
use borrow.Author.Tests.{leb-true}
use borrow.Rule.Slice.PartMut.{put_mid}
use Rattle.buffer.proofs.Laws.{placed_all, put_mid_sets}
use Rattle.buffer.proofs.put_bytes.Goals as goal

pub returns-then-lies : goal.returns-then-lies
returns-then-lies c =
    let a = c.args in
    let h : a.at + length a.bytes.now ≤ length a.out.now = leb-true _ _ (sym c.lies.ensures ∙ c.if-lies.true) in
    ap (λ (xs : List ℕ). put_mid a.at (a.at + length a.bytes.now - a.at) a.out.now xs) c.copy_from_slice.ensures.after
    ∙ put_mid_sets a.out.now a.bytes.now a.at (a.at + length a.bytes.now - a.at) (omega arith) h
    ∙ sym (placed_all a.out.now a.at a.bytes.now h)
