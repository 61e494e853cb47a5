-- `text::Writer::put_decimal` meets its contract: a number has twenty digits at most. Assumes nothing.
use mathlib.Core.Path.{sym, ◌∙◌}
use Prim.Native.Nat.{◌+◌, ◌≤◌}
use native.Mathlib.Omega.{arith}
use lib.ListN.{length}
use borrow.Author.Tests.{leb-true}
use Rattle.text.proofs.Laws.{decimal_room}
use Rattle.text.proofs.Writer.put_decimal.Goals as goal

pub put_digits-self-requires : goal.put_digits-self-requires
put_digits-self-requires c =
    let a = c.args in
    let h : a.self.now.at + 20 ≤ length a.self.now.out.now = leb-true _ _ (sym c.lies.ensures ∙ c.if-lies.true) in
    omega (arith, h, decimal_room a.n c.ranges.n.fits)
