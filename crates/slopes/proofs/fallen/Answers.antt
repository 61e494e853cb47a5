-- `slopes::fallen` meets its contract: the test leaves exponents whose product with the one below is an i32.
use mathlib.Core.Bool.{false}
use mathlib.Core.Path.{◌≡◌, sym, ap, ◌∙◌}
use lib.Dec.{leb}
use lib.Ieee.{of_bits}
use lib.IntN.{nat_abs}
use mir.Syntax.{w32}
use mir.ValLaws.{to_z-of_z}
use borrow.Author.Tests.{lt-leb}
use Rattle.slopes.proofs.fallen.Goals as goal

pub returns-then-unsigned_abs-gt66 : goal.returns-then-unsigned_abs-gt66
unfolding of_bits
returns-then-unsigned_abs-gt66 c =
    let k = c.args.k in
    let size = ap nat_abs (sym (to_z-of_z w32 k c.ranges.k)) ∙ sym c.unsigned_abs.ensures.value in
    let far : leb (nat_abs k) 66 ≡ false = rw size (lt-leb _ 66 c.if-unsigned_abs-gt66.true) in
    rw far
