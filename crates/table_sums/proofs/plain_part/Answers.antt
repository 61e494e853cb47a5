-- `table_sums::plain_part` meets its contract: a row moves from what is left to the sum so far.
use mathlib.Core.Path.{sym, ◌∙◌}
use Prim.Native.Nat.{◌<◌, ◌^◌}
use borrow.Author.Rules.{rules}
use lib.IntN.{ℤ, pos}
use lib.ListN.{get_or}
use lib.Signed.{mag}
use lib.Ieee.{nan}
use Rattle.algo.specs.Raw.{tabled_term}
use Rattle.algo.specs.declared.Order.TheVariants.{Zero}
use Rattle.algo.proofs.Loops.{back_wider}
use Rattle.table_sums.proofs.Rows.{one_more, none_left}
use Rattle.table_sums.proofs.plain_part.Goals as goal

pub loop-i-preserved : goal.loop-i-preserved
loop-i-preserved c =
    let a = c.args in
    let i : ℤ = (get_or a.rows.now c.loop-i.i-index (pos 0, pos 0, nan)).0 in
    let j : ℤ = (get_or a.rows.now c.loop-i.i-index (pos 0, pos 0, nan)).1 in
    let small_i : mag i < 2 ^ 31 = search rules in
    let small_j : mag j < 2 ^ 31 = search rules in
    let p = rw (c.from.ensures, back_wider i small_i) at c.power_in.ensures in
    let q = rw (c.from-in-loop-i.ensures, back_wider j small_j) at c.power_in-in-loop-i.ensures in
    rw (p, q)
    (c.loop-i.invariant
    ∙ one_more (tabled_term Zero Zero a.wi.now a.wj.now) c.loop-i.sum a.rows.now c.loop-i.i-index c.loop-i-test.true)

pub returns : goal.returns
returns c =
    let a = c.args in
    sym (c.loop-i.invariant
    ∙ none_left (tabled_term Zero Zero a.wi.now a.wj.now) c.loop-i.sum a.rows.now c.loop-i.i-index c.loop-i-test.false)
