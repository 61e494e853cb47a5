-- `joint::four_sums` meets its contract: a row moves from what is left to each sum so far, and none are left at the end.
use Prim.Native.Nat.{◌<◌, ◌^◌}
use lib.Ieee.{of_bits}
use lib.Signed.{mag}
use borrow.Author.Rules.{rules}
use Rattle.std.proofs.lemmas.Iterator.Consumers.{YieldsList-turn, YieldsList-end}
use Rattle.algo.specs.declared.Order.TheVariants.{Zero}
use Rattle.algo.specs.declared.Share.TheVariants.{I, Ii, Ij, Jj}
use Rattle.algo.proofs.Loops.{back}
use Rattle.slopes.proofs.Zipped.{Lent, yields_rows, none_yet}
use Rattle.joint.proofs.Shares.{Item, added, ended}
use Rattle.joint.proofs.four_sums.Goals as goal

pub loop-i-init : goal.loop-i-init
unfolding of_bits
loop-i-init c = record { i = none_yet _ _ _ _; ii = none_yet _ _ _ _; ij = none_yet _ _ _ _; jj = none_yet _ _ _ _ }

pub loop-i-preserved : goal.loop-i-preserved
loop-i-preserved c =
    let a = c.args in
    let t = a.table in
    let l = c.loop-i in
    let some = c.in-Some in
    let x : Lent = ((some.field-0-0-0, some.field-0-0-1), some.field-0-1) in
    let small_i : mag some.field-0-0-0.now < 2 ^ 31 = search rules in
    let small_j : mag some.field-0-0-1.now < 2 ^ 31 = search rules in
    let item : Item Zero a.wi.now a.wj.now t.is.now t.js.now t.ns.now x _ _ _ = record {
      i_is = back _ small_i;
      j_is = back _ small_j;
      by_i = c.factor.result;
      by_i_is = c.factor.ensures;
      item_is = c.factor-item.ensures;
    } in
    let columns =
    yields_rows t.is.now t.js.now t.ns.now c.iter.ensures.rest c.zip.ensures.first c.zip.ensures.second.0 c.zip-i-items.ensures.first
    c.zip-i-items.ensures.second.0 c.into_iter-i-iterator.ensures.into_iter_gives in
    let turn = YieldsList-turn columns l.yielded l.i-iterator l.yielded_by _ c.next.new.self x some.is c.next.ensures.steps in
    let add = added Zero a.wi.now a.wj.now t.is.now t.js.now t.ns.now l.yielded x turn item in
    record {
      i = add I l.by_i _ c.weigh-by_i.ensures l.invariant.i;
      ii = add Ii l.by_ii _ c.weigh-by_ii.ensures l.invariant.ii;
      ij = add Ij l.by_ij _ c.weigh-by_ij.ensures l.invariant.ij;
      jj = add Jj l.by_jj _ c.weigh-by_jj.ensures l.invariant.jj;
    }

pub returns : goal.returns
returns c =
    let a = c.args in
    let t = a.table in
    let l = c.loop-i in
    let columns =
    yields_rows t.is.now t.js.now t.ns.now c.iter.ensures.rest c.zip.ensures.first c.zip.ensures.second.0 c.zip-i-items.ensures.first
    c.zip-i-items.ensures.second.0 c.into_iter-i-iterator.ensures.into_iter_gives in
    let all = YieldsList-end columns l.yielded l.i-iterator l.yielded_by _ c.next.new.self c.in-None.is c.next.ensures.steps in
    let end = ended Zero a.wi.now a.wj.now t.is.now t.js.now t.ns.now l.yielded all.1 in
    (end I l.by_i l.invariant.i, end Ii l.by_ii l.invariant.ii, end Ij l.by_ij l.invariant.ij, end Jj l.by_jj l.invariant.jj)
