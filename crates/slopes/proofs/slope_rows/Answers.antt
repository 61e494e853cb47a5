-- `slopes::slope_rows` meets its contract: a row moves from what is left to the sum so far, and none are left at the end.
use mathlib.Core.Path.{refl}
use Prim.Native.Nat.{◌<◌, ◌^◌}
use lib.Ieee.{of_bits}
use lib.Signed.{mag}
use borrow.Author.Rules.{rules}
use Rattle.std.proofs.lemmas.Iterator.Consumers.{YieldsList-turn, YieldsList-end}
use Rattle.algo.specs.Raw.{tabled_term}
use Rattle.algo.proofs.Loops.{back}
use Rattle.slopes.proofs.Zipped.{Lent, yields_rows, none_yet, one_more, none_left}
use Rattle.slopes.proofs.slope_rows.Goals as goal

pub loop-i-init : goal.loop-i-init
unfolding of_bits
loop-i-init c = none_yet _ _ _ _

pub loop-i-preserved : goal.loop-i-preserved
loop-i-preserved c =
    let a = c.args in
    let is = a.table.is.now in
    let js = a.table.js.now in
    let ns = a.table.ns.now in
    let l = c.loop-i in
    let some = c.in-Some in
    let x : Lent = ((some.field-0-0-0, some.field-0-0-1), some.field-0-1) in
    let small_i : mag some.field-0-0-0.now < 2 ^ 31 = search rules in
    let small_j : mag some.field-0-0-1.now < 2 ^ 31 = search rules in
    let p = rw (back _ small_i) at c.factor.ensures in
    let q = rw (back _ small_j) at c.factor-sum.ensures in
    let columns =
    yields_rows is js ns c.iter.ensures.rest c.zip.ensures.first c.zip.ensures.second.0 c.zip-i-items.ensures.first
    c.zip-i-items.ensures.second.0 c.into_iter-i-iterator.ensures.into_iter_gives in
    one_more (tabled_term a.a a.b a.wi.now a.wj.now) is js ns l.yielded x l.sum _
    (YieldsList-turn columns l.yielded l.i-iterator l.yielded_by _ c.next.new.self x some.is c.next.ensures.steps)
    (rw (q, p) refl) l.invariant

pub returns : goal.returns
returns c =
    let a = c.args in
    let is = a.table.is.now in
    let js = a.table.js.now in
    let ns = a.table.ns.now in
    let l = c.loop-i in
    let columns =
    yields_rows is js ns c.iter.ensures.rest c.zip.ensures.first c.zip.ensures.second.0 c.zip-i-items.ensures.first
    c.zip-i-items.ensures.second.0 c.into_iter-i-iterator.ensures.into_iter_gives in
    let end = YieldsList-end columns l.yielded l.i-iterator l.yielded_by _ c.next.new.self c.in-None.is c.next.ensures.steps in
    record { is = none_left (tabled_term a.a a.b a.wi.now a.wj.now) is js ns l.yielded l.sum end.1 l.invariant }
