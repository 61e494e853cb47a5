-- `boundaries::temperatures::walk` meets its contract: the terms stand in their order. Assumes nothing.
use mathlib.Core.Path.{refl, ap, ◌∙◌}
use borrow.Author.Rules.{rules}
use lib.Ieee.{binary64, add, of_bits}
use Rattle.boundaries.specs.Raw.{raw_sum}
use Rattle.boundaries.proofs.Walks.{more, no_fifth, with_fifth}
use Rattle.boundaries.proofs.temperatures.walk.Goals as goal

pub loop-t-init : goal.loop-t-init
unfolding raw_sum of_bits
loop-t-init c = refl

pub loop-t-preserved : goal.loop-t-preserved
loop-t-preserved c =
    let a = c.args in
    rw c.worked-sum.ensures (more a.row a.bare a.x c.loop-t.t-index c.loop-t.sum (search rules) c.loop-t.invariant _ c.loop-t-test.true)

pub returns-in-None : goal.returns-in-None
returns-in-None c = let a = c.args in no_fifth a.row a.bare a.x _ _ (search rules) c.loop-t.invariant c.in-None.is c.loop-t-test.false

pub returns-in-Some : goal.returns-in-Some
returns-in-Some c =
    let a = c.args in
    ap (add binary64 c.loop-t.sum) c.worked.ensures
    ∙ with_fifth a.row a.bare a.x _ _ (search rules) c.loop-t.invariant c.in-Some.is c.loop-t-test.false
