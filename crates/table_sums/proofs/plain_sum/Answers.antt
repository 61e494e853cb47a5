-- `table_sums::plain_sum` meets its contract: each part moves its rows from what is left to the sum so far.
use mathlib.Core.Path.{sym, ◌∙◌}
use Rattle.algo.specs.Raw.{tabled_term}
use Rattle.algo.specs.declared.Order.TheVariants.{Zero}
use Rattle.table_sums.proofs.Rows.{parts_added, none_in}
use Rattle.table_sums.proofs.plain_sum.Goals as goal

pub loop-part-preserved : goal.loop-part-preserved
loop-part-preserved c =
    let a = c.args in
    let s = c.in-Some.ensures.steps in
    rw c.plain_part-sum.ensures
    ((rw s.1.0 at c.loop-part.invariant)
    ∙ parts_added (tabled_term Zero Zero a.wi.now a.wj.now) c.loop-part.sum c.in-Some.part.now c.next.new.self.rest.now)

pub returns : goal.returns
returns c =
    let a = c.args in
    record {
      is = sym (c.loop-part.invariant
          ∙ none_in (tabled_term Zero Zero a.wi.now a.wj.now) c.loop-part.sum c.loop-part.part-iterator.rest.now c.in-None.ensures.steps.1.0);
    }
