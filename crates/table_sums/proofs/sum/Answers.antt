-- `table_sums::sum`: both sums by powers are the rule's, since no row goes further than the reach.
use mathlib.Core.Path.{sym, ◌∙◌}
use Rattle.table_sums.proofs.Constant.{bare_ends, rule_ends}
use Rattle.table_sums.proofs.sum.Goals as goal

pub returns-then-usual-2 : goal.returns-then-usual-2
returns-then-usual-2 g c =
    bare_ends (sym c.usual.ensures ∙ c.if-usual.true) (sym c.usual-then-usual.ensures ∙ c.if-usual-2.true)
    (rw (c.UP_I.ensures, c.DOWN_I.ensures, c.UP_J.ensures, c.DOWN_J.ensures, c.rows.ensures.printed) at c.bare_sum.ensures) c.rows.ensures.covered

pub returns-else-usual : goal.returns-else-usual
returns-else-usual g c =
    rule_ends
    (rw (c.UP_I-else-usual.ensures, c.DOWN_I-else-usual.ensures, c.UP_J-else-usual.ensures, c.DOWN_J-else-usual.ensures, c.rows-else-usual.ensures.printed)
    at c.rule_sum.ensures)
    c.rows-else-usual.ensures.covered
