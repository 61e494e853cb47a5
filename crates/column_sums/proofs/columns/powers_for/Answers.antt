-- `column_sums::powers_for` meets its contract: the table of zeros with the powers written that the column spans.
use lib.Ieee.{of_bits}
use Rattle.column_sums.proofs.columns.powers_for.Goals as goal

pub returns : goal.returns
unfolding of_bits
returns c =
    let z = c.span_of-span.ensures in
    rw (c.saturating_sub.ensures, z.0, z.1, c.step_count-s.ensures) at c.fill_powers.ensures
