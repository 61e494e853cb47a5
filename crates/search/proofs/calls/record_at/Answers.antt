-- `search::record_at` meets its contract: one divided by the density, and the trials beside the record. Assumes nothing.
use mathlib.Core.Path.{ap, ◌∙◌}
use lib.Ieee.{of_bits, round}
use Rattle.common.specs.Decimal.{whole, scaled}
use Rattle.search.specs.Calls.{with_trials}
use Rattle.search.proofs.Laws.{told}
use Rattle.search.proofs.calls.record_at.Goals as goal

pub returns : goal.returns
unfolding of_bits whole scaled round
returns c = c.counted.ensures ∙ ap (with_trials c.args.trials) c.work_record.ensures ∙ told _ _
