-- `sum_rows::table::floats_from` meets its contract: the number at each index is what the closure answers there.
use Rattle.std.proofs.Common.{◌+◌, ◌*◌, rules}
use Rattle.common.specs.Outcome.{zero_f}
use Rattle.buffer.specs.Bytes.{float_in}
use Rattle.sum_rows.proofs.Laws.{made}
use Rattle.sum_rows.proofs.table.floats_from.Goals as goal

pub returns : goal.returns
returns c = made _ _ (λ k. float_in c.args.table.now (c.args.at + 8 * k)) zero_f (λ i x q k. search rules) _ 64 c.from_fn.ensures.items
