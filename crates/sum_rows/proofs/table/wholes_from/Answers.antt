-- `sum_rows::table::wholes_from` meets its contract: the number at each index is what the closure answers there.
use Rattle.std.proofs.Common.{◌+◌, ◌*◌, pos, rules}
use Rattle.buffer.specs.Bytes.{int_in}
use Rattle.sum_rows.proofs.Laws.{made}
use Rattle.sum_rows.proofs.table.wholes_from.Goals as goal

pub returns : goal.returns
returns c = made _ _ (λ k. int_in c.args.table.now (c.args.at + 4 * k)) (pos 0) (λ i x q k. search rules) _ 64 c.from_fn.ensures.items
