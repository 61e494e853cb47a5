-- `exchange_writer::put` meets its contract: its two fields are one run at the front. Assumes nothing.
use mathlib.Core.Path.{◌∙◌, ap}
use borrow.Author.Rules.{rules}
use lib.Seq.{sets}
use Rattle.exchange_writer.proofs.Laws.{two_runs}
use Rattle.exchange_writer.proofs.put.Goals as goal

pub returns : goal.returns
returns c =
    let r = c.fields_of.result in
    two_runs c.args.out.now c.put_bytes.new.out _ r.0 r.1 (search rules) (search rules) c.requires c.put_bytes.ensures c.put_bytes-2.ensures
    ∙ ap (sets c.args.out.now 0) c.fields_of.ensures
