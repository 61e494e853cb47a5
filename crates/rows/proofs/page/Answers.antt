-- `rows::page` meets its contract: the lines of the columns that the bytes hold are the lines of the bytes. Assumes nothing.
use Rattle.std.proofs.Common.{ℕ, List, ◌≡◌, ap, ◌∙◌}
use Rattle.std.specs.Prelude.{Float}
use native.Mathlib.Omega.{arith}
use mathlib.Core.Path.{subst}
use Rattle.std.proofs.lemmas.List.Edits.{sets}
use Rattle.text.specs.Text.{Wrote}
use Rattle.rows.specs.Lines.{lines_of, block_of, page_of, p_column}
use Rattle.rows.proofs.Laws.{lines_of_bytes}
use Rattle.rows.proofs.page.Goals as goal

pub returns-clause-wrote : goal.returns-clause-wrote
returns-clause-wrote c =
    let a = c.args in
    let s = a.bytes.now in
    let k = c.rows_in-n.result in
    let t = c.take_rows.new.ts in
    let lines : lines_of a.done c.take_rows.new.ps t k ≡ page_of a.done s =
    ap (λ (x : List Float). lines_of a.done x t k) c.take_rows.ensures.ps_after
    ∙ ap (λ (x : List Float). lines_of a.done (sets a.room.now.ps 0 (p_column s k)) x k) c.take_rows.ensures.ts_after
    ∙ lines_of_bytes a.done s k a.room.now.ps a.room.now.ts (omega arith) (omega arith)
    ∙ ap (block_of a.done s) c.rows_in-n.ensures in
    subst (λ (xs : List ℕ). Wrote a.room.now.lines 0 xs c.put_lines.new.out c.put_lines.result) lines c.put_lines.ensures.wrote
