-- `boundaries::temperatures::by_row` meets its contract: at a usual x the two kinds of powers are one. Assumes nothing.
use mathlib.Core.Path.{◌≡◌, refl, sym, ap, ◌∙◌}
use Rattle.boundaries.specs.Boundary.{Row, row_at}
use Rattle.boundaries.specs.Raw.{place_of, argument_in, raw_argument, raw_sum}
use Rattle.boundaries.proofs.TableSums.{usual_sum, table_few}
use Rattle.boundaries.proofs.temperatures.by_row.Goals as goal
use Rattle.boundaries.proofs.temperatures.by_row.Goals.{then-bare, else-bare}

pub returns-then-usual : goal.returns-then-usual
returns-then-usual c =
    let k = place_of c.args.k in
    let x = c.argument-x.result in
    let x_is : x ≡ raw_argument (argument_in (row_at k)) c.args.p.0 =
    c.argument-x.ensures ∙ ap (λ (r : Row). raw_argument (argument_in r) c.args.p.0) c.row_at.ensures in
    c.walk_at.ensures
    ∙ elim c.if-bare.branch [
      | then-bare w ↦ rw w.if-bare.true refl
      | else-bare w ↦ rw w.if-bare.false (usual_sum (row_at k) x (sym w.usual.ensures ∙ sym w.value-is ∙ c.if-usual.true) (table_few k))
    ]
    ∙ ap (raw_sum _ (row_at k)) x_is
