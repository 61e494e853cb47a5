-- `algo::gated` meets its contract where a number is lost. Assumes nothing.
use mathlib.Core.Path.{sym, ◌∙◌}
use lib.Ieee.{of_bits}
use Rattle.common.proofs.Laws.{check_kept, check_lost}
use Rattle.algo.proofs.gated.Goals as goal
use Rattle.algo.proofs.gated.Goals.{else-is_finite-via-then-is_finite+then-is_finite-2+else-is_finite-3, else-is_finite-via-then-is_finite+else-is_finite-2, else-is_finite-via-else-is_finite}

pub returns-else-is_finite : goal.returns-else-is_finite
unfolding of_bits
returns-else-is_finite c =
    let a = c.args in
    elim c.else-is_finite.branch [
      | else-is_finite-via-then-is_finite+then-is_finite-2+else-is_finite-3 w ↦
          rw (check_kept a.vi (sym c.is_finite.ensures ∙ w.if-is_finite.true), check_kept a.vj (sym w.is_finite-then-is_finite.ensures ∙ w.if-is_finite-2.true))
          (rw (check_lost a.x (sym w.is_finite-then-is_finite-2.ensures ∙ w.if-is_finite-3.false)))
      | else-is_finite-via-then-is_finite+else-is_finite-2 w ↦
          rw (check_kept a.vi (sym c.is_finite.ensures ∙ w.if-is_finite.true)) (rw (check_lost a.vj (sym w.is_finite-then-is_finite.ensures ∙ w.if-is_finite-2.false)))
      | else-is_finite-via-else-is_finite w ↦ rw (check_lost a.vi (sym c.is_finite.ensures ∙ w.if-is_finite.false))
    ]
