-- `secant::trials` meets its contract: each turn is one trial more, or the end. Assumes nothing.
use Rattle.std.proofs.Common.{ℕ, suc, ◌≡◌, ◌+◌, ◌-◌, ◌≤◌, sym, ap, ◌∙◌}
use native.Mathlib.Omega.{arith}
use Rattle.std.proofs.lemmas.Result.{err_from_is_err_and}
use Rattle.common.specs.Outcome.{value}
use Rattle.secant.specs.Secant.{max_iter}
use Rattle.secant.proofs.Steps.{onward_first, onward_none, onward_ended, onward_lost, onward_tried}
use Rattle.secant.proofs.trials.Goals as goal

-- while the loop goes on there is one left at least
one_left : (count : ℕ) → suc count ≤ max_iter → max_iter - count ≡ suc (max_iter - (count + 1))
one_left count h = omega arith

pub loop-count-init : goal.loop-count-init
loop-count-init c = onward_first _ _

pub loop-count-preserved : goal.loop-count-preserved
loop-count-preserved c =
    let l = c.loop-count in
    l.invariant ∙ rw (one_left l.count (omega arith)) (onward_tried _ _ _ _ _ (sym c.in_ok-next.ensures ∙ ap value c.in-Some.is))

pub returns-in-None : goal.returns-in-None
returns-in-None c =
    let l = c.loop-count in
    sym (l.invariant ∙ rw (one_left l.count (omega arith)) (onward_ended _ _ _ _ (sym c.in_ok-next.ensures ∙ ap value c.in-None.is)))

pub returns-in_err-next : goal.returns-in_err-next
returns-in_err-next c =
    let l = c.loop-count in
    let e = err_from_is_err_and c.from_residual.result c.from_residual.ensures.1 in
    rw (e.1, e.2) (sym (l.invariant ∙ rw (one_left l.count (omega arith)) (onward_lost _ _ _ _ _ (sym c.in_err-next.ensures))))

pub returns : goal.returns
returns c =
    let l = c.loop-count in
    let end : l.count ≡ max_iter = omega arith in
    let none : max_iter - l.count ≡ 0 = omega arith in
    rw (sym end) (sym (l.invariant ∙ rw none (onward_none _ _ _)))
