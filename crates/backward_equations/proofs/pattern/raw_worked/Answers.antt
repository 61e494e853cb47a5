-- `backward_equations::raw_worked`: the equation with its numbers, then its steps, tested once at the end.
use mathlib.Core.Path.{sym}
use Rattle.common.proofs.Numbers.{tested}
use Rattle.backward_equations.specs.Equation.{worked}
use Rattle.backward_equations.proofs.pattern.raw_worked.Goals as goal

pub returns : goal.returns
unfolding worked
returns c = tested {x = c.worked_by.result} (record { is = rw (← c.form.ensures) (sym c.worked_by.ensures) }) c.finite_or_nan.ensures
