-- `backward_equations::worked_by`: each arm's proof has the shape of its equation.
use Rattle.algo.proofs.Step.{raw_sum_of}
use Rattle.common.proofs.Formulas.{raw_first, raw_plus, raw_less, raw_scale, raw_under, named}
use mathlib.Core.Path.{sym}
use lib.Ieee.{binary64, div}
use Rattle.backward_equations.specs.Equation.{worked_by}
use Rattle.backward_equations.proofs.pattern.worked_by.Goals as goal

pub returns-in-Plus : goal.returns-in-Plus
unfolding worked_by
returns-in-Plus c =
    rw c.in-Plus.is (sym (raw_scale _
    (named c.sum.ensures (raw_sum_of _ (raw_plus _ (raw_first (div binary64) _ _)) (raw_less _ (raw_first (div binary64) _ _))))).is)

pub returns-in-Less : goal.returns-in-Less
unfolding worked_by
returns-in-Less c =
    rw c.in-Less.is (sym (raw_scale _
    (named c.sum-in-Less.ensures (raw_sum_of _ (raw_less _ (raw_first (div binary64) _ _)) (raw_less _ (raw_first (div binary64) _ _))))).is)

pub returns-in-Over : goal.returns-in-Over
unfolding worked_by
returns-in-Over c =
    rw c.in-Over.is (sym (named c.over.ensures (raw_under _
    (named c.sum-in-Over.ensures (raw_sum_of _ (raw_less _ (raw_first (div binary64) _ _)) (raw_less _ (raw_first (div binary64) _ _)))))).is)
