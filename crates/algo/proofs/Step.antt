-- A table's sum as a step of a formula that is worked with no check. Assumes nothing.
use mathlib.Core.Path.{◌≡◌, refl, sym, ◌∙◌}
use mathlib.Core.Bool.{true}
use mathlib.Core.List.{List}
use lib.Ieee.{Float}
use Rattle.common.specs.Outcome.{Outcome, refused, finite, check, then, or_nan}
use Rattle.common.specs.Formula.{Raw}
use Rattle.common.proofs.Laws.{Lost, next, check_lost, check_kept}
use Rattle.algo.specs.Table.{Row, term, sum_rule, sum_of}
use Rattle.algo.proofs.Settled.{sum_settled}

sum_lost : (vi vj : Float) (rs : List Row) → Lost vi → sum_rule term vi vj rs ≡ refused 5
unfolding sum_rule
sum_lost vi vj rs l = rw (check_lost vi l)

sum_lost_2 : (vi vj : Float) (rs : List Row) → finite vi ≡ true → Lost vj → sum_rule term vi vj rs ≡ refused 5
unfolding sum_rule
sum_lost_2 vi vj rs f l = rw (check_kept vi f, check_lost vj l)

module _ {o q : Outcome Float} {r s : Float} where
  pub raw_sum_of : (rs : List Row) → Raw o r → Raw q s → Raw (sum_of o q rs) (or_nan (sum_rule term r s rs))
  raw_sum_of rs p t = record { is = rw (p.is, t.is) (inner ∙ sym (sum_settled r s rs)) }
    where
      inner : then (check r) (λ vi. then (check s) (λ vj. sum_rule term vi vj rs)) ≡ sum_rule term r s rs
      inner = next r _ _ (λ f. next s _ _ (λ _. refl) (λ l. sum_lost_2 r s rs f l)) (λ l. sum_lost r s rs l)
