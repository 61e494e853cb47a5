-- To believe: a rule over a table that is lent by its columns, and two and four sums of one item.
-- Assumes nothing: these are definitions.
use Rattle.std.specs.Prelude.{cond, List, eqb, ℤ, length, Float}
use Rattle.common.specs.Outcome.{Outcome, value, refused, then}
use Rattle.algo.specs.Table.{Row, rows_of, sum_rule}
use Rattle.algo.specs.Joint.{share_rule}
use Rattle.algo.specs.declared.Order.{Order}
use Rattle.algo.specs.declared.Order.TheVariants.{Zero}
use Rattle.algo.specs.declared.Share.{Share}
use Rattle.algo.specs.declared.Share.TheVariants.{I, Ii, Ij, Jj}
use Rattle.joint.specs.declared.Pair.{Pair}
use Rattle.joint.specs.declared.Four.{Four}

-- 7 for columns of unequal length
abbrev pub by_columns : {A : Type 0} → (List Row → Outcome A) → List ℤ → List ℤ → List Float → Outcome A
by_columns f is js ns = cond (eqb (length is) (length ns)) (cond (eqb (length js) (length ns)) (f (rows_of is js ns)) (refused 7)) (refused 7)

-- the test of the lengths by itself
abbrev pub one_length : List ℤ → List ℤ → List Float → Outcome Unit
one_length = by_columns (λ _. value tt)

unfoldable pub table_rule : (Float → Float → Row → Outcome Float) → Float → Float → List ℤ → List ℤ → List Float → Outcome Float
table_rule t vi vj = by_columns (sum_rule t vi vj)

-- ---- two and four sums of one item

abbrev pub pair_of : Outcome Float → Outcome Float → Outcome Pair
pair_of o p = then o (λ x. then p (λ y. value record { first = x; second = y }))

abbrev pub four_of : Outcome Float → Outcome Float → Outcome Float → Outcome Float → Outcome Four
four_of o p q r = then o (λ x. then p (λ y. then q (λ z. then r (λ w. value record { i = x; ii = y; ij = z; jj = w }))))

unfoldable pub pair_table : Order → Share → Share → Float → Float → List ℤ → List ℤ → List Float → Outcome Pair
pair_table a s t vi vj = by_columns (λ rs. pair_of (share_rule a s vi vj rs) (share_rule a t vi vj rs))

unfoldable pub four_table : Float → Float → List ℤ → List ℤ → List Float → Outcome Four
four_table vi vj =
    by_columns (λ rs. four_of (share_rule Zero I vi vj rs) (share_rule Zero Ii vi vj rs) (share_rule Zero Ij vi vj rs) (share_rule Zero Jj vi vj rs))
