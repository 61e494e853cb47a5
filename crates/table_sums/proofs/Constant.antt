-- The sum of a printed table: what `bare_sum` gives at usual bases, and what `rule_sum` gives. Assumes nothing.
use Prim.Native.Nat.{ℕ}
use mathlib.Core.Path.{◌≡◌, refl, sym, ap, ◌∙◌}
use mathlib.Core.Bool.{true}
use mathlib.Core.List.{List}
use lib.Ieee.{Float}
use Rattle.common.specs.Outcome.{finite, check, or_nan, zero_f}
use Rattle.common.specs.Sum.{every, raw_total}
use Rattle.common.proofs.Laws.{check_kept}
use Rattle.sizes.specs.Usual.{usual_base}
use Rattle.rules.proofs.Usual.{usual_finite}
use Rattle.powers.specs.Powers.{BarePowers, Powers}
use Rattle.powers.proofs.Looked.{bare_hold, powers_hold}
use Rattle.algo.specs.Table.{Row, term, sum_rule}
use Rattle.algo.specs.Raw.{gate, tabled_term, covers}
use Rattle.table_sums.specs.ByPowers.{SummedBy}
use Rattle.algo.specs.declared.Order.TheVariants.{Zero}
use Rattle.algo.proofs.Sums.{slope_ends}

-- at finite bases the sum alone decides
open_gate : (vi vj x : Float) → finite vi ≡ true → finite vj ≡ true → gate vi vj x ≡ check x
open_gate vi vj x f g = rw (check_kept vi f, check_kept vj g)

-- where the rows go no further than the powers
module _ {vi vj : Float} {ui di uj dj : ℕ} {rows : List Row} {z : Float} where
  pub bare_ends : usual_base vi ≡ true → usual_base vj ≡ true → SummedBy BarePowers check vi ui di vj uj dj rows z →
      every (covers Zero Zero ui di uj dj) rows ≡ true → z ≡ or_nan (sum_rule term vi vj rows)
  bare_ends i j s c =
      slope_ends vi vj s.wi s.wj ui di uj dj (bare_hold vi _ _ ui di i s.worked_i) (bare_hold vj _ _ uj dj j s.worked_j)
      {a = Zero} {b = Zero} {rs = rows} (rw c tt) (record { is = refl })
      (s.is ∙ ap or_nan (sym (open_gate vi vj (raw_total (tabled_term Zero Zero s.wi s.wj) zero_f rows) (usual_finite vi i) (usual_finite vj j))))

  pub rule_ends : SummedBy Powers (gate vi vj) vi ui di vj uj dj rows z → every (covers Zero Zero ui di uj dj) rows ≡ true → z ≡ or_nan (sum_rule term vi vj rows)
  rule_ends s c =
      slope_ends vi vj s.wi s.wj ui di uj dj (powers_hold vi _ _ ui di s.worked_i) (powers_hold vj _ _ uj dj s.worked_j)
      {a = Zero} {b = Zero} {rs = rows} (rw c tt) (record { is = refl }) s.is
