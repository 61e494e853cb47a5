-- What crates promise each other of a printed table's sum; no public call's answer speaks of it. Assumes nothing: these are definitions.
use Rattle.std.specs.Prelude.{ℕ, ◌≡◌, List, ℤ, replicate, map, Float}
use Rattle.common.specs.Outcome.{Outcome, or_nan, zero_f}
use Rattle.common.specs.Sum.{raw_total}
use Rattle.algo.specs.Table.{Row, row}
use Rattle.algo.specs.Raw.{tabled_term}
use Rattle.algo.specs.declared.Order.TheVariants.{Zero}

-- the rows of a table that is written I, J, n
abbrev pub rows_in : List (ℤ × ℤ × Float) → List Row
rows_in = map (λ r. row r.0 r.1 r.2)

-- r is the sum of the rows, ended, by the powers of vi from -di to ui and of vj from -dj to uj that are worked into tables of zeros
pub record SummedBy (Worked : Float → List Float → List Float → ℕ → ℕ → Type 0) (end : Float → Outcome Float)
    (vi : Float) (ui di : ℕ) (vj : Float) (uj dj : ℕ) (rs : List Row) (r : Float) : Type 0 where
  pub wi : List Float
  pub wj : List Float
  pub worked_i : Worked vi (replicate 129 zero_f) wi ui di
  pub worked_j : Worked vj (replicate 129 zero_f) wj uj dj
  pub is : r ≡ or_nan (end (raw_total (tabled_term Zero Zero wi wj) zero_f rs))
