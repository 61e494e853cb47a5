-- A loop over the rows works them one by one. Assumes nothing.
use mathlib.Core.Path.{◌≡◌, refl}
use mathlib.Core.List.{List, [], ◌∷◌, ◌++◌}
use native.Mathlib.Omega.{arith}
use Prim.Native.Nat.{ℕ, ◌+◌, ◌<◌, ◌≤◌}
use native.Mathlib.Numerals.{add-one}
use lib.IntN.{ℤ, pos}
use lib.ListN.{length, get_or, drop, drop_of_length-le}
use lib.Seq.{drop-cons}
use lib.Ieee.{Float, nan, binary64, add}
use Rattle.common.specs.Sum.{raw_total}
use Rattle.algo.specs.Table.{Row, row}
use Rattle.table_sums.specs.ByPowers.{rows_in}

module _ (u : Row → Float) (s : Float) (rs : List (ℤ × ℤ × Float)) (k : ℕ) where
  abbrev pub row_at : Row
  row_at = let r = get_or rs k (pos 0, pos 0, nan) in row r.0 r.1 r.2

  pub one_more : k < length rs → raw_total u s (rows_in (drop k rs)) ≡ raw_total u (add binary64 s (u row_at)) (rows_in (drop (k + 1) rs))
  unfolding raw_total
  one_more h = rw (add-one, drop-cons rs k (pos 0, pos 0, nan) h)

  pub none_left : length rs ≤ k → raw_total u s (rows_in (drop k rs)) ≡ s
  unfolding raw_total
  none_left h = rw (drop_of_length-le rs {i = k} h)

-- the rows of one list, then those of another
pub parts_added : (u : Row → Float) (s : Float) (xs ys : List (ℤ × ℤ × Float)) →
    raw_total u s (rows_in (xs ++ ys)) ≡ raw_total u (raw_total u s (rows_in xs)) (rows_in ys)
unfolding raw_total
parts_added u s [] ys = refl
parts_added u s (r ∷ xs) ys = parts_added u (add binary64 s (u (row r.0 r.1 r.2))) xs ys

-- none are left in an empty list
pub none_in : (u : Row → Float) (s : Float) (rs : List (ℤ × ℤ × Float)) → length rs ≡ 0 → raw_total u s (rows_in rs) ≡ s
none_in u s rs h = none_left u s rs 0 (omega arith)
