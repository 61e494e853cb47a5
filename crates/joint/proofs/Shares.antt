-- What a turn of a loop adds to one of its sums, and what the sum is at the end: for any share, so that a loop over several says it once for each.
-- Assumes nothing.
use mathlib.Core.Path.{◌≡◌, ◌∙◌}
use mathlib.Core.List.{List, [], ◌∷◌, ◌++◌}
use Prim.Native.Nat.{◌<◌}
use lib.IntN.{ℤ}
use lib.ListN.{length, get_or}
use lib.Ieee.{Float, binary64, add}
use Rattle.algo.specs.Table.{rows_of}
use Rattle.algo.specs.Raw.{tabled_factor, raw_weigh, tabled_share, SharesSummed}
use Rattle.algo.specs.declared.Order.{Order}
use Rattle.algo.specs.declared.Order.TheVariants.{Zero}
use Rattle.algo.specs.declared.Share.{Share}
use Rattle.slopes.proofs.Zipped.{Lent, entry, beside, LeftAfter, one_more, none_left}

module _ (a : Order) (wi wj : List Float) (is js : List ℤ) (ns : List Float) where
  -- what is left of the rows after those that were lent, added to the sum so far, is the whole sum
  abbrev pub ShareLeft : Share → List Lent → Float → Type 0
  ShareLeft s xs x = LeftAfter (tabled_share a s wi wj) is js ns xs x

  -- i and j are the exponents of a row, as the code reads them, and the item is worked from them
  pub record Item (x : Lent) (i j : ℤ) (item : Float) : Type 0 where
    pub i_is : i ≡ x.0.0.now
    pub j_is : j ≡ x.0.1.now
    pub by_i : Float
    pub by_i_is : by_i ≡ tabled_factor a wi i x.1.now
    pub item_is : item ≡ tabled_factor Zero wj j by_i

  module _ (xs : List Lent) where
    pub added : (x : Lent)
        → (length xs < length (beside is js ns)) × (entry x ≡ get_or (beside is js ns) (length xs) (entry x))
        → {i j : ℤ} {item : Float} → Item x i j item → (s : Share) (y w : Float) → w ≡ raw_weigh s i j item → ShareLeft s xs y → ShareLeft s (xs ++ x ∷ []) (add binary64 y w)
    added x h t s y w p e = one_more (tabled_share a s wi wj) is js ns xs x y w h (p ∙ rw (t.item_is, t.by_i_is, t.i_is, t.j_is)) e

    pub ended : length xs ≡ length (beside is js ns) → (s : Share) (x : Float) → ShareLeft s xs x → SharesSummed a s wi wj (rows_of is js ns) x
    ended h s x e = record { is = none_left (tabled_share a s wi wj) is js ns xs x h e }
