-- Two tags are a pair or 14, and the tags of a pair rise from 1 to 5. Assumes nothing.
use mathlib.Core.Path.{◌≡◌, refl}
use mathlib.Core.Bool.{Bool, true, false, ◌&&◌, cond}
use mathlib.Core.Logic.{◌⊎◌, inl, inr}
use mathlib.Core.List.{List, [], ◌∷◌}
use Prim.Native.Nat.{ℕ, ◌<◌, ◌≤◌}
use native.Mathlib.Omega.{arith}
use borrow.Author.Rules.{rules}
use lib.Dec.{eqb}
use borrow.Author.Tests.{eqb-true}
use Rattle.common.specs.Outcome.{Outcome, value, refused}
use Rattle.exchange_record.specs.declared.Pair.{Pair}
use Rattle.exchange_record.specs.Grammar.{Tagged, tagged, pairs, pair_in, pair_of}
use Rattle.exchange_record.specs.Walk.{asked_by}

pub no_asked : (x a y b : ℕ) → pair_of x y ≡ refused 14 → asked_by x a y b ≡ refused 14
unfolding asked_by
no_asked x a y b e = rw e

-- two tags are a pair or 14
in_rows : (rs : List Tagged) (x y : ℕ) → ((p : Pair) × (pair_in rs x y ≡ value p)) ⊎ (pair_in rs x y ≡ refused 14)
in_rows [] x y = inr refl
in_rows (tagged i j p ∷ rs) x y = go (eqb x i && eqb y j) (in_rows rs x y)
  where
    go : (t : Bool) → ((q : Pair) × (pair_in rs x y ≡ value q)) ⊎ (pair_in rs x y ≡ refused 14)
        → ((q : Pair) × (cond t (value p) (pair_in rs x y) ≡ value q)) ⊎ (cond t (value p) (pair_in rs x y) ≡ refused 14)
    go true r = inl (p, refl)
    go false r = r

pub paired_or_not : (x y : ℕ) → ((p : Pair) × (pair_of x y ≡ value p)) ⊎ (pair_of x y ≡ refused 14)
paired_or_not = in_rows pairs

-- ---- the tags of a pair rise from 1 to 5

Rising : List Tagged → Type 0
Rising [] = Unit
Rising (tagged i j p ∷ rs) = ((1 ≤ i) × (i < j) × (j ≤ 5)) × Rising rs

rising_in : (rs : List Tagged) → Rising rs → (x y : ℕ) (p : Pair) → pair_in rs x y ≡ value p → (1 ≤ x) × (x < y) × (y ≤ 5)
unfolding Rising
rising_in [] r x y p e = absurd (no_pair_of e)
  where
    no_pair_of : ◌≡◌ {A = Outcome Pair} (refused 14) (value p) → ⊥
    no_pair_of e = let z : ◌≡◌ {A = ℕ} 0 1 = cc in omega arith
rising_in (tagged i j q ∷ rs) r x y p e = go (eqb x i) (eqb y j) refl refl (rising_in rs r.1 x y p) e
  where
    go : (b c : Bool) → eqb x i ≡ b → eqb y j ≡ c → (pair_in rs x y ≡ value p → (1 ≤ x) × (x < y) × (y ≤ 5))
        → cond (b && c) (value q) (pair_in rs x y) ≡ value p → (1 ≤ x) × (x < y) × (y ≤ 5)
    go true true f g later h =
        let ex : x ≡ i = eqb-true x i f in
        let ey : y ≡ j = eqb-true y j g in
        let k = r.0 in
        (omega arith, omega arith, omega arith)
    go true false f g later h = later h
    go false c f g later h = later h

all_rising : Rising pairs
unfolding Rising
all_rising = search rules

pub rising : (x y : ℕ) (p : Pair) → pair_of x y ≡ value p → (1 ≤ x) × (x < y) × (y ≤ 5)
rising = rising_in pairs all_rising
