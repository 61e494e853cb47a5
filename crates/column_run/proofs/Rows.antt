-- A column that is written row by row, each row from its own pair, is the list that `rows_by` gives.
use mathlib.Core.Path.{◌≡◌, refl, sym, ap, ◌∙◌}
use mathlib.Core.Bool.{Bool, true, false, ◌&&◌}
use mathlib.Core.List.{List, [], ◌∷◌}
use Prim.Native.Nat.{ℕ, zero, suc, ◌+◌, ◌<◌, ◌≤◌}
use native.Mathlib.Nat.{not-suc-le-zero, le_of_suc-le-suc, ne_of_lt}
use native.Mathlib.Omega.{arith}
use lib.ListN.{length, get_or, set, length-set}
use lib.Seq.{ext_get_or, get_or-set_same, get_or-set_other}
use lib.Ieee.{Float, nan}
use borrow.Author.Tests.{eqb-true}
use borrow.Author.Count.{below_more, below_none}
use Rattle.column_run.specs.Columns.{same, rows_by}

module _ {A : Type 0} (f : Float → Float → A) (d : A) where
  rows_length : (ps ts : List Float) → length ts ≡ length ps → length (rows_by f ps ts) ≡ length ps
  unfolding rows_by
  rows_length [] ts e = refl
  rows_length (p ∷ ps) [] e = e
  rows_length (p ∷ ps) (t ∷ ts) e = ap suc (rows_length ps ts (omega arith))

  rows_at : (ps ts : List Float) (k : ℕ) → k < length ps → k < length ts → get_or (rows_by f ps ts) k d ≡ f (get_or ps k nan) (get_or ts k nan)
  unfolding rows_by
  rows_at [] ts k hp ht = absurd (not-suc-le-zero hp)
  rows_at (p ∷ ps) [] k hp ht = absurd (not-suc-le-zero ht)
  rows_at (p ∷ ps) (t ∷ ts) zero hp ht = refl
  rows_at (p ∷ ps) (t ∷ ts) (suc k) hp ht = rows_at ps ts k (le_of_suc-le-suc hp) (le_of_suc-le-suc ht)

  -- the first k rows are written
  pub record Filled (ps ts : List Float) (k : ℕ) (xs : List A) : Type 0 where
    pub long : length xs ≡ length ps
    pub each : (i : ℕ) → i < k → get_or xs i d ≡ f (get_or ps i nan) (get_or ts i nan)

  module _ (ps ts : List Float) where
    pub filled_none : (xs : List A) → length xs ≡ length ps → Filled ps ts 0 xs
    filled_none xs e = record { long = e; each = below_none (λ i. get_or xs i d ≡ f (get_or ps i nan) (get_or ts i nan)) }

    pub filled_more : (k : ℕ) (xs : List A) (v : A) → k < length ps → Filled ps ts k xs
        → v ≡ f (get_or ps k nan) (get_or ts k nan) → Filled ps ts (k + 1) (set xs k v)
    filled_more k xs v h w e =
        let g : k < length xs = let l = w.long in omega arith in
        record {
          long = length-set xs k v ∙ w.long;
          each = below_more (λ i. get_or (set xs k v) i d ≡ f (get_or ps i nan) (get_or ts i nan)) k
              (λ i l. get_or-set_other xs k i v d (ne_of_lt l) ∙ w.each i l)
              (get_or-set_same xs k v d g ∙ e);
        }

    pub filled_all : (k : ℕ) (xs : List A) → length ts ≡ length ps → length ps ≤ k → Filled ps ts k xs → xs ≡ rows_by f ps ts
    filled_all k xs e h w =
        ext_get_or d xs (rows_by f ps ts) (w.long ∙ sym (rows_length ps ts e))
        (λ i l. let lp : i < length ps = let q = w.long in omega arith in w.each i (omega arith) ∙ sym (rows_at ps ts i lp (omega arith)))

  -- the rows from k on hold what an earlier turn left
  pub record Left (ps ts : List Float) (k : ℕ) (xs : List A) : Type 0 where
    pub each : (i : ℕ) → k ≤ i → i < length ps → get_or xs i d ≡ f (get_or ps i nan) (get_or ts i nan)

  module _ (ps ts : List Float) where
    pub left_all : (xs : List A) → length ts ≡ length ps → xs ≡ rows_by f ps ts → Left ps ts 0 xs
    left_all xs e h = record { each = λ i _ l. rw h (rows_at ps ts i l (omega arith)) }

    pub left_less : (k : ℕ) (xs : List A) (v : A) → Left ps ts k xs → Left ps ts (k + 1) (set xs k v)
    left_less k xs v w =
        record { each = λ i h l. get_or-set_other xs k i v d (λ q. let z : ◌≡◌ {A = ℕ} i k = q in absurd (omega arith)) ∙ w.each i (omega arith) l }

  pub rows_long : (ps ts : List Float) (xs : List A) → length ts ≡ length ps → xs ≡ rows_by f ps ts → length xs ≡ length ps
  rows_long ps ts xs e h = ap length h ∙ rows_length ps ts e

-- ---- the lengths

both_true : (a b : Bool) → (a && b) ≡ true → (a ≡ true) × (b ≡ true)
both_true true b e = (refl, e)
both_true false b e = (e, cc)

pub same_all : (n a b c d : ℕ) → same n a b c d ≡ true → (a ≡ n) × (b ≡ n) × (c ≡ n) × (d ≡ n)
same_all n a b c d e =
    let x = both_true _ _ e in
    let y = both_true _ _ x.1 in
    let z = both_true _ _ y.1 in
    (eqb-true a n x.0, eqb-true b n y.0, eqb-true c n z.0, eqb-true d n z.1)
