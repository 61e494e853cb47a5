-- The powers that are worked for a table's columns cover its rows. In order: the most of a column, an exponent whose power is differentiated, a column, the
-- rows, and the highest and the lowest exponent of a column. Assumes nothing.
use mathlib.Core.Path.{◌≡◌, refl, sym, ap, ◌∙◌}
use mathlib.Core.Bool.{Bool, true, false, cond, ◌&&◌}
use mathlib.Core.List.{List, [], ◌∷◌}
use Prim.Native.Nat.{ℕ, zero, suc, ◌+◌, ◌-◌, ◌<◌, ◌≤◌}
use native.Mathlib.Omega.{arith}
use lib.Dec.{T, ltb, leb, leb→le, le→leb, lt→ltb}
use lib.IntN.{ℤ, pos, negsuc, neg_ℤ, nat_abs, ◌-ℤ◌}
use lib.Ieee.{Float}
use borrow.Author.Tests.{ltb-true, ltb-false, lt-ltb, le-ltb}
use Rattle.std.specs.List.{fold}
use Rattle.std.specs.Int.{int_max, int_min}
use Rattle.common.specs.Sum.{every}
use Rattle.common.proofs.Sums.{both_left, both_right}
use Rattle.powers.specs.Reach.{spans}
use Rattle.algo.specs.Table.{Row, row, rows_of, left}
use Rattle.algo.specs.Raw.{covers}
use Rattle.algo.specs.declared.Order.{Order}
use Rattle.algo.specs.declared.Order.TheVariants.{Zero, One, Two}
use Rattle.column_sums.specs.Farthest.{steps, up_of, down_of, most, farthest, ups, downs}

both_make : (a b : Bool) → T a → T b → T (a && b)
both_make true b t u = u
both_make false b t u = absurd t

neg_abs : (n : ℕ) → nat_abs (neg_ℤ (pos n)) ≡ n
neg_abs zero = refl
neg_abs (suc n) = refl

-- ---- the most of a column

record Most (a b m : ℕ) : Type 0 where
  left : a ≤ m
  right : b ≤ m
  least : (n : ℕ) → a ≤ n → b ≤ n → m ≤ n

most_says : (a b : ℕ) → Most a b (most a b)
most_says a b = by (ltb a b) refl
  where
    by : (t : Bool) → ltb a b ≡ t → Most a b (most a b)
    by true e = let l : a < b = ltb-true a b e in rw e record { left = omega arith; right = omega arith; least = λ n p q. q }
    by false e = let l : b ≤ a = ltb-false a b e in rw e record { left = omega arith; right = omega arith; least = λ n p q. p }

module _ (f : ℤ → ℕ) where
  above : (u : ℕ) (ks : List ℤ) → u ≤ farthest f u ks
  unfolding farthest
  above u [] = omega arith
  above u (k ∷ ks) = let m = most_says u (f k) in omega (arith, above (most u (f k)) ks, m.left)

  each : (u : ℕ) (ks : List ℤ) → T (every (λ k. leb (f k) (farthest f u ks)) ks)
  unfolding farthest every
  each u [] = tt
  each u (k ∷ ks) =
      let m = most_says u (f k) in
      both_make (leb (f k) (farthest f (most u (f k)) ks)) (every (λ k'. leb (f k') (farthest f (most u (f k)) ks)) ks)
      (le→leb (f k) (farthest f (most u (f k)) ks) (omega (arith, above (most u (f k)) ks, m.right)))
      (each (most u (f k)) ks)

-- ---- an exponent whose power is differentiated

-- y is z less s
record Moved (s : ℕ) (z y : ℤ) : Type 0 where
  up : up_of y ≡ up_of z - s
  down : down_of y ≤ down_of z + s

moved_by : (c : ℕ) → c ≤ 1 → (z : ℤ) → Moved (suc c) z (z -ℤ pos (suc c))
moved_by c l (pos a) = by (ltb a (suc c)) refl
  where
    by : (b : Bool) → ltb a (suc c) ≡ b → Moved (suc c) (pos a) (pos a -ℤ pos (suc c))
    by true e = let m : a < suc c = ltb-true a (suc c) e in rw e record { up = omega arith; down = omega arith }
    by false e = let m : suc c ≤ a = ltb-false a (suc c) e in rw e record { up = omega arith; down = omega arith }
moved_by c l (negsuc a) = record { up = omega arith; down = omega arith }

moved : (d : Order) (z : ℤ) → Moved (steps d) z (left d z)
moved Zero (pos a) = record { up = omega arith; down = omega arith }
moved Zero (negsuc a) = record { up = omega arith; down = omega arith }
moved One z = moved_by 0 (omega arith) z
moved Two z = moved_by 1 (omega arith) z

spans_of : (u d : ℕ) (z : ℤ) → up_of z ≤ u → down_of z ≤ d → T (spans u d z)
spans_of u d (pos k) p q = le→leb k u p
spans_of u d (negsuc k) p q = lt→ltb k d q

-- ---- a column

every_two : (f g h : ℤ → Bool) → ((k : ℤ) → T (f k) → T (g k) → T (h k)) → (ks : List ℤ) → T (every f ks) → T (every g ks) → T (every h ks)
unfolding every
every_two f g h e [] s t = tt
every_two f g h e (k ∷ ks) s t =
    both_make (h k) (every h ks) (e k (both_left (f k) (every f ks) s) (both_left (g k) (every g ks) t))
    (every_two f g h e ks (both_right (f k) (every f ks) s) (both_right (g k) (every g ks) t))

column_spans : (d : Order) (ks : List ℤ) → T (every (λ k. spans (ups d ks) (downs d ks) (left d k)) ks)
column_spans d ks =
    every_two (λ k. leb (up_of k) (farthest up_of 0 ks)) (λ k. leb (down_of k) (farthest down_of 0 ks)) (λ k. spans (ups d ks) (downs d ks) (left d k))
    (λ k s t.
    let m = moved d k in
    let p = leb→le (up_of k) (farthest up_of 0 ks) s in
    let q = leb→le (down_of k) (farthest down_of 0 ks) t in
    spans_of (ups d ks) (downs d ks) (left d k) (omega (arith, m.up)) (omega (arith, m.down)))
    ks (each up_of 0 ks) (each down_of 0 ks)

-- ---- the rows

module _ (f : Row → Bool) (p q : ℤ → Bool) where
  rows_each : ((i j : ℤ) (n : Float) → T (p i) → T (q j) → T (f (row i j n))) → (is js : List ℤ) (ns : List Float) → T (every p is) → T (every q js) → T (every f (rows_of is js ns))
  unfolding every rows_of
  rows_each h [] js ns s t = tt
  rows_each h (i ∷ is) [] ns s t = tt
  rows_each h (i ∷ is) (j ∷ js) [] s t = tt
  rows_each h (i ∷ is) (j ∷ js) (n ∷ ns) s t =
      both_make (f (row i j n)) (every f (rows_of is js ns)) (h i j n (both_left (p i) (every p is) s) (both_left (q j) (every q js) t))
      (rows_each h is js ns (both_right (p i) (every p is) s) (both_right (q j) (every q js) t))

-- the rows go no further than their columns
pub covered : (a b : Order) (is js : List ℤ) (ns : List Float) → T (every (covers a b (ups a is) (downs a is) (ups b js) (downs b js)) (rows_of is js ns))
covered a b is js ns =
    rows_each (covers a b (ups a is) (downs a is) (ups b js) (downs b js)) (λ i. spans (ups a is) (downs a is) (left a i)) (λ j. spans (ups b js) (downs b js) (left b j))
    (λ i j n s t. both_make (spans (ups a is) (downs a is) (left a i)) (spans (ups b js) (downs b js) (left b j)) s t)
    is js ns (column_spans a is) (column_spans b js)

-- ---- the highest and the lowest exponent of a column, by 0

most_zero : (u : ℕ) → most u 0 ≡ u
most_zero u = rw (le-ltb u 0 (omega arith))

-- of two counts it does not matter which is taken where they are one
most_by : (u k : ℕ) → cond (ltb k u) u k ≡ most u k
most_by u k = by (ltb k u) (ltb u k) refl refl
  where
    by : (s t : Bool) → ltb k u ≡ s → ltb u k ≡ t → cond (ltb k u) u k ≡ most u k
    by true t e f = let l : k < u = ltb-true k u e in rw (e, le-ltb u k (omega arith))
    by false true e f = rw (e, f)
    by false false e f =
        let l : u ≤ k = ltb-false k u e in
        let m : k ≤ u = ltb-false u k f in
        let same : u ≡ k = omega arith in
        rw (e, f, same)

higher : (u : ℕ) (z : ℤ) → int_max (pos u) z ≡ pos (most u (up_of z))
higher u (pos k) = cases_of (ltb k u) u k ∙ ap pos (most_by u k)
  where
    cases_of : (b : Bool) (u k : ℕ) → cond b (pos u) (pos k) ≡ pos (cond b u k)
    cases_of true u k = refl
    cases_of false u k = refl
higher u (negsuc k) = ap pos (sym (most_zero u))

lower : (d : ℕ) (z : ℤ) → int_min (neg_ℤ (pos d)) z ≡ neg_ℤ (pos (most d (down_of z)))
lower zero (pos k) = rw (le-ltb k 0 (omega arith))
lower zero (negsuc k) = rw (lt-ltb 0 (suc k) (omega arith))
lower (suc d) (pos k) = ap (λ (n : ℕ). neg_ℤ (pos n)) (sym (most_zero (suc d)))
lower (suc d) (negsuc k) = by (ltb d k) refl
  where
    by : (b : Bool) → ltb d k ≡ b → cond (ltb d k) (negsuc k) (negsuc d) ≡ neg_ℤ (pos (most (suc d) (suc k)))
    by true e = let l : d < k = ltb-true d k e in rw (e, lt-ltb (suc d) (suc k) (omega arith))
    by false e = let l : k ≤ d = ltb-false d k e in rw (e, le-ltb (suc d) (suc k) (omega arith))

top_is : (u : ℕ) (ks : List ℤ) → fold int_max (pos u) ks ≡ pos (farthest up_of u ks)
unfolding farthest
top_is u [] = refl
top_is u (k ∷ ks) = ap (λ (z : ℤ). fold int_max z ks) (higher u k) ∙ top_is (most u (up_of k)) ks

low_is : (d : ℕ) (ks : List ℤ) → fold int_min (neg_ℤ (pos d)) ks ≡ neg_ℤ (pos (farthest down_of d ks))
unfolding farthest
low_is d [] = refl
low_is d (k ∷ ks) = ap (λ (z : ℤ). fold int_min z ks) (lower d k) ∙ low_is (most d (down_of k)) ks

pub up_from_top : (ks : List ℤ) (z : ℤ) → z ≡ fold int_max (pos 0) ks → nat_abs z ≡ farthest up_of 0 ks
up_from_top ks z e = ap nat_abs (e ∙ top_is 0 ks)

pub down_from_low : (ks : List ℤ) (z : ℤ) → z ≡ fold int_min (pos 0) ks → nat_abs z ≡ farthest down_of 0 ks
down_from_low ks z e = ap nat_abs (e ∙ low_is 0 ks) ∙ neg_abs (farthest down_of 0 ks)
