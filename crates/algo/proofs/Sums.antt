-- A sum of a table with a check at each step is the raw sum by two tables of powers, checked once, whatever its terms are: a lost number stays lost up to
-- the end. In order: a term, an item's part in a joint sum, the division at the end, a sum. Assumes nothing.
use Rattle.common.specs.Formula.{raw_over}
use Prim.Native.Nat.{ℕ, suc, ◌-◌}
use native.Mathlib.Omega.{arith}
use mathlib.Core.Path.{◌≡◌, refl, sym, ap, ◌∙◌}
use mathlib.Core.Bool.{Bool, true, false}
use mathlib.Core.List.{List}
use lib.Dec.{T, ltb, leb}
use lib.IntN.{ℤ, pos, negsuc, nat_abs, ◌-ℤ◌, ◌*ℤ◌}
use lib.Ieee.{Float, nan, inf, fin, binary64, mul, of_int}
use borrow.Author.Tests.{ltb-true, ltb-false, leb-false, lt-leb}
use Rattle.common.specs.Outcome.{Outcome, refused, finite, check, then, inside, or_nan, zero_f}
use Rattle.common.specs.Sum.{total, raw_total, every}
use Rattle.common.proofs.Laws.{Lost, never, mul_left, mul_right, div_left, check_kept, check_lost, step}
use Rattle.common.proofs.Sums.{both_left, both_right, total_check}
use Rattle.rules.specs.Power.{power_rule}
use Rattle.powers.specs.Powers.{looked_up}
use Rattle.powers.specs.Reach.{spans}
use Rattle.powers.proofs.Looked.{Holds}
use Rattle.algo.specs.Table.{Row, row, raised, left, factor, differentiated, sum_rule}
use Rattle.algo.specs.Joint.{times_whole, weigh, over, divided, shared, share_rule}
use Rattle.algo.specs.Raw.{fallen_by, raw_fallen, tabled_factor, tabled_term, Summed, raw_whole, raw_weigh, tabled_share, SharesSummed, raw_divided, gate, covers}
use Rattle.algo.specs.declared.Order.{Order}
use Rattle.algo.specs.declared.Order.TheVariants.{Zero, One, Two}
use Rattle.algo.specs.declared.Share.{Share}
use Rattle.algo.specs.declared.Share.TheVariants.{Whole, I, IAgain, J, Ii, Ij, Jj}

-- ---- a term

-- a power that stands in a table
abbrev Stands : Float → List Float → ℤ → Type 0
Stands v w k = inside (power_rule v k) ≡ check (looked_up w k)

raised_check : (v : Float) (w : List Float) (k : ℤ) (x : Float) → Stands v w k → raised v k x ≡ check (mul binary64 x (looked_up w k))
raised_check v w k x h =
    let p = looked_up w k in
    rw h (step p (λ p. check (mul binary64 x p)) (mul binary64 x) (λ _. refl) (mul_right x p))

-- after a step that gives y
after_check : (y v : Float) (w : List Float) (k : ℤ) → Stands v w k → then (check y) (raised v k) ≡ check (mul binary64 y (looked_up w k))
after_check y v w k h = step y (raised v k) (λ y. mul binary64 y (looked_up w k)) (λ _. raised_check v w k y h) (mul_left y (looked_up w k))

-- an exponent that has no place, differentiated twice or not at all
far : (k : ℤ) → leb (nat_abs k) 66 ≡ false → leb (nat_abs (k -ℤ pos 2)) 64 ≡ false
far (pos a) e = by (ltb a 2) refl
  where
    by : (b : Bool) → ltb a 2 ≡ b → leb (nat_abs (pos a -ℤ pos 2)) 64 ≡ false
    by true q = let l = ltb-true a 2 q in let m = leb-false a 66 e in absurd (omega arith)
    by false q = let l = ltb-false a 2 q in let m = leb-false a 66 e in rw q (lt-leb (a - 2) 64 (omega arith))
far (negsuc a) e = let l = leb-false (suc a) 66 e in lt-leb (nat_abs (negsuc a -ℤ pos 2)) 64 (omega arith)

no_power : (w : List Float) (k : ℤ) → leb (nat_abs k) 64 ≡ false → looked_up w k ≡ nan
no_power w k e = rw e

-- a step before a refusal
then_out : (x : Float) (f : Float → Outcome Float) → ((y : Float) → f y ≡ refused 5) → then (check x) f ≡ refused 5
then_out nan f h = refl
then_out (inf s) f h = refl
then_out (fin s m e) f h = h (fin s m e)

twice_check : (b : Bool) (v : Float) (w : List Float) (k : ℤ) (x : Float) → leb (nat_abs k) 66 ≡ b → Stands v w (k -ℤ pos 2) → factor Two v k x ≡ check (tabled_factor Two w k x)
twice_check true v w k x e h = rw e (after_check (mul binary64 x (of_int binary64 (k *ℤ (k -ℤ pos 1)))) v w (k -ℤ pos 2) h)
twice_check false v w k x e h =
    let p = looked_up w (k -ℤ pos 2) in
    let none : p ≡ nan = no_power w (k -ℤ pos 2) (far k e) in
    then_out (mul binary64 x (of_int binary64 (k *ℤ (k -ℤ pos 1)))) (raised v (k -ℤ pos 2)) (λ y. rw (h, none))
    ∙ sym (check_lost (tabled_factor Two w k x) (mul_left (raw_fallen Two k x) p (mul_right x (fallen_by k) (rw e))))

factor_check : (d : Order) (v : Float) (w : List Float) (k : ℤ) (x : Float) → Stands v w (left d k) → factor d v k x ≡ check (tabled_factor d w k x)
factor_check Zero v w k x h = raised_check v w k x h
factor_check One v w k x h = after_check (raw_fallen One k x) v w (k -ℤ pos 1) h
factor_check Two v w k x h = twice_check (leb (nat_abs k) 66) v w k x refl h

fallen_lost : (d : Order) (k : ℤ) (x : Float) → Lost x → Lost (raw_fallen d k x)
fallen_lost Zero k x l = l
fallen_lost One k x l = mul_left x _ l
fallen_lost Two k x l = mul_left x _ l

factor_lost : (d : Order) (w : List Float) (k : ℤ) (x : Float) → Lost x → Lost (tabled_factor d w k x)
factor_lost d w k x l = mul_left (raw_fallen d k x) (looked_up w (left d k)) (fallen_lost d k x l)

term_check : (a b : Order) (vi vj : Float) (wi wj : List Float) (i j : ℤ) (n : Float) → Stands vi wi (left a i) → Stands vj wj (left b j)
    → differentiated a b vi vj (row i j n) ≡ check (tabled_term a b wi wj (row i j n))
term_check a b vi vj wi wj i j n hi hj =
    let x = tabled_factor a wi i n in
    rw (factor_check a vi wi i n hi)
    (step x (factor b vj j) (tabled_factor b wj j) (λ _. factor_check b vj wj j x hj) (factor_lost b wj j x))

-- ---- an item's part in a joint sum

weigh_lost : (s : Share) (i j : ℤ) (x : Float) → Lost x → Lost (raw_weigh s i j x)
weigh_lost Whole i j x l = l
weigh_lost I i j x l = mul_right _ x l
weigh_lost IAgain i j x l = mul_right _ x l
weigh_lost J i j x l = mul_right _ x l
weigh_lost Ii i j x l = mul_right _ (raw_whole i x) (mul_right _ x l)
weigh_lost Ij i j x l = mul_right _ (raw_whole i x) (mul_right _ x l)
weigh_lost Jj i j x l = mul_right _ x l

weigh_check : (s : Share) (i j : ℤ) (x : Float) → leb (nat_abs j) 66 ≡ true → finite x ≡ true → weigh s i j x ≡ check (raw_weigh s i j x)
weigh_check Whole i j x e f = sym (check_kept x f)
weigh_check I i j x e f = refl
weigh_check IAgain i j x e f = refl
weigh_check J i j x e f = refl
weigh_check Ii i j x e f = step (raw_whole i x) (times_whole (i -ℤ pos 1)) (raw_whole (i -ℤ pos 1)) (λ _. refl) (mul_right _ (raw_whole i x))
weigh_check Ij i j x e f = step (raw_whole i x) (times_whole j) (raw_whole j) (λ _. refl) (mul_right _ (raw_whole i x))
weigh_check Jj i j x e f = rw e

-- an item that is not lost has a j that has a place
small : (b : Bool) (y : Float) (w : List Float) (j : ℤ) → leb (nat_abs j) 66 ≡ b → finite (mul binary64 y (looked_up w j)) ≡ true → leb (nat_abs j) 66 ≡ true
small true y w j e f = e
small false y w j e f =
    let l = leb-false (nat_abs j) 66 e in
    let none : looked_up w j ≡ nan = no_power w j (lt-leb (nat_abs j) 64 (omega arith)) in
    never (sym f ∙ mul_right y (looked_up w j) (rw none))

share_check : (a : Order) (s : Share) (vi vj : Float) (wi wj : List Float) (i j : ℤ) (n : Float) → Stands vi wi (left a i) → Stands vj wj j
    → shared a s vi vj (row i j n) ≡ check (tabled_share a s wi wj (row i j n))
share_check a s vi vj wi wj i j n hi hj =
    let x = tabled_term a Zero wi wj (row i j n) in
    rw (term_check a Zero vi vj wi wj i j n hi hj)
    (step x (weigh s i j) (raw_weigh s i j) (λ f. weigh_check s i j x (small (leb (nat_abs j) 66) (tabled_factor a wi i n) wj j refl f) f) (weigh_lost s i j x))

-- ---- the division at the end

over_check : (x d : Float) → over x d ≡ check (raw_over x d)
over_check x nan = refl
over_check x (inf s) = refl
over_check x (fin s m e) = refl

over_lost : (x d : Float) → Lost x → Lost (raw_over x d)
over_lost x nan l = refl
over_lost x (inf s) l = refl
over_lost x (fin s m e) l = div_left x (fin s m e) l

divided_check : (s : Share) (vi vj x : Float) → finite x ≡ true → divided s vi vj x ≡ check (raw_divided s vi vj x)
divided_check Whole vi vj x f = sym (check_kept x f)
divided_check I vi vj x f = over_check x vi
divided_check IAgain vi vj x f = over_check x vi
divided_check J vi vj x f = over_check x vj
divided_check Ii vi vj x f = over_check x (mul binary64 vi vi)
divided_check Ij vi vj x f = over_check x (mul binary64 vi vj)
divided_check Jj vi vj x f = over_check x (mul binary64 vj vj)

divided_lost : (s : Share) (vi vj x : Float) → Lost x → Lost (raw_divided s vi vj x)
divided_lost Whole vi vj x l = l
divided_lost I vi vj x l = over_lost x vi l
divided_lost IAgain vi vj x l = over_lost x vi l
divided_lost J vi vj x l = over_lost x vj l
divided_lost Ii vi vj x l = over_lost x (mul binary64 vi vi) l
divided_lost Ij vi vj x l = over_lost x (mul binary64 vi vj) l
divided_lost Jj vi vj x l = over_lost x (mul binary64 vj vj) l

-- ---- a sum

-- what follows the checks of vi and vj
gated : {A : Type 0} (vi vj : Float) (f : Float → Float → Outcome A) (o : Outcome A) → (finite vi ≡ true → finite vj ≡ true → f vi vj ≡ o)
    → then (check vi) (λ a. then (check vj) (λ b. f a b)) ≡ then (check vi) (λ _. then (check vj) (λ _. o))
gated nan vj f o h = refl
gated (inf s) vj f o h = refl
gated (fin s m e) nan f o h = refl
gated (fin s m e) (inf t) f o h = refl
gated (fin s m e) (fin t n d) f o h = h refl refl

-- a step after the gate
gate_then : (vi vj x : Float) (f : Float → Outcome Float) (g : Float → Float) → (finite x ≡ true → f x ≡ check (g x)) → (Lost x → Lost (g x)) → then (gate vi vj x) f ≡ gate vi vj (g x)
gate_then nan vj x f g ok bad = refl
gate_then (inf s) vj x f g ok bad = refl
gate_then (fin s m e) nan x f g ok bad = refl
gate_then (fin s m e) (inf t) x f g ok bad = refl
gate_then (fin s m e) (fin t n d) x f g ok bad = step x f g ok bad

-- two tables that have the powers of vi and vj so far
module _ (vi vj : Float) (wi wj : List Float) (ui di uj dj : ℕ) (hi : Holds vi wi ui di) (hj : Holds vj wj uj dj) where
  -- whatever the terms are, that are the check of raw ones at the rows that go no further
  sum_raw : (a b : Order) (t : Float → Float → Row → Outcome Float) (u : Row → Float)
      → (finite vi ≡ true → finite vj ≡ true → (r : Row) → T (covers a b ui di uj dj r) → t vi vj r ≡ check (u r))
      → (rs : List Row) → T (every (covers a b ui di uj dj) rs) → sum_rule t vi vj rs ≡ gate vi vj (raw_total u zero_f rs)
  unfolding sum_rule
  sum_raw a b t u e rs h =
      gated vi vj (λ x y. total (t x y) zero_f rs) (check (raw_total u zero_f rs))
      (λ fi fj. total_check (t vi vj) u (covers a b ui di uj dj) (e fi fj) zero_f rs refl h)

  stands_i : (a b : Order) (i j : ℤ) (n : Float) → finite vi ≡ true → T (covers a b ui di uj dj (row i j n)) → Stands vi wi (left a i)
  stands_i a b i j n f t = hi (left a i) f (both_left (spans ui di (left a i)) (spans uj dj (left b j)) t)

  stands_j : (a b : Order) (i j : ℤ) (n : Float) → finite vj ≡ true → T (covers a b ui di uj dj (row i j n)) → Stands vj wj (left b j)
  stands_j a b i j n f t = hj (left b j) f (both_right (spans ui di (left a i)) (spans uj dj (left b j)) t)

  slope_raw : (a b : Order) (rs : List Row) → T (every (covers a b ui di uj dj) rs) → sum_rule (differentiated a b) vi vj rs ≡ gate vi vj (raw_total (tabled_term a b wi wj) zero_f rs)
  slope_raw a b =
      sum_raw a b (differentiated a b) (tabled_term a b wi wj) each
    where
      each : finite vi ≡ true → finite vj ≡ true → (r : Row) → T (covers a b ui di uj dj r) → differentiated a b vi vj r ≡ check (tabled_term a b wi wj r)
      each fi fj (row i j n) t = term_check a b vi vj wi wj i j n (stands_i a b i j n fi t) (stands_j a b i j n fj t)

  share_raw : (a : Order) (s : Share) (rs : List Row) → T (every (covers a Zero ui di uj dj) rs) → share_rule a s vi vj rs ≡ gate vi vj (raw_divided s vi vj (raw_total (tabled_share a s wi wj) zero_f rs))
  unfolding share_rule
  share_raw a s rs h =
      let x = raw_total (tabled_share a s wi wj) zero_f rs in
      rw (sum_raw a Zero (shared a s) (tabled_share a s wi wj) each rs h)
      (gate_then vi vj x (divided s vi vj) (raw_divided s vi vj) (divided_check s vi vj x) (divided_lost s vi vj x))
    where
      each : finite vi ≡ true → finite vj ≡ true → (r : Row) → T (covers a Zero ui di uj dj r) → shared a s vi vj r ≡ check (tabled_share a s wi wj r)
      each fi fj (row i j n) t = share_check a s vi vj wi wj i j n (stands_i a Zero i j n fi t) (stands_j a Zero i j n fj t)

  -- what a function that fills both tables gives: x is the raw sum, and z is x settled, or divided and settled
  pub slope_ends : {a b : Order} {rs : List Row} {x z : Float} → T (every (covers a b ui di uj dj) rs) → Summed a b wi wj rs x → z ≡ or_nan (gate vi vj x) → z ≡ or_nan (sum_rule (differentiated a b) vi vj rs)
  slope_ends {a} {b} {rs} t h g = g ∙ ap (λ (y : Float). or_nan (gate vi vj y)) h.is ∙ ap or_nan (sym (slope_raw a b rs t))

  pub share_ends : {a : Order} {s : Share} {rs : List Row} {x z : Float} → T (every (covers a Zero ui di uj dj) rs) → SharesSummed a s wi wj rs x → z ≡ or_nan (gate vi vj (raw_divided s vi vj x)) → z ≡ or_nan (share_rule a s vi vj rs)
  share_ends {a} {s} {rs} t h g = g ∙ ap (λ (y : Float). or_nan (gate vi vj (raw_divided s vi vj y))) h.is ∙ ap or_nan (sym (share_raw a s rs t))
