-- Why the sums do not care about the sign of a base at even exponents: a sum over any table whose exponents of a base are all even, and each of its
-- derivatives where what is left of them is, has the same outcome at the base with its sign turned. Assumes nothing.
use mathlib.Core.Path.{◌≡◌, refl, sym, ap, ◌∙◌}
use mathlib.Core.Bool.{Bool, true, false, not, cond}
use mathlib.Core.List.{List, [], ◌∷◌}
use lib.Dec.{eqb}
use lib.ListN.{length}
use lib.IntN.{ℤ, nat_abs}
use lib.Ieee.{Float, nan, inf, fin, binary64, neg, add, mul}
use Rattle.common.specs.Outcome.{Outcome, value, refused, check, then, inside, zero_f}
use Rattle.common.specs.Sum.{total, every}
use Rattle.common.proofs.Laws.{never}
use Rattle.rules.specs.Power.{odd, power_rule}
use Rattle.algo.specs.declared.Order.{Order}
use Rattle.algo.specs.Table.{Row, row, rows_of, raised, left, fallen, factor, differentiated, sum_rule}
use Rattle.polynomial.specs.Columns.{table_rule}
use Rattle.power_laws.specs.Laws.{turned}
use Rattle.power_laws.specs.Even.{even_first, even_second, all_even_first, all_even_second}
use Rattle.power_laws.proofs.Signs.{sign_law}
use Rattle.power_laws.proofs.Scales as tests

is_even : (b : Bool) → not b ≡ true → b ≡ false
is_even true h = never (sym h)
is_even false h = refl

pub even_power : (v : Float) (k : ℤ) → not (odd (nat_abs k)) ≡ true → power_rule (neg v) k ≡ power_rule v k
even_power v k h = sign_law v k ∙ ap (λ (b : Bool). turned b (power_rule v k)) (is_even (odd (nat_abs k)) h)

even_raised : (v : Float) (k : ℤ) (x : Float) → not (odd (nat_abs k)) ≡ true → raised (neg v) k x ≡ raised v k x
even_raised v k x h = ap (λ (o : Outcome Float). then (inside o) (λ p. check (mul binary64 x p))) (even_power v k h)

after : (o : Outcome Float) (f g : Float → Outcome Float) → ((x : Float) → f x ≡ g x) → then o f ≡ then o g
after (value x) f g h = h x
after (refused k) f g h = refl

even_factor : (d : Order) (v : Float) (k : ℤ) (x : Float) → not (odd (nat_abs (left d k))) ≡ true → factor d (neg v) k x ≡ factor d v k x
even_factor d v k x h = after (fallen d k x) (raised (neg v) (left d k)) (raised v (left d k)) (λ y. even_raised v (left d k) y h)

-- ---- a sum

total_same : {R : Type 0} (f : R → Bool) (t u : R → Outcome Float) → ((r : R) → f r ≡ true → t r ≡ u r) → (s : Float) (rs : List R) → every f rs ≡ true
    → total t s rs ≡ total u s rs
unfolding total every
total_same f t u e s [] h = refl
total_same f t u e s (r ∷ rs) h =
    ap (λ (o : Outcome Float). then o (λ x. then (check (add binary64 s x)) (λ s'. total t s' rs))) (e r (tests.left (f r) (every f rs) h))
    ∙ after (u r) _ _ (λ x. after (check (add binary64 s x)) _ _ (λ s'. total_same f t u e s' rs (tests.right (f r) (every f rs) h)))

-- of a finite base the sign may be turned before or after the test
checked : (v : Float) (f g : Float → Outcome Float) → ((x : Float) → f (neg x) ≡ g x) → then (check (neg v)) f ≡ then (check v) g
unfolding neg
checked nan f g h = refl
checked (inf s) f g h = refl
checked (fin s m e) f g h = h (fin s m e)

module _ (a b : Order) where
  -- a row whose exponent of a base is even has the same term, whatever the other rows are
  pub even_first_term : (x y : Float) (r : Row) → even_first a r ≡ true → differentiated a b (neg x) y r ≡ differentiated a b x y r
  even_first_term x y (row i j n) e = ap (λ (o : Outcome Float). then o (factor b y j)) (even_factor a x i n e)

  pub even_second_term : (x y : Float) (r : Row) → even_second b r ≡ true → differentiated a b x (neg y) r ≡ differentiated a b x y r
  even_second_term x y (row i j n) e = after (factor a x i n) _ _ (λ z. even_factor b y j z e)

  -- and so a table whose rows are all such has the same sum
  pub even_first_lem : (rows : List Row) (vi vj : Float) → all_even_first a rows ≡ true
      → sum_rule (differentiated a b) (neg vi) vj rows ≡ sum_rule (differentiated a b) vi vj rows
  unfolding sum_rule
  even_first_lem rows vi vj h =
      checked vi _ _
      (λ x. after (check vj) _ _ (λ y. total_same (even_first a) (differentiated a b (neg x) y) (differentiated a b x y) (even_first_term x y) zero_f rows h))

  pub even_second_lem : (rows : List Row) (vi vj : Float) → all_even_second b rows ≡ true
      → sum_rule (differentiated a b) vi (neg vj) rows ≡ sum_rule (differentiated a b) vi vj rows
  unfolding sum_rule
  even_second_lem rows vi vj h =
      after (check vi) _ _
      (λ x. checked vj _ _ (λ y. total_same (even_second b) (differentiated a b x (neg y)) (differentiated a b x y) (even_second_term x y) zero_f rows h))

-- ---- and so a table that is lent by its columns

module _ (a b : Order) (is js : List ℤ) (ns : List Float) where
  lent : Outcome Float → Outcome Float
  lent o = cond (eqb (length is) (length ns)) (cond (eqb (length js) (length ns)) o (refused 7)) (refused 7)

  pub even_first_column : (vi vj : Float) → all_even_first a (rows_of is js ns) ≡ true
      → table_rule (differentiated a b) (neg vi) vj is js ns ≡ table_rule (differentiated a b) vi vj is js ns
  unfolding table_rule lent
  even_first_column vi vj h = ap lent (even_first_lem a b (rows_of is js ns) vi vj h)

  pub even_second_column : (vi vj : Float) → all_even_second b (rows_of is js ns) ≡ true
      → table_rule (differentiated a b) vi (neg vj) is js ns ≡ table_rule (differentiated a b) vi vj is js ns
  unfolding table_rule lent
  even_second_column vi vj h = ap lent (even_second_lem a b (rows_of is js ns) vi vj h)
