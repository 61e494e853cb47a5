-- The outcome of a step is a finite number or refusal 5, so it is the check of its number: a caller of a raw form, which gives
-- `or_nan` of a rule, goes over to the rule by it. Assumes nothing.
use mathlib.Core.Path.{◌≡◌, refl}
use mathlib.Core.Bool.{Bool, true, false}
use mathlib.Core.List.{List, [], ◌∷◌}
use lib.Dec.{leb}
use lib.IntN.{ℤ, pos, nat_abs, ◌-ℤ◌, ◌*ℤ◌}
use lib.Ieee.{Float, nan, inf, fin, binary64, add, mul, div, of_int}
use Rattle.common.specs.Outcome.{Outcome, value, refused, finite, check, then, inside, or_nan, zero_f}
use Rattle.common.specs.Sum.{total}
use Rattle.common.proofs.Laws.{check_kept, inside_check}
use Rattle.common.proofs.Numbers.{Settled, check_settled}
use Rattle.rules.specs.Power.{power_rule}
use Rattle.rules.specs.RawPower.{looked_power}
use Rattle.rules.proofs.Powers.{power_looked}
use Rattle.algo.specs.Table.{Row, row, raised, fallen, factor, differentiated, term, sum_rule}
use Rattle.algo.specs.Raw.{raw_fallen}
use Rattle.algo.specs.Joint.{times_whole, weigh, over, divided, shared, share_rule}
use Rattle.algo.specs.declared.Order.{Order}
use Rattle.algo.specs.declared.Order.TheVariants.{Zero, One, Two}
use Rattle.algo.specs.declared.Share.{Share}
use Rattle.algo.specs.declared.Share.TheVariants.{Whole, I, IAgain, J, Ii, Ij, Jj}

finite_of : (x : Float) → check x ≡ value x → finite x ≡ true
finite_of nan h = cc
finite_of (inf s) h = cc
finite_of (fin s m e) h = refl

-- a step after a step
pub then_settled : (o : Outcome Float) (f : Float → Outcome Float) → Settled o → ((x : Float) → finite x ≡ true → Settled (f x)) → Settled (then o f)
then_settled (value x) f h k = k x (finite_of x h)
then_settled (refused n) f h k = h

power_by_lem : (b c : Bool) (a : Float) (n : ℤ) → finite a ≡ b → leb (nat_abs n) 64 ≡ c → Settled (inside (power_rule a n))
unfolding power_rule
power_by_lem true true a n p q = rw (power_looked a n p q, inside_check (looked_power a n)) (check_settled (looked_power a n))
power_by_lem true false a n p q = rw (p, q)
power_by_lem false c a n p q = rw p

pub power_settled : (a : Float) (n : ℤ) → Settled (inside (power_rule a n))
power_settled a n = power_by_lem (finite a) (leb (nat_abs n) 64) a n refl refl

pub raised_settled : (v : Float) (k : ℤ) (x : Float) → Settled (raised v k x)
raised_settled v k x = then_settled (inside (power_rule v k)) _ (power_settled v k) (λ p _. check_settled (mul binary64 x p))

factor_settled : (d : Order) (v : Float) (k : ℤ) (x : Float) → Settled (factor d v k x)
factor_settled Zero v k x = raised_settled v k x
factor_settled One v k x = then_settled (fallen One k x) _ (check_settled (raw_fallen One k x)) (λ y _. raised_settled v (k -ℤ pos 1) y)
factor_settled Two v k x = then_settled (fallen Two k x) _ (check_settled (mul binary64 x (of_int binary64 (k *ℤ (k -ℤ pos 1))))) (λ y _. raised_settled v (k -ℤ pos 2) y)

differentiated_settled : (a b : Order) (vi vj : Float) (r : Row) → Settled (differentiated a b vi vj r)
differentiated_settled a b vi vj (row i j n) = then_settled (factor a vi i n) _ (factor_settled a vi i n) (λ x _. factor_settled b vj j x)

whole_settled : (k : ℤ) (x : Float) → Settled (times_whole k x)
whole_settled k x = check_settled (mul binary64 (of_int binary64 k) x)

weigh_settled : (s : Share) (i j : ℤ) (x : Float) → finite x ≡ true → Settled (weigh s i j x)
weigh_settled Whole i j x f = check_kept x f
weigh_settled I i j x f = whole_settled i x
weigh_settled IAgain i j x f = whole_settled (i -ℤ pos 1) x
weigh_settled J i j x f = whole_settled j x
weigh_settled Ii i j x f = then_settled (times_whole i x) _ (whole_settled i x) (λ y _. whole_settled (i -ℤ pos 1) y)
weigh_settled Ij i j x f = then_settled (times_whole i x) _ (whole_settled i x) (λ y _. whole_settled j y)
weigh_settled Jj i j x f = whole_settled (j *ℤ (j -ℤ pos 1)) x

shared_settled : (a : Order) (s : Share) (vi vj : Float) (r : Row) → Settled (shared a s vi vj r)
shared_settled a s vi vj (row i j n) = then_settled (differentiated a Zero vi vj (row i j n)) _ (differentiated_settled a Zero vi vj (row i j n)) (weigh_settled s i j)

over_settled : (x d : Float) → Settled (over x d)
over_settled x d = then_settled (check d) _ (check_settled d) (λ d _. check_settled (div binary64 x d))

divided_settled : (s : Share) (vi vj x : Float) → finite x ≡ true → Settled (divided s vi vj x)
divided_settled Whole vi vj x f = check_kept x f
divided_settled I vi vj x f = over_settled x vi
divided_settled IAgain vi vj x f = over_settled x vi
divided_settled J vi vj x f = over_settled x vj
divided_settled Ii vi vj x f = over_settled x (mul binary64 vi vi)
divided_settled Ij vi vj x f = over_settled x (mul binary64 vi vj)
divided_settled Jj vi vj x f = over_settled x (mul binary64 vj vj)

total_settled : (t : Row → Outcome Float) → ((r : Row) → Settled (t r)) → (s : Float) → finite s ≡ true → (rs : List Row) → Settled (total t s rs)
unfolding total
total_settled t h s f [] = check_kept s f
total_settled t h s f (r ∷ rs) =
    then_settled (t r) _ (h r) (λ x _. then_settled (check (add binary64 s x)) _ (check_settled (add binary64 s x)) (λ s' g. total_settled t h s' g rs))

-- a sum of any terms that are settled
pub sums_settled : (t : Float → Float → Row → Outcome Float) → ((vi vj : Float) (r : Row) → Settled (t vi vj r)) → (vi vj : Float) (rs : List Row) → Settled (sum_rule t vi vj rs)
unfolding sum_rule
sums_settled t h vi vj rs =
    then_settled (check vi) _ (check_settled vi) (λ a _. then_settled (check vj) _ (check_settled vj) (λ b _. total_settled (t a b) (h a b) zero_f refl rs))

pub slope_settled : (a b : Order) (vi vj : Float) (rs : List Row) → check (or_nan (sum_rule (differentiated a b) vi vj rs)) ≡ sum_rule (differentiated a b) vi vj rs
slope_settled a b = sums_settled (differentiated a b) (differentiated_settled a b)

pub sum_settled : (vi vj : Float) (rs : List Row) → check (or_nan (sum_rule term vi vj rs)) ≡ sum_rule term vi vj rs
sum_settled = slope_settled Zero Zero

pub share_settled : (a : Order) (s : Share) (vi vj : Float) (rs : List Row) → check (or_nan (share_rule a s vi vj rs)) ≡ share_rule a s vi vj rs
unfolding share_rule
share_settled a s vi vj rs = then_settled (sum_rule (shared a s) vi vj rs) _ (sums_settled (shared a s) (shared_settled a s) vi vj rs) (divided_settled s vi vj)
