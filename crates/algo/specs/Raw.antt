-- What crates promise each other of a sum, and helps proofs; no public call's answer speaks of it. The same sums by two tables of powers and with no check:
-- a lost number travels as itself, and an exponent that has no place in a table gives one. Assumes nothing: these are definitions.
use Rattle.common.specs.Formula.{raw_over}
use Rattle.std.specs.Prelude.{ℕ, ◌≡◌, List, Bool, cond, ◌&&◌, leb, ℤ, pos, nat_abs, ◌-ℤ◌, ◌*ℤ◌, Float}
use Rattle.std.specs.Float.{nan, binary64}
use Rattle.std.specs.Float.Ieee.{mul, of_int}
use Rattle.common.specs.Outcome.{Outcome, check, then, zero_f}
use Rattle.common.specs.Sum.{raw_total}
use Rattle.powers.specs.Powers.{looked_up}
use Rattle.powers.specs.Reach.{spans}
use Rattle.algo.specs.Table.{Row, row, left}
use Rattle.algo.specs.declared.Order.{Order}
use Rattle.algo.specs.declared.Order.TheVariants.{Zero, One, Two}
use Rattle.algo.specs.declared.Share.{Share}
use Rattle.algo.specs.declared.Share.TheVariants.{Whole, I, IAgain, J, Ii, Ij, Jj}

-- ---- a term

-- k*(k-1), of an exponent that differentiated twice may have a place, and a NaN of any other
abbrev pub fallen_by : ℤ → Float
fallen_by k = cond (leb (nat_abs k) 66) (of_int binary64 (k *ℤ (k -ℤ pos 1))) nan

abbrev pub raw_fallen : Order → ℤ → Float → Float
raw_fallen Zero k x = x
raw_fallen One k x = mul binary64 x (of_int binary64 k)
raw_fallen Two k x = mul binary64 x (fallen_by k)

abbrev pub tabled_factor : Order → List Float → ℤ → Float → Float
tabled_factor d w k x = mul binary64 (raw_fallen d k x) (looked_up w (left d k))

abbrev pub tabled_term : Order → Order → List Float → List Float → Row → Float
tabled_term a b wi wj (row i j n) = tabled_factor b wj j (tabled_factor a wi i n)

-- x is the sum of the rows' terms
pub record Summed (a b : Order) (wi wj : List Float) (rs : List Row) (x : Float) : Type 0 where
  pub is : x ≡ raw_total (tabled_term a b wi wj) zero_f rs

-- ---- an item's part in a joint sum

abbrev pub raw_whole : ℤ → Float → Float
raw_whole k x = mul binary64 (of_int binary64 k) x

abbrev pub raw_weigh : Share → ℤ → ℤ → Float → Float
raw_weigh Whole i j x = x
raw_weigh I i j x = raw_whole i x
raw_weigh IAgain i j x = raw_whole (i -ℤ pos 1) x
raw_weigh J i j x = raw_whole j x
raw_weigh Ii i j x = raw_whole (i -ℤ pos 1) (raw_whole i x)
raw_weigh Ij i j x = raw_whole j (raw_whole i x)
raw_weigh Jj i j x = mul binary64 (fallen_by j) x

abbrev pub tabled_share : Order → Share → List Float → List Float → Row → Float
tabled_share a s wi wj (row i j n) = raw_weigh s i j (tabled_term a Zero wi wj (row i j n))

-- x is the sum of the rows' parts
pub record SharesSummed (a : Order) (s : Share) (wi wj : List Float) (rs : List Row) (x : Float) : Type 0 where
  pub is : x ≡ raw_total (tabled_share a s wi wj) zero_f rs

abbrev pub raw_divided : Share → Float → Float → Float → Float
raw_divided Whole vi vj x = x
raw_divided I vi vj x = raw_over x vi
raw_divided IAgain vi vj x = raw_over x vi
raw_divided J vi vj x = raw_over x vj
raw_divided Ii vi vj x = raw_over x (mul binary64 vi vi)
raw_divided Ij vi vj x = raw_over x (mul binary64 vi vj)
raw_divided Jj vi vj x = raw_over x (mul binary64 vj vj)

-- ---- what surrounds a sum

-- a raw sum of finite vi and vj, checked once
abbrev pub gate : Float → Float → Float → Outcome Float
gate vi vj x = then (check vi) (λ _. then (check vj) (λ _. check x))

-- a row's exponents go no further than from -di to ui, and from -dj to uj
abbrev pub covers : Order → Order → ℕ → ℕ → ℕ → ℕ → Row → Bool
covers a b ui di uj dj (row i j n) = spans ui di (left a i) && spans uj dj (left b j)
