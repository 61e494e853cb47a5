-- To believe: the sums that share an item of each row and are divided once at their end, each step checked: the `polys` of
-- algo/polynomial.rs and algo/polynomial_steps.rs. Assumes nothing: these are definitions.
use Rattle.std.specs.Prelude.{List, ℤ, pos, ◌-ℤ◌, ◌*ℤ◌, Float}
use Rattle.std.specs.Float.{binary64}
use Rattle.std.specs.Float.Ieee.{mul, div, of_int}
use Rattle.common.specs.Outcome.{Outcome, value, check, then}
use Rattle.algo.specs.Table.{Row, row, differentiated, sum_rule}
use Rattle.algo.specs.declared.Order.{Order}
use Rattle.algo.specs.declared.Order.TheVariants.{Zero}
use Rattle.algo.specs.declared.Share.{Share}
use Rattle.algo.specs.declared.Share.TheVariants.{Whole, I, IAgain, J, Ii, Ij, Jj}

-- k * x
abbrev pub times_whole : ℤ → Float → Outcome Float
times_whole k x = check (mul binary64 (of_int binary64 k) x)

-- what the item x of a row adds to a sum
abbrev pub weigh : Share → ℤ → ℤ → Float → Outcome Float
weigh Whole i j x = value x
weigh I i j x = times_whole i x
weigh IAgain i j x = times_whole (i -ℤ pos 1) x
weigh J i j x = times_whole j x
weigh Ii i j x = then (times_whole i x) (times_whole (i -ℤ pos 1))
weigh Ij i j x = then (times_whole i x) (times_whole j)
weigh Jj i j x = times_whole (j *ℤ (j -ℤ pos 1)) x

-- x / d, of a d that is a step of its own
abbrev pub over : Float → Float → Outcome Float
over x d = then (check d) (λ d. check (div binary64 x d))

-- and what the sum is divided by at its end
abbrev pub divided : Share → Float → Float → Float → Outcome Float
divided Whole vi vj x = value x
divided I vi vj x = over x vi
divided IAgain vi vj x = over x vi
divided J vi vj x = over x vj
divided Ii vi vj x = over x (mul binary64 vi vi)
divided Ij vi vj x = over x (mul binary64 vi vj)
divided Jj vi vj x = over x (mul binary64 vj vj)

-- the item is (n * vi^I) * vj^J, or ((n * I) * vi^(I-1)) * vj^J where vi's power is differentiated
abbrev pub shared : Order → Share → Float → Float → Row → Outcome Float
shared a s vi vj (row i j n) = then (differentiated a Zero vi vj (row i j n)) (weigh s i j)

unfoldable pub share_rule : Order → Share → Float → Float → List Row → Outcome Float
share_rule a s vi vj rs = then (sum_rule (shared a s) vi vj rs) (divided s vi vj)
