-- To believe: the sums over a table of rows I, J, n, in table order, each step checked: algo/polynomial.rs and algo/polynomial_steps.rs.
-- In order: a table by its columns, a term, a sum. Assumes nothing: these are definitions.
use Rattle.std.specs.Prelude.{List, [], ◌∷◌, ℤ, pos, ◌-ℤ◌, ◌*ℤ◌, Float}
use Rattle.std.specs.Float.{binary64}
use Rattle.std.specs.Float.Ieee.{mul, of_int}
use Rattle.common.specs.Outcome.{Outcome, value, check, then, inside, zero_f}
use Rattle.common.specs.Sum.{total}
use Rattle.rules.specs.Power.{power_rule}
use Rattle.algo.specs.declared.Order.{Order}
use Rattle.algo.specs.declared.Order.TheVariants.{Zero, One, Two}

pub data Row : Type 0 where
  row : ℤ → ℤ → Float → Row

-- a table by its columns
unfoldable pub rows_of : List ℤ → List ℤ → List Float → List Row
rows_of [] js ns = []
rows_of (i ∷ is) [] ns = []
rows_of (i ∷ is) (j ∷ js) [] = []
rows_of (i ∷ is) (j ∷ js) (n ∷ ns) = row i j n ∷ rows_of is js ns

-- ---- a term

-- x * v^k
abbrev pub raised : Float → ℤ → Float → Outcome Float
raised v k x = then (inside (power_rule v k)) (λ p. check (mul binary64 x p))

-- what is left of the exponent k of a power that is differentiated so often
abbrev pub left : Order → ℤ → ℤ
left Zero k = k
left One k = k -ℤ pos 1
left Two k = k -ℤ pos 2

-- x times what comes down then: nothing, k, or k*(k-1), which is worked in whole numbers
abbrev pub fallen : Order → ℤ → Float → Outcome Float
fallen Zero k x = value x
fallen One k x = check (mul binary64 x (of_int binary64 k))
fallen Two k x = check (mul binary64 x (of_int binary64 (k *ℤ (k -ℤ pos 1))))

-- x * v^k, (x * k) * v^(k-1) or (x * (k*(k-1))) * v^(k-2)
abbrev pub factor : Order → Float → ℤ → Float → Outcome Float
factor d v k x = then (fallen d k x) (raised v (left d k))

-- n with its two factors, the one of vi first
abbrev pub differentiated : Order → Order → Float → Float → Row → Outcome Float
differentiated a b vi vj (row i j n) = then (factor a vi i n) (factor b vj j)

-- (n * vi^I) * vj^J
abbrev pub term : Float → Float → Row → Outcome Float
term = differentiated Zero Zero

-- ((n * I) * vi^(I-1)) * vj^J
abbrev pub term_i : Float → Float → Row → Outcome Float
term_i = differentiated One Zero

-- ((n * (I*(I-1))) * vi^(I-2)) * vj^J
abbrev pub term_ii : Float → Float → Row → Outcome Float
term_ii = differentiated Two Zero

-- (((n * I) * vi^(I-1)) * J) * vj^(J-1)
abbrev pub term_ij : Float → Float → Row → Outcome Float
term_ij = differentiated One One

-- ((n * vi^I) * J) * vj^(J-1)
abbrev pub term_j : Float → Float → Row → Outcome Float
term_j = differentiated Zero One

-- ((n * vi^I) * (J*(J-1))) * vj^(J-2)
abbrev pub term_jj : Float → Float → Row → Outcome Float
term_jj = differentiated Zero Two

-- ---- a sum

-- the sum of a table's terms at finite vi and vj, refused with 5 otherwise
unfoldable pub sum_rule : (Float → Float → Row → Outcome Float) → Float → Float → List Row → Outcome Float
sum_rule t vi vj rs = then (check vi) (λ a. then (check vj) (λ b. total (t a b) zero_f rs))

-- the sum of n * x^I * y^J over the rows as a step of a formula, x worked before y
abbrev pub sum_of : Outcome Float → Outcome Float → List Row → Outcome Float
sum_of x y rows = then x (λ vi. then y (λ vj. sum_rule term vi vj rows))
