-- That the halves are apart is not empty: four sums at which w's own steps are lost and cp's are not, and four at which it is the other way round. Worked
-- out by antt at δ = 1, τ = 1, T = 650 K. In the box no such state is known.
use mathlib.Core.Path.{◌≡◌, refl}
use Prim.Native.Nat.{ℕ}
use lib.Ieee.{round, neg, add, sub, sum, mul, div, of_int, le}
use Rattle.common.specs.Outcome.{value, number_in}
use Rattle.common.specs.Decimal.{scaled, decimal, whole}
use Rattle.inverses.specs.Root.{root_rule, nearest_root, whole_root}
use Rattle.properties.specs.Td.{Sums}
use Rattle.properties.specs.Together.{CpAndW, both_over}

abbrev refusals : CpAndW → ℕ × ℕ
refusals r = (number_in r.cp, number_in r.w)

abbrev over : Sums → ℕ × ℕ
over φ = refusals (both_over (value (whole 650)) φ (value (whole 1)) (value (whole 1)))

-- the quotient of w is 1/0
pub w_lost : over (record { delta = value (whole 1); deltadelta = value (whole 1); deltatau = value (whole 0); tautau = value (whole 0) }) ≡ (0, 5)
unfolding both_over scaled decimal whole round neg add sub sum mul div of_int le root_rule nearest_root whole_root
w_lost = refl

-- the quotient of cp is 1/0
pub cp_lost : over (record { delta = value (whole 0); deltadelta = value (whole 0); deltatau = value (whole 1); tautau = value (neg (whole 1)) }) ≡ (5, 0)
unfolding both_over scaled decimal whole round neg add sub sum mul div of_int le root_rule nearest_root whole_root
cp_lost = refl
