-- To believe: the power rule (docs/SCOPE.md, the four written rules). In order: the bits of |n|, when a power is lost, the bits taken one by one, the sign
-- of n, and the rule. Assumes nothing: these are definitions.
use Rattle.std.specs.Prelude.{ℕ, zero, suc, ◌/◌, ◌%◌, Bool, true, false, not, ◌&&◌, cond, List, [], ◌∷◌, eqb, leb, ℤ, pos, negsuc, nat_abs, Float}
use Rattle.std.specs.Float.{fin, binary64}
use Rattle.std.specs.Float.Ieee.{size, mul, div}
use Rattle.common.specs.Outcome.{Outcome, value, refused, finite, check, then}
use Rattle.sizes.specs.Lost.{subnormal, is_zero}

abbrev pub one : Float
one = fin false 1 (pos 0)

abbrev pub odd : ℕ → Bool
odd n = eqb (n % 2) 1

-- the k lowest bits of n, the lowest first
unfoldable pub lowest : ℕ → ℕ → List Bool
lowest zero n = []
lowest (suc k) n = odd n ∷ lowest k (n / 2)

-- its bits, the lowest first: `size` counts them, and 0 has none
abbrev pub bits : ℕ → List Bool
bits n = lowest (size n) n

-- Every r on the way to a power of a, and its result, is looked at once: a lost one is refused with 5. When a power is lost is said here alone: where it
-- is not finite, and where a is not 0 and it is subnormal or 0.
abbrev pub check_power : Float → Float → Outcome Float
check_power a r = cond (subnormal r && not (is_zero a)) (refused 5) (check r)

-- The bits in turn: where the bit is set r becomes r*x, and for the bits above it x becomes x*x. At the start r is 1 and x is a.
unfoldable pub by_bits : Float → Float → Float → List Bool → Outcome Float
by_bits a r x [] = value r
by_bits a r x (true ∷ higher) = then (check_power a (mul binary64 r x)) (λ r'. by_bits a r' (mul binary64 x x) higher)
by_bits a r x (false ∷ higher) = by_bits a r (mul binary64 x x) higher

-- r, or 1/r for a negative n
abbrev pub by_sign : Float → ℤ → Float → Outcome Float
by_sign a (pos k) r = value r
by_sign a (negsuc k) r = check_power a (div binary64 one r)

-- a^n, for n from -64 to 64. Refused: 1 for an a that is not finite, 3 for another n, 5 for an r or a result that is lost
unfoldable pub power_rule : Float → ℤ → Outcome Float
unfolding by_bits lowest size
power_rule a n = cond (finite a) (cond (leb (nat_abs n) 64) (then (by_bits a one a (bits (nat_abs n))) (by_sign a n)) (refused 3)) (refused 1)
