-- Helps proofs only: the power by numbers alone, where a lost r is the result and stays lost. In order: the bits of |n| with each r as a function leaves it,
-- the same by the number |n| itself and with each r as it is, and the sign of n; then the power with no look at it, which is the rule's at usual bases
-- (proofs/Usual), and the one with a NaN for each r that is lost, which is the rule's at any (proofs/Powers). Assumes nothing: these are definitions.
use Rattle.std.specs.Prelude.{ℕ, zero, suc, ◌/◌, Bool, true, false, List, [], ◌∷◌, eqb, ℤ, pos, negsuc, nat_abs, Float}
use Rattle.std.specs.Float.{binary64}
use Rattle.std.specs.Float.Ieee.{mul, div}
use Rattle.common.specs.Formula.{lost_or}
use Rattle.sizes.specs.Lost.{looked}
use Rattle.rules.specs.Power.{one, odd, bits}
use Rattle.rules.specs.Product.{taken, times}

-- r as it is, or looked at
abbrev pub kept : Bool → Float → Float → Float
kept false a = λ r. r
kept true a = looked a

unfoldable pub over_bits : (Float → Float) → Float → Float → List Bool → Float
over_bits f r x [] = r
over_bits f r x (bit ∷ higher) = over_bits f (taken f bit r x) (mul binary64 x x) higher

-- From r and a on, with h the higher bits that remain and `none` saying that there are none: while some remain, a becomes a*a, and where the lowest is set
-- r becomes r*a. The first argument bounds how many remain.
unfoldable pub raw_higher_bits : ℕ → Bool → Float → Float → ℕ → Float
raw_higher_bits zero none r a h = r
raw_higher_bits (suc k) true r a h = r
raw_higher_bits (suc k) false r a h = raw_higher_bits k (eqb (h / 2) 0) (times (odd h) r (mul binary64 a a)) (mul binary64 a a) (h / 2)

-- r times a to the n, for an n below 2 ^ (k + 1)
abbrev pub raw_by_bits : ℕ → Float → Float → ℕ → Float
raw_by_bits k r a n = raw_higher_bits k (eqb (n / 2) 0) (times (odd n) r a) a (n / 2)

-- r, or 1/r as f leaves it for a negative n
abbrev pub by_sign_of : (Float → Float) → ℤ → Float → Float
by_sign_of f (pos k) r = r
by_sign_of f (negsuc k) r = lost_or r (f (div binary64 one r))

abbrev pub raw_by_sign : ℤ → Float → Float
raw_by_sign = by_sign_of (λ r. r)

-- |n| has 32 bits at most, where n is an i32
unfoldable pub raw_power : Float → ℤ → Float
raw_power a n = raw_by_sign n (raw_by_bits 31 one a (nat_abs n))

abbrev pub power_by_bits : Bool → Float → ℤ → Float
power_by_bits l a n = by_sign_of (kept l a) n (over_bits (kept l a) one a (bits (nat_abs n)))

unfoldable pub looked_power : Float → ℤ → Float
unfolding over_bits
looked_power = power_by_bits true
