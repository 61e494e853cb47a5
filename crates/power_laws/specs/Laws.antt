-- To believe: what the laws of powers say. In order: the sign law, the inverse law, the doubling law, a rule that looks at squares. Assumes nothing: these
-- are definitions.
use Rattle.std.specs.Prelude.{◌≡◌, Bool, true, false, not, ◌&&◌, List, [], ◌∷◌, ℕ, ◌+◌, ◌*◌, ◌^◌, ◌<◌, leb, pos, Float}
use Rattle.std.specs.Float.{nan, inf, fin, binary64}
use Rattle.std.specs.Float.Ieee.{up, down, mul, div, to_bits}
use Rattle.common.specs.Outcome.{Outcome, value, finite, then}
use Rattle.common.specs.Formula.{minus_of}
use Rattle.sizes.specs.Lost.{subnormal}
use Rattle.rules.specs.Power.{one, bits, check_power, by_bits, power_rule}
use Rattle.rules.specs.Product.{times}

-- ---- the sign law

-- the same outcome, or with the sign of its value turned
abbrev pub turned : Bool → Outcome Float → Outcome Float
turned true o = minus_of o
turned false o = o

-- what the sign adds to a number's bits
abbrev pub sign_bit : Bool → ℕ
sign_bit true = 2 ^ 63
sign_bit false = 0

-- of two numbers' bits only the sign bit differs, the highest of the 64
pub record SignBitOnly (x y : Float) : Type 0 where
  pub sign : Bool
  pub rest : ℕ
  pub small : rest < 2 ^ 63
  pub before : to_bits binary64 x ≡ sign_bit sign + rest
  pub after : to_bits binary64 y ≡ sign_bit (not sign) + rest

-- ---- the inverse law

-- 1 divided by the value, rounded once, and looked at as a power of a
abbrev pub inverted : Float → Outcome Float → Outcome Float
inverted a o = then o (λ r. check_power a (div binary64 one r))

-- ---- the doubling law

-- y is exactly 2^k times x
abbrev pub Scaled : ℕ → Float → Float → Type 0
Scaled k nan y = ⊥
Scaled k (inf s) y = ⊥
Scaled k (fin s m e) nan = ⊥
Scaled k (fin s m e) (inf t) = ⊥
Scaled k (fin s m e) (fin t n d) = (t ≡ s) × (n * up d * down e ≡ m * up e * 2 ^ k * down d)

-- 2^k
abbrev pub two_to : ℕ → Float
two_to k = fin false 1 (pos k)

-- a product stays in the normal range: before it is rounded it is 2^-1022 at least in size, and rounded it is finite
abbrev pub in_range : Float → Float → Bool
in_range nan x = false
in_range (inf s) x = false
in_range (fin s m e) nan = false
in_range (fin s m e) (inf t) = false
in_range (fin s m e) (fin t n d) = leb (down e * down d) (m * up e * (n * up d) * 2 ^ 1022) && finite (mul binary64 (fin s m e) (fin t n d))

-- the product, rounded, is a normal number
abbrev pub normal : Float → Float → Bool
normal r x = finite (mul binary64 r x) && not (subnormal (mul binary64 r x))

-- a test of the product r*x, where the bit is set
abbrev pub of_bit : (Float → Float → Bool) → Bool → Float → Float → Bool
of_bit p true r x = p r x
of_bit p false r x = true

-- a test of every product that is formed on the way, from r and x on: each r*x, and each x*x while a higher bit remains
unfoldable pub every_product : (Float → Float → Bool) → Float → Float → List Bool → Bool
every_product p r x [] = true
every_product p r x (bit ∷ []) = of_bit p bit r x
every_product p r x (bit ∷ next ∷ higher) = of_bit p bit r x && (p x x && every_product p (times bit r x) (mul binary64 x x) (next ∷ higher))

-- of the power at n
abbrev pub products : (Float → Float → Bool) → Float → ℕ → Bool
products p a n = every_product p one a (bits n)

-- the powers at n of a and of b are numbers, and the one of b is exactly 2^n times the one of a: as numbers, and so as the rounded product
pub record Doubled (a b : Float) (n : ℕ) : Type 0 where
  pub of_base : Float
  pub of_double : Float
  pub base_accepted : power_rule a (pos n) ≡ value of_base
  pub double_accepted : power_rule b (pos n) ≡ value of_double
  pub exactly : Scaled n of_base of_double
  pub as_f64 : of_double ≡ mul binary64 of_base (two_to n)

-- ---- a look at each square

-- as `by_bits` of the rule, where each x*x is looked at too
unfoldable pub by_bits_and_squares : Float → Float → Float → List Bool → Outcome Float
unfolding by_bits
by_bits_and_squares a r x [] = value r
by_bits_and_squares a r x (bit ∷ []) = by_bits a r x (bit ∷ [])
by_bits_and_squares a r x (true ∷ next ∷ higher) =
    then (check_power a (mul binary64 r x)) (λ r'. then (check_power a (mul binary64 x x)) (λ x2. by_bits_and_squares a r' x2 (next ∷ higher)))
by_bits_and_squares a r x (false ∷ next ∷ higher) = then (check_power a (mul binary64 x x)) (λ x2. by_bits_and_squares a r x2 (next ∷ higher))
