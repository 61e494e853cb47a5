-- The short form of the doubling law: two accepted powers, of a base and of its double, are enough. For an n from 0 to 64 and a base that is not 0 these say
-- the same: the power is accepted; every product on the way, rounded, is normal; every product was in the normal range before it was rounded. A base of 0 is
-- its own double. Assumes nothing.
use mathlib.Core.Path.{◌≡◌, refl}
use mathlib.Core.Bool.{Bool, true, false}
use Prim.Native.Nat.{ℕ, ◌≤◌}
use lib.Dec.{T}
use lib.IntN.{pos}
use lib.Ieee.{Float, binary64, mul, fits}
use lib.Ieee.Fits.{mul-fits}
use Rattle.common.specs.Outcome.{value, finite}
use Rattle.sizes.specs.Lost.{is_zero}
use Rattle.rules.specs.Power.{power_rule}
use Rattle.power_laws.specs.Laws.{two_to, normal, products, Doubled}
use Rattle.power_laws.proofs.Doubling.{accepted}
use Rattle.power_laws.proofs.Doubles.{twice, doubled}
use Rattle.power_laws.proofs.Accepted.{accepted_normal}
use Rattle.power_laws.proofs.Above.{double_not_zero}
use Rattle.power_laws.proofs.Zeros.{zero_doubled}
use Rattle.power_laws.proofs.Smallest.{accepted_range}

module _ (a : Float) (n : ℕ) (f : T (fits binary64 a)) (l : n ≤ 64) (g : finite (mul binary64 (two_to 1) a) ≡ true) where
  -- both are accepted
  pub doubling_accepted : (x y : Float) → power_rule a (pos n) ≡ value x → power_rule (mul binary64 (two_to 1) a) (pos n) ≡ value y
      → Doubled a (mul binary64 (two_to 1) a) n
  doubling_accepted x y p q = go (is_zero a) refl
    where
      b : Float
      b = mul binary64 (two_to 1) a

      go : (z : Bool) → is_zero a ≡ z → Doubled a b n
      go true h = zero_doubled a n f h l g
      go false h =
          doubled a b n l (twice a f g) (accepted_range a x n f h l p)
          (accepted_normal b y n (mul-fits binary64 (two_to 1) a) (double_not_zero a f h g) q).normal_products

  -- every product of both computations, rounded, is normal
  pub doubling_normal : finite a ≡ true → products normal a n ≡ true → products normal (mul binary64 (two_to 1) a) n ≡ true
      → Doubled a (mul binary64 (two_to 1) a) n
  doubling_normal k p q = doubling_accepted _ _ (accepted a n k l p) (accepted (mul binary64 (two_to 1) a) n g l q)
