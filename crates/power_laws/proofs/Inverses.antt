-- The inverse law: a power at -n is 1 divided by the power at n, rounded once and looked at. Assumes nothing.
use mathlib.Core.Path.{◌≡◌, refl, sym, ap, ◌∙◌}
use mathlib.Core.Bool.{Bool, true, false, not, ◌&&◌, cond}
use Prim.Native.Nat.{ℕ, zero, suc}
use native.Mathlib.Omega.{arith}
use lib.Dec.{leb}
use lib.IntN.{pos, negsuc, neg_ℤ}
use lib.Ieee.{Float, nan, inf, fin, binary64, round, div}
use Rattle.common.specs.Outcome.{Outcome, value, refused, finite, check, then}
use Rattle.sizes.specs.Lost.{subnormal, is_zero}
use Rattle.rules.specs.Power.{one, bits, by_bits, by_sign, power_rule}
use Rattle.power_laws.specs.Laws.{inverted}

by_parts : (a : Float) (k : ℕ) (p q : Bool) (o : Outcome Float)
    → cond p (cond q (then o (by_sign a (negsuc k))) (refused 3)) (refused 1) ≡ inverted a
    (cond p (cond q (then o (by_sign a (pos (suc k)))) (refused 3)) (refused 1))
by_parts a k true true (value x) = refl
by_parts a k true true (refused n) = refl
by_parts a k true false o = refl
by_parts a k false q o = refl

-- what a value is not, and is
pub other : (k : ℕ) (x : Float) → ◌≡◌ {A = Outcome Float} (refused k) (value x) → ⊥
other k x e = let z : ◌≡◌ {A = ℕ} 0 1 = cc in omega arith

pub value_of : (x y : Float) → ◌≡◌ {A = Outcome Float} (value x) (value y) → x ≡ y
value_of x y e = cc

-- the power at -(k + 1), of any base, accepted or not
pub below : (a : Float) (k : ℕ) → power_rule a (negsuc k) ≡ inverted a (power_rule a (pos (suc k)))
unfolding power_rule
below a k = by_parts a k (finite a) (leb (suc k) 64) (by_bits a one a (bits (suc k)))

-- a look leaves the number as it is
seen : (b : Bool) (x y : Float) → cond b (refused 5) (check x) ≡ value y → y ≡ x
seen true x y e = absurd (other 5 y e)
seen false nan y e = absurd (other 5 y e)
seen false (inf s) y e = absurd (other 5 y e)
seen false (fin s m d) y e = sym (value_of (fin s m d) y e)

pub law_at : (a : Float) (k : ℕ) (r s : Float) → power_rule a (pos (suc k)) ≡ value r → power_rule a (negsuc k) ≡ value s → s ≡ div binary64 one r
law_at a k r s p q = seen (subnormal (div binary64 one r) && not (is_zero a)) (div binary64 one r) s (sym (below a k ∙ ap (inverted a) p) ∙ q)

zeroth : (a : Float) (p : Bool) (r : Float) → cond p (value one) (refused 1) ≡ value r → r ≡ one
zeroth a true r e = sym (value_of one r e)
zeroth a false r e = absurd (other 1 r e)

-- for an n from 0 on, where both are accepted
pub inverse_law : (a : Float) (n : ℕ) (r s : Float) → power_rule a (pos n) ≡ value r → power_rule a (neg_ℤ (pos n)) ≡ value s → s ≡ div binary64 one r
inverse_law a zero r s p q =
    let u : r ≡ one = unfold power_rule in zeroth a (finite a) r p in
    let v : s ≡ one = unfold power_rule in zeroth a (finite a) s q in
    v ∙ sym (ap (div binary64 one) u ∙ one_over_one)
  where
    one_over_one : div binary64 one one ≡ one
    one_over_one = unfold div round in refl
inverse_law a (suc k) r s p q = law_at a k r s p q

-- and where the power at -n is accepted, so is the one at n
pub above_accepted : (a : Float) (n : ℕ) (s : Float) → power_rule a (neg_ℤ (pos n)) ≡ value s → (r : Float) × (power_rule a (pos n) ≡ value r)
above_accepted a zero s q = (s, q)
above_accepted a (suc k) s q = go (power_rule a (pos (suc k))) refl
  where
    go : (o : Outcome Float) → power_rule a (pos (suc k)) ≡ o → (r : Float) × (power_rule a (pos (suc k)) ≡ value r)
    go (value r) e = (r, e)
    go (refused j) e = absurd (other j s (sym (below a k ∙ ap (inverted a) e) ∙ q))
