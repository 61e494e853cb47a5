-- In bits: a number and the same with its sign turned differ in the sign bit alone, and every value of a power is a finite f64. Assumes nothing.
use mathlib.Core.Path.{◌≡◌, refl, sym, ap}
use mathlib.Core.Bool.{Bool, true, false, not, ◌&&◌, cond}
use mathlib.Core.List.{List, [], ◌∷◌}
use Prim.Native.Nat.{ℕ, ◌+◌, ◌-◌, ◌*◌, ◌/◌, ◌^◌, ◌<◌}
use native.Mathlib.Nat.{add_assoc}
use native.Mathlib.Omega.{arith}
use lib.Dec.{T, leb}
use lib.IntN.{ℤ, pos, negsuc, nat_abs}
use lib.Ieee.{Float, nan, inf, fin, binary64, prec, low, up, down, size, hid, top, neg, mul, div, fits, to_bits}
use lib.Ieee.Bits.{to_bits-lt}
use lib.Ieee.Fits.{mul-fits, div-fits}
use Rattle.common.specs.Outcome.{Outcome, value, refused, finite, check, then}
use Rattle.common.proofs.Laws.{never}
use Rattle.sizes.specs.Lost.{subnormal, is_zero}
use Rattle.rules.specs.Power.{one, bits, check_power, by_bits, by_sign, power_rule}
use Rattle.power_laws.specs.Laws.{sign_bit, SignBitOnly}
use Rattle.power_laws.proofs.Again.{other_sign}
use Rattle.power_laws.proofs.Inverses.{other, value_of}

lower : (t : ℕ) → top binary64 + t < 2 * top binary64 → t < 2 ^ 63
lower t h = omega arith

pub sign_bit_only : (x : Float) → finite x ≡ true → T (fits binary64 x) → SignBitOnly x (neg x)
unfolding to_bits neg
sign_bit_only nan f h = never (sym f)
sign_bit_only (inf s) f h = never (sym f)
sign_bit_only (fin s m e) f h =
    let n = m * up e * 2 ^ low binary64 / down e in
    let k = size n - prec binary64 in
    let t = k * hid binary64 + n / 2 ^ k in
    record {
      sign = s;
      rest = t;
      small = lower t (rw (sym (add_assoc (top binary64) (k * hid binary64) (n / 2 ^ k))) (to_bits-lt binary64 (fin true m e) (other_sign s true m e h)));
      before = by s (k * hid binary64) (n / 2 ^ k);
      after = by (not s) (k * hid binary64) (n / 2 ^ k);
    }
  where
    by : (s : Bool) (a b : ℕ) → cond s (top binary64) 0 + a + b ≡ sign_bit s + (a + b)
    by true a b = omega arith
    by false a b = omega arith

-- ---- so do an odd power and the power of the turned base

-- a look leaves the number as it is, and the format holds it
record Seen (z y : Float) : Type 0 where
  same : y ≡ z
  kept : finite y ≡ true

seen : (b : Bool) (z y : Float) → cond b (refused 5) (check z) ≡ value y → Seen z y
seen true z y e = absurd (other 5 y e)
seen false nan y e = absurd (other 5 y e)
seen false (inf s) y e = absurd (other 5 y e)
seen false (fin s m d) y e = let w : y ≡ fin s m d = sym (value_of (fin s m d) y e) in record { same = w; kept = ap finite w }

abbrev Held : Float → Type 0
Held y = (finite y ≡ true) × T (fits binary64 y)

held : (z y : Float) → Seen z y → T (fits binary64 z) → Held y
held z y s h = (s.kept, rw s.same h)

held_bits : (a r x y : Float) (bs : List Bool) → Held r → by_bits a r x bs ≡ value y → Held y
unfolding by_bits
held_bits a r x y [] h e = rw (sym (value_of r y e)) h
held_bits a r x y (true ∷ bs) h e = go (check_power a z) refl (λ w k. held_bits a w (mul binary64 x x) y bs k) e
  where
    z : Float
    z = mul binary64 r x

    go : (o : Outcome Float) → check_power a z ≡ o → ((w : Float) → Held w → by_bits a w (mul binary64 x x) bs ≡ value y → Held y)
        → then o (λ r'. by_bits a r' (mul binary64 x x) bs) ≡ value y → Held y
    go (value w) k f e = f w (held z w (seen (subnormal z && not (is_zero a)) z w k) (mul-fits binary64 r x)) e
    go (refused j) k f e = absurd (other j y e)
held_bits a r x y (false ∷ bs) h e = held_bits a r (mul binary64 x x) y bs h e

held_sign : (a : Float) (n : ℤ) (r y : Float) → Held r → by_sign a n r ≡ value y → Held y
held_sign a (pos k) r y h e = rw (sym (value_of r y e)) h
held_sign a (negsuc k) r y h e =
    let z = div binary64 one r in
    held z y (seen (subnormal z && not (is_zero a)) z y e) (div-fits binary64 one r)

held_power : (a : Float) (n : ℤ) (y : Float) → power_rule a n ≡ value y → Held y
unfolding power_rule
held_power a n y e = go (finite a) (leb (nat_abs n) 64) (by_bits a one a (bits (nat_abs n))) refl e
  where
    go : (p q : Bool) (o : Outcome Float) → by_bits a one a (bits (nat_abs n)) ≡ o → cond p (cond q (then o (by_sign a n)) (refused 3)) (refused 1) ≡ value y
        → Held y
    go true true (value r) k e = held_sign a n r y (held_bits a one a r (bits (nat_abs n)) (refl, unfold fits in tt) k) e
    go true true (refused j) k e = absurd (other j y e)
    go true false o k e = absurd (other 3 y e)
    go false q o k e = absurd (other 1 y e)

pub turned_bits : (a : Float) (n : ℤ) (y : Float) → power_rule a n ≡ value y → SignBitOnly y (neg y)
turned_bits a n y e = let h = held_power a n y e in sign_bit_only y h.0 h.1
