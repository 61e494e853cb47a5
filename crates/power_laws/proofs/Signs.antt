-- The sign law: a base with its sign turned has the same power where n is even, and the power with its sign turned where n is odd; both are refused alike.
-- In order: one rounded operation, one look, the bits of |n|, the sign of n, and the law. Assumes nothing.
use mathlib.Core.Path.{◌≡◌, refl, sym, ap, ◌∙◌}
use mathlib.Core.Bool.{Bool, true, false, not, ◌&&◌, cond}
use mathlib.Core.List.{List, [], ◌∷◌}
use Prim.Native.Nat.{ℕ, zero, suc, ◌*◌, ◌/◌, ◌^◌, ◌<◌}
use native.Mathlib.Omega.{arith}
use lib.Dec.{eqb, leb}
use lib.IntN.{ℤ, pos, negsuc, nat_abs}
use lib.Ieee.{Float, nan, inf, fin, binary64, up, down, size, round, neg, mul, div, unlike}
use lib.Ieee.Digits.{size-lt}
use Rattle.common.specs.Outcome.{Outcome, value, refused, finite, check, then}
use Rattle.common.specs.Formula.{minus_of}
use Rattle.sizes.specs.Lost.{subnormal, is_zero}
use Rattle.rules.specs.Power.{one, odd, lowest, bits, check_power, by_bits, by_sign, power_rule}
use Rattle.rules.proofs.Rounds.{round_neg}
use Rattle.power_laws.specs.Laws.{turned}

-- ---- one rounded operation

unlike_left : (s t : Bool) → unlike (not s) t ≡ not (unlike s t)
unlike_left true true = refl
unlike_left true false = refl
unlike_left false true = refl
unlike_left false false = refl

unlike_right : (s t : Bool) → unlike s (not t) ≡ not (unlike s t)
unlike_right true true = refl
unlike_right true false = refl
unlike_right false true = refl
unlike_right false false = refl

unlike_both : (s : Bool) → unlike (not s) (not s) ≡ unlike s s
unlike_both true = refl
unlike_both false = refl

inf_turned : (b : Bool) (s : Bool) → cond b nan (inf (not s)) ≡ neg (cond b nan (inf s))
unfolding neg
inf_turned true s = refl
inf_turned false s = refl

pub mul_turned : (x y : Float) → mul binary64 (neg x) y ≡ neg (mul binary64 x y)
unfolding mul neg
mul_turned nan y = refl
mul_turned (inf s) nan = refl
mul_turned (inf s) (inf t) = ap inf (unlike_left s t)
mul_turned (inf s) (fin t n d) = rw (unlike_left s t) (inf_turned (eqb n 0) (unlike s t))
mul_turned (fin s m e) nan = refl
mul_turned (fin s m e) (inf t) = rw (unlike_left s t) (inf_turned (eqb m 0) (unlike s t))
mul_turned (fin s m e) (fin t n d) = rw (unlike_left s t) (sym (round_neg binary64 (unlike s t) (m * up e * (n * up d)) (down e * down d)))

pub mul_turned_right : (x y : Float) → mul binary64 x (neg y) ≡ neg (mul binary64 x y)
unfolding mul neg
mul_turned_right nan y = refl
mul_turned_right (inf s) nan = refl
mul_turned_right (inf s) (inf t) = ap inf (unlike_right s t)
mul_turned_right (inf s) (fin t n d) = rw (unlike_right s t) (inf_turned (eqb n 0) (unlike s t))
mul_turned_right (fin s m e) nan = refl
mul_turned_right (fin s m e) (inf t) = rw (unlike_right s t) (inf_turned (eqb m 0) (unlike s t))
mul_turned_right (fin s m e) (fin t n d) = rw (unlike_right s t) (sym (round_neg binary64 (unlike s t) (m * up e * (n * up d)) (down e * down d)))

pub square_turned : (x : Float) → mul binary64 (neg x) (neg x) ≡ mul binary64 x x
unfolding mul neg
square_turned nan = refl
square_turned (inf s) = ap inf (unlike_both s)
square_turned (fin s m e) = rw (unlike_both s) refl

inverse_turned : (r : Float) → div binary64 one (neg r) ≡ neg (div binary64 one r)
unfolding div neg
inverse_turned nan = refl
inverse_turned (inf s) = rw (unlike_right false s) refl
inverse_turned (fin s m e) = rw (unlike_right false s) (go (eqb m 0))
  where
    go : (b : Bool)
        → cond b (inf (not (unlike false s))) (round binary64 (not (unlike false s)) (1 * 1 * down e) (m * up e * 1))
        ≡ neg (cond b (inf (unlike false s)) (round binary64 (unlike false s) (1 * 1 * down e) (m * up e * 1)))
    go true = refl
    go false = sym (round_neg binary64 (unlike false s) (1 * 1 * down e) (m * up e * 1))

-- ---- one look

pub finite_turned : (x : Float) → finite (neg x) ≡ finite x
unfolding neg
finite_turned nan = refl
finite_turned (inf s) = refl
finite_turned (fin s m e) = refl

pub zero_turned : (x : Float) → is_zero (neg x) ≡ is_zero x
unfolding neg
zero_turned nan = refl
zero_turned (inf s) = refl
zero_turned (fin s m e) = refl

check_turned : (b : Bool) (r : Float) → cond b (refused 5) (check (neg r)) ≡ minus_of (cond b (refused 5) (check r))
unfolding neg
check_turned true r = refl
check_turned false nan = refl
check_turned false (inf s) = refl
check_turned false (fin s m e) = refl

pub subnormal_turned : (x : Float) → subnormal (neg x) ≡ subnormal x
unfolding neg
subnormal_turned nan = refl
subnormal_turned (inf s) = refl
subnormal_turned (fin s m e) = refl

-- of the turned base
base_look : (a r : Float) → check_power (neg a) r ≡ check_power a r
base_look a r = rw (zero_turned a) refl

-- and of the turned number
look_turned : (a r : Float) → check_power a (neg r) ≡ minus_of (check_power a r)
look_turned a r = rw (subnormal_turned r) (check_turned (subnormal r && not (is_zero a)) r)

-- ---- the bits

-- a step after a turned one
after_turned : (o : Outcome Float) (f g : Float → Outcome Float) → ((x : Float) → f (neg x) ≡ minus_of (g x)) → then (minus_of o) f ≡ minus_of (then o g)
after_turned (value x) f g h = h x
after_turned (refused k) f g h = refl

after_same : (o : Outcome Float) (f g : Float → Outcome Float) → ((x : Float) → f x ≡ g x) → then o f ≡ then o g
after_same (value x) f g h = h x
after_same (refused k) f g h = refl

base_bits : (a r x : Float) (bs : List Bool) → by_bits (neg a) r x bs ≡ by_bits a r x bs
unfolding by_bits
base_bits a r x [] = refl
base_bits a r x (true ∷ bs) =
    rw (base_look a (mul binary64 r x)) (after_same (check_power a (mul binary64 r x)) _ _ (λ r'. base_bits a r' (mul binary64 x x) bs))
base_bits a r x (false ∷ bs) = base_bits a r (mul binary64 x x) bs

bits_turned : (a r x : Float) (bs : List Bool) → by_bits a (neg r) x bs ≡ minus_of (by_bits a r x bs)
unfolding by_bits
bits_turned a r x [] = refl
bits_turned a r x (true ∷ bs) =
    rw (mul_turned r x, look_turned a (mul binary64 r x))
    (after_turned (check_power a (mul binary64 r x)) _ _ (λ r'. bits_turned a r' (mul binary64 x x) bs))
bits_turned a r x (false ∷ bs) = bits_turned a r (mul binary64 x x) bs

-- from 1 and the turned base on: the lowest bit says whether the sign is taken up, and the squares have none
first_turned : (a : Float) (b : Bool) (bs : List Bool) → by_bits a one (neg a) (b ∷ bs) ≡ turned b (by_bits a one a (b ∷ bs))
unfolding by_bits
first_turned a true bs =
    rw (mul_turned_right one a, look_turned a (mul binary64 one a), square_turned a)
    (after_turned (check_power a (mul binary64 one a)) _ _ (λ r'. bits_turned a r' (mul binary64 a a) bs))
first_turned a false bs = rw (square_turned a) refl

all_turned : (a : Float) (n : ℕ) → by_bits (neg a) one (neg a) (bits n) ≡ turned (odd n) (by_bits a one a (bits n))
all_turned a n = base_bits a one (neg a) (bits n) ∙ go (size n) (size-lt n)
  where
    go : (k : ℕ) → n < 2 ^ k → by_bits a one (neg a) (lowest k n) ≡ turned (odd n) (by_bits a one a (lowest k n))
    go zero l = let e : n ≡ 0 = omega arith in rw e (unfold by_bits lowest in refl)
    go (suc k) l = unfold lowest in first_turned a (odd n) (lowest k (n / 2))

-- ---- the sign of n

base_sign : (a : Float) (n : ℤ) (r : Float) → by_sign (neg a) n r ≡ by_sign a n r
base_sign a (pos k) r = refl
base_sign a (negsuc k) r = base_look a (div binary64 one r)

sign_turned : (a : Float) (n : ℤ) (r : Float) → by_sign a n (neg r) ≡ minus_of (by_sign a n r)
sign_turned a (pos k) r = refl
sign_turned a (negsuc k) r = rw (inverse_turned r) (look_turned a (div binary64 one r))

signed : (b : Bool) (a : Float) (n : ℤ) (o : Outcome Float) → then (turned b o) (by_sign (neg a) n) ≡ turned b (then o (by_sign a n))
signed true a n o = after_turned o _ _ (λ r. base_sign a n (neg r) ∙ sign_turned a n r)
signed false a n o = after_same o _ _ (λ r. base_sign a n r)

-- ---- the law, for any base and exponent at all

tests : (b p q : Bool) (o : Outcome Float) → cond p (cond q (turned b o) (refused 3)) (refused 1) ≡ turned b (cond p (cond q o (refused 3)) (refused 1))
tests true true true o = refl
tests true true false o = refl
tests true false q o = refl
tests false p q o = refl

pub sign_law : (a : Float) (n : ℤ) → power_rule (neg a) n ≡ turned (odd (nat_abs n)) (power_rule a n)
unfolding power_rule
sign_law a n =
    rw (finite_turned a, all_turned a (nat_abs n), signed (odd (nat_abs n)) a n (by_bits a one a (bits (nat_abs n))))
    (tests (odd (nat_abs n)) (finite a) (leb (nat_abs n) 64) (then (by_bits a one a (bits (nat_abs n))) (by_sign a n)))
