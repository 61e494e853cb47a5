-- The power rule is the power of `looked` numbers checked once: a lost r stays lost, and the test before 1/r hides nothing. In order: one look, the bits taken,
-- how many of them there are does not matter above the highest, and the law. Assumes nothing.
use mathlib.Core.Path.{◌≡◌, refl, sym, ap, ◌∙◌}
use mathlib.Core.Bool.{Bool, true, false, not, ◌&&◌}
use mathlib.Core.List.{List, [], ◌∷◌}
use Prim.Native.Nat.{ℕ, zero, suc, ◌/◌, ◌*◌, ◌^◌, ◌<◌}
use native.Mathlib.Nat.{pow-suc}
use native.Mathlib.Omega.{arith}
use lib.Dec.{eqb, leb}
use lib.IntN.{ℤ, pos, negsuc, nat_abs}
use lib.Ieee.{Float, nan, inf, fin, binary64, size, mul, div}
use lib.Ieee.Digits.{size-lt}
use borrow.Author.Tests.{eqb-true}
use Rattle.common.specs.Outcome.{Outcome, finite, check, then}
use Rattle.common.proofs.Laws.{Lost, never, mul_left, check_kept, step}
use Rattle.sizes.specs.Lost.{subnormal, is_zero, looked}
use Rattle.rules.specs.Power.{one, odd, lowest, bits, check_power, by_bits, by_sign, power_rule}
use Rattle.rules.specs.Product.{taken, times}
use Rattle.rules.specs.RawPower.{over_bits, raw_higher_bits, raw_by_bits, by_sign_of, looked_power}

-- ---- one look

pub look_check : (a r : Float) → check_power a r ≡ check (looked a r)
look_check a r = go (subnormal r && not (is_zero a)) refl
  where
    go : (b : Bool) → (subnormal r && not (is_zero a)) ≡ b → check_power a r ≡ check (looked a r)
    go true e = rw e
    go false e = rw e

pub look_lost : (a r : Float) → Lost r → Lost (looked a r)
look_lost a nan l = refl
look_lost a (inf s) l = refl
look_lost a (fin s m e) l = never l

-- ---- the bits

pub bits_lost : (a r x : Float) (bs : List Bool) → Lost r → Lost (over_bits (looked a) r x bs)
unfolding over_bits
bits_lost a r x [] l = l
bits_lost a r x (true ∷ bs) l = bits_lost a (looked a (mul binary64 r x)) (mul binary64 x x) bs (look_lost a (mul binary64 r x) (mul_left r x l))
bits_lost a r x (false ∷ bs) l = bits_lost a r (mul binary64 x x) bs l

pub bits_check : (a r x : Float) (bs : List Bool) → finite r ≡ true → by_bits a r x bs ≡ check (over_bits (looked a) r x bs)
unfolding by_bits over_bits
bits_check a r x [] f = sym (check_kept r f)
bits_check a r x (true ∷ bs) f =
    let y = looked a (mul binary64 r x) in
    let x2 = mul binary64 x x in
    rw (look_check a (mul binary64 r x))
    (step y (λ z. by_bits a z x2 bs) (λ z. over_bits (looked a) z x2 bs) (λ g. bits_check a y x2 bs g) (bits_lost a y x2 bs))
bits_check a r x (false ∷ bs) f = bits_check a r (mul binary64 x x) bs f

-- ---- bits above the highest are not set

pub zeros : (f : Float → Float) (k : ℕ) (r x : Float) → over_bits f r x (lowest k 0) ≡ r
unfolding over_bits lowest
zeros f zero r x = refl
zeros f (suc k) r x = zeros f k r (mul binary64 x x)

pub enough : (f : Float → Float) (i j : ℕ) (r x : Float) (n : ℕ) → n < 2 ^ i → n < 2 ^ j → over_bits f r x (lowest i n) ≡ over_bits f r x (lowest j n)
unfolding over_bits lowest
enough f zero j r x n l h = let e : n ≡ 0 = omega arith in rw e (sym (zeros f j r x))
enough f (suc i) zero r x n l h = let e : n ≡ 0 = omega arith in rw e (zeros f (suc i) r x)
enough f (suc i) (suc j) r x n l h = enough f i j (taken f (odd n) r x) (mul binary64 x x) (n / 2) (half i l) (half j h)
  where
    half : (i : ℕ) → n < 2 ^ suc i → n / 2 < 2 ^ i
    half i h = let p : 2 ^ suc i ≡ 2 ^ i * 2 = pow-suc 2 i in omega arith

higher : (k : ℕ) (b : Bool) (r a : Float) (h : ℕ) → eqb h 0 ≡ b → raw_higher_bits k b r a h ≡ over_bits (λ r. r) r (mul binary64 a a) (lowest k h)
unfolding raw_higher_bits over_bits lowest
higher zero b r a h e = refl
higher (suc k) true r a h e = rw (eqb-true h 0 e) (sym (zeros (λ r. r) (suc k) r (mul binary64 a a)))
higher (suc k) false r a h e = higher k (eqb (h / 2) 0) (times (odd h) r (mul binary64 a a)) (mul binary64 a a) (h / 2) refl

-- with no look at r
pub lowest_bits : (k : ℕ) (r a : Float) (n : ℕ) → over_bits (λ r. r) r a (lowest (suc k) n) ≡ raw_by_bits k r a n
unfolding over_bits lowest
lowest_bits k r a n = sym (higher k (eqb (n / 2) 0) (times (odd n) r a) a (n / 2) refl)

pub by_bits_lem : (k : ℕ) (r a : Float) (n : ℕ) → n < 2 ^ suc k → over_bits (λ r. r) r a (bits n) ≡ raw_by_bits k r a n
by_bits_lem k r a n h = enough (λ r. r) (size n) (suc k) r a n (size-lt n) h ∙ lowest_bits k r a n

-- ---- one call of the code: no higher bit remains, or from its half on
pub last : (f : Float → Float) (k : ℕ) (r x : Float) (n : ℕ) → n / 2 ≡ 0 → over_bits f r x (lowest (suc k) n) ≡ taken f (odd n) r x
unfolding over_bits lowest
last f k r x n h = rw h (zeros f k (taken f (odd n) r x) (mul binary64 x x))

pub more : (f : Float → Float) (k : ℕ) (r x out : Float) (n : ℕ) → (n / 2 ≡ 0 → ⊥) → n < 2 ^ suc k
    → ((j : ℕ) → n / 2 < 2 ^ suc j → out ≡ over_bits f (taken f (odd n) r x) (mul binary64 x x) (lowest (suc j) (n / 2))) → out ≡ over_bits f r x (lowest (suc k) n)
unfolding over_bits lowest
more f zero r x out n h l e = absurd (h (omega arith))
more f (suc k) r x out n h l e =
    let half : n / 2 < 2 ^ suc k = let p : 2 ^ suc (suc k) ≡ 2 ^ suc k * 2 = pow-suc 2 (suc k) in omega arith in
    e k half

-- ---- the law

sign_check : (a : Float) (n : ℤ) (r : Float) → then (check r) (by_sign a n) ≡ check (by_sign_of (looked a) n r)
sign_check a (pos k) nan = refl
sign_check a (pos k) (inf s) = refl
sign_check a (pos k) (fin s m e) = refl
sign_check a (negsuc k) nan = refl
sign_check a (negsuc k) (inf s) = refl
sign_check a (negsuc k) (fin s m e) = look_check a (div binary64 one (fin s m e))

-- at a finite a and an n from -64 to 64
pub power_looked : (a : Float) (n : ℤ) → finite a ≡ true → leb (nat_abs n) 64 ≡ true → power_rule a n ≡ check (looked_power a n)
unfolding power_rule looked_power
power_looked a n fa small =
    rw (fa, small)
    (ap (λ (o : Outcome Float). then o (by_sign a n)) (bits_check a one a (bits (nat_abs n)) refl)
    ∙ sign_check a n (over_bits (looked a) one a (bits (nat_abs n))))
