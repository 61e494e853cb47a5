-- Numbers that are finite and at most 2^k in size: a product of two such is at most the product in size, a sum twice the larger, as long as these powers
-- of two are f64s. So a sum of few terms that are not large is not lost. In order: a rounded fraction, the product, the sum. Assumes nothing.
use mathlib.Core.Path.{◌≡◌, refl, sym, ap, ◌∙◌}
use mathlib.Core.Bool.{Bool, true, false, not, ◌&&◌, beq, cond}
use Prim.Native.Nat.{ℕ, zero, suc, ◌+◌, ◌-◌, ◌*◌, ◌/◌, ◌%◌, ◌^◌, ◌≤◌, ◌<◌, compare}
use native.Mathlib.Nat.{le_trans, le_of_eq, mul-one, mul-pos, mul_comm, mul_assoc, mul_right_comm, mul-le-mul_right, zero-lt-suc}
use native.Mathlib.Omega.{arith}
use lib.Dec.{T, ltb, lt→ltb}
use lib.IntN.{ℤ}
use lib.Pow.{pow-add, pow_pos, pow_mono}
use lib.Ieee.{Float, nan, inf, fin, binary64, prec, emax, low, up, down, size, nearest, odd, units, round, neg, sum, add, sub, mul, le, unlike}
use lib.Ieee.Fits.{down_pos}
use lib.Ieee.Exact.{HasValue}
use lib.Ieee.Order.{round_mono}
use lib.Ieee.Positive.{num, den, positive, own_value, positive_of_value, values_of_le}
use Rattle.common.specs.Outcome.{finite}
use Rattle.sizes.proofs.Band.{Band, of_finite, highest, round_size, crossed', no}

-- x is finite, and at most 2^k in size
pub record Most (k : ℕ) (x : Float) : Type 0 where
  pub kept : finite x ≡ true
  pub most : num x ≤ 2 ^ k * den x

pub of_band : {k : ℕ} {x : Float} → Band k x → Most k x
of_band b = record { kept = b.kept; most = b.most }

pub grown : {j : ℕ} (k : ℕ) {x : Float} → j ≤ k → Most j x → Most k x
grown k {x} h b = record { kept = b.kept; most = le_trans b.most (mul-le-mul_right (den x) (pow_mono h)) }

-- ---- a rounded fraction

abbrev unsigned : Float → Bool
unsigned nan = false
unsigned (inf s) = not s
unsigned (fin s m e) = not s

odd_unsigned : (d q k l : ℕ) → T (unsigned (odd d false q k l))
unfolding odd
odd_unsigned d zero k l = tt
odd_unsigned d (suc q) k l = tt

round_unsigned : (a c : ℕ) → T (unsigned (round binary64 false a c))
unfolding round units
round_unsigned a c =
    let n = a * 2 ^ low binary64 in
    let k = size (n / c) - prec binary64 in
    let u = c * 2 ^ k in
    let q = nearest (n / u) (compare (n % u * 2) u) in
    go q k (ltb (q * 2 ^ k) (2 ^ (low binary64 + suc (emax binary64))))
  where
    go : (q k : ℕ) (b : Bool) → T (unsigned (cond b (odd (suc (prec binary64)) false q k (low binary64)) (inf false)))
    go q k true = odd_unsigned (suc (prec binary64)) q k (low binary64)
    go q k false = tt

-- no infinity is at most a number
beyond : (hi : Float) → T (positive hi) → T (le (inf false) hi) → ⊥
unfolding le
beyond nan p h = absurd p
beyond (inf t) p h = absurd p
beyond (fin t n d) p h = absurd h

none : (u x : ℕ) → 0 * u ≤ x
none u x = omega arith

upto : (k : ℕ) (z hi : Float) → T (unsigned z) → T (positive hi) → HasValue hi false (2 ^ k) 1 → T (le z hi) → Most k z
upto k nan hi u p v h = absurd u
upto k (inf true) hi u p v h = absurd u
upto k (inf false) hi u p v h = absurd (beyond hi p h)
upto k (fin true m e) hi u p v h = absurd u
upto k (fin false zero e) hi u p v h = record { kept = refl; most = none (up e) (2 ^ k * down e) }
upto k (fin false (suc m) e) hi u p v h =
    let z = fin false (suc m) e in
    let pos : T (positive z) = lt→ltb 0 (suc m) (zero-lt-suc m) in
    record { kept = refl; most = le_trans (le_of_eq (sym (mul-one (suc m * up e)))) (values_of_le z hi (suc m * up e) (down e) (2 ^ k) 1 pos p (own_value z pos) v h) }

pub round_most : (k a c : ℕ) (s : Bool) → k ≤ 1022 → 0 < c → a ≤ 2 ^ k * c → Most k (round binary64 s a c)
round_most k a c s h C q =
    let z = round binary64 false a c in
    let hi = round binary64 false (2 ^ k) 1 in
    let hi-is = highest k h in
    let hi-pos = positive_of_value hi (2 ^ k) 1 hi-is (pow_pos k) in
    let m = upto k z hi (round_unsigned a c) hi-pos hi-is (round_mono binary64 a c (2 ^ k) 1 C (pow_pos 0) (le_trans (le_of_eq (mul-one a)) q)) in
    let e = round_size a c s in
    record { kept = e.lost ∙ m.kept; most = rw (e.over, e.under) m.most }

-- ---- a product

pub mul_most : (j k : ℕ) (x y : Float) → j + k ≤ 1022 → Most j x → Most k y → Most (j + k) (mul binary64 x y)
unfolding mul
mul_most j k x y h b c = of_finite (λ x y. Most j x → Most k y → Most (j + k) (mul binary64 x y)) x y b.kept c.kept by_parts b c
  where
    by_parts : (s : Bool) (m : ℕ) (e : ℤ) (t : Bool) (n : ℕ) (d : ℤ) → Most j (fin s m e) → Most k (fin t n d) → Most (j + k) (mul binary64 (fin s m e) (fin t n d))
    by_parts s m e t n d b c =
        round_most (j + k) (m * up e * (n * up d)) (down e * down d) (unlike s t) h (mul-pos (down_pos e) (down_pos d))
        (crossed' (m * up e) (n * up d) (down e) (down d) j k (2 ^ j) (2 ^ k) (2 ^ (j + k)) (pow-add 2 j k) b.most c.most)

-- ---- a sum

twice : (a b x : ℕ) → a ≤ x → b ≤ x → a + b ≤ x * 2
twice a b x p q = omega arith

less : (a b x : ℕ) → a + b ≤ x → a - b ≤ x
less a b x p = omega arith

turned : (a b x : ℕ) → a + b ≤ x → b - a ≤ x
turned a b x p = omega arith

sum_most : (k a b c : ℕ) (s t : Bool) → k + 1 ≤ 1022 → 0 < c → a ≤ 2 ^ k * c → b ≤ 2 ^ k * c → Most (k + 1) (sum binary64 s a t b c)
unfolding sum
sum_most k a b c s t h C p q = go (beq s t) (ltb a b) (s && ltb b a)
  where
    both : a + b ≤ 2 ^ (k + 1) * c
    both = le_trans (twice a b (2 ^ k * c) p q) (le_of_eq (mul_right_comm (2 ^ k) c 2 ∙ ap (λ (x : ℕ). x * c) (sym (pow-add 2 k 1))))

    go : (x y z : Bool) → Most (k + 1) (cond x (round binary64 s (a + b) c) (cond y (round binary64 t (b - a) c) (round binary64 z (a - b) c)))
    go true y z = round_most (k + 1) (a + b) c s h C both
    go false true z = round_most (k + 1) (b - a) c t h C (turned a b (2 ^ (k + 1) * c) both)
    go false false z = round_most (k + 1) (a - b) c z h C (less a b (2 ^ (k + 1) * c) both)

pub add_most : (k : ℕ) (x y : Float) → k + 1 ≤ 1022 → Most k x → Most k y → Most (k + 1) (add binary64 x y)
unfolding add
add_most k x y h b c = of_finite (λ x y. Most k x → Most k y → Most (k + 1) (add binary64 x y)) x y b.kept c.kept by_parts b c
  where
    by_parts : (s : Bool) (m : ℕ) (e : ℤ) (t : Bool) (n : ℕ) (d : ℤ) → Most k (fin s m e) → Most k (fin t n d) → Most (k + 1) (add binary64 (fin s m e) (fin t n d))
    by_parts s m e t n d b c =
        sum_most k (m * up e * down d) (n * up d * down e) (down e * down d) s t h (mul-pos (down_pos e) (down_pos d))
        (le_trans (mul-le-mul_right (down d) b.most) (le_of_eq (mul_assoc (2 ^ k) (down e) (down d))))
        (le_trans (mul-le-mul_right (down e) c.most) (le_of_eq (mul_assoc (2 ^ k) (down d) (down e) ∙ ap (λ (x : ℕ). 2 ^ k * x) (mul_comm (down d) (down e)))))

neg_most : {k : ℕ} (x : Float) → Most k x → Most k (neg x)
unfolding neg
neg_most nan b = absurd (no b.kept)
neg_most (inf s) b = absurd (no b.kept)
neg_most (fin s m e) b = record { kept = refl; most = b.most }

pub sub_most : (k : ℕ) (x y : Float) → k + 1 ≤ 1022 → Most k x → Most k y → Most (k + 1) (sub binary64 x y)
unfolding sub
sub_most k x y h b c = add_most k x (neg y) h b (neg_most y c)
