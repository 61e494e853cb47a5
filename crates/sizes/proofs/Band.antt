-- Numbers from 2^-k to 2^k in size: a product of two such is from 2^-(j+k) to 2^(j+k), and 1 divided by one is where that one is, as long as these
-- powers of two are normal f64s. For they are f64s, and rounding keeps the order. In order: a rounded fraction, the product, the quotient, and what the
-- test of a base says. Assumes nothing.
use mathlib.Core.Path.{◌≡◌, refl, sym, ap, ◌∙◌, subst}
use mathlib.Core.Bool.{Bool, true, false, ◌&&◌, cond}
use Prim.Native.Nat.{ℕ, zero, suc, ◌+◌, ◌-◌, ◌*◌, ◌/◌, ◌%◌, ◌^◌, ◌≤◌, ◌<◌, compare}
use native.Mathlib.Nat.{le_trans, le_of_eq, le_of_lt, mul-one, one-mul, mul-pos, mul-le-mul, mul-mul-mul_comm}
use native.Mathlib.Omega.{arith}
use lib.Dec.{T, ltb, leb}
use lib.IntN.{ℤ, pos, negsuc}
use lib.Pow.{pow-add, pow_pos, pow-lt}
use lib.Ieee.{Float, nan, inf, fin, Format, binary64, prec, emax, low, up, down, size, nearest, odd, units, round, mul, div, le, unlike}
use lib.Ieee.Fits.{down_pos, and_l, and_r}
use lib.Ieee.Exact.{HasValue, round_exact}
use lib.Ieee.Order.{round_mono}
use lib.Ieee.Positive.{num, den, positive, own_value, positive_of_value, values_of_le, between, le_trans_positive}
use borrow.Author.Tests.{ne_eqb, leb-true, leb-false}
use Rattle.common.specs.Outcome.{finite}
use Rattle.common.proofs.Ranges.{positive_kept}
use Rattle.sizes.specs.Usual.{usual_base}

pub no : false ≡ true → ⊥
no e = subst T (sym e) tt

-- a law of two finite numbers, from their parts
pub of_finite : (P : Float → Float → Type 0) (x y : Float) → finite x ≡ true → finite y ≡ true → ((s : Bool) (m : ℕ) (e : ℤ) (t : Bool) (n : ℕ) (d : ℤ) → P (fin s m e) (fin t n d)) → P x y
of_finite P nan y p q law = absurd (no p)
of_finite P (inf s) y p q law = absurd (no p)
of_finite P (fin s m e) nan p q law = absurd (no q)
of_finite P (fin s m e) (inf t) p q law = absurd (no q)
of_finite P (fin s m e) (fin t n d) p q law = law s m e t n d

-- x is finite, and from 2^-k to 2^k in size
pub record Band (k : ℕ) (x : Float) : Type 0 where
  pub kept : finite x ≡ true
  pub least : den x ≤ num x * 2 ^ k
  pub most : num x ≤ 2 ^ k * den x

-- ---- a rounded fraction

few : 2 ^ 0 < 2 ^ 53
few = pow-lt {i = 0} {j = 53} (omega arith)

-- 2^-i and 2^i are f64s
lowest : (i : ℕ) → i ≤ 1022 → HasValue (round binary64 false 1 (2 ^ i)) false 1 (2 ^ i)
lowest i h = round_exact binary64 false 1 (2 ^ i) 1 (1074 - i) (pow_pos i) few (fine 1074 2098 i (omega arith)) (split 1074 i (omega arith))
  where
    split : (l i : ℕ) → i ≤ l → 1 * 2 ^ l ≡ 1 * 2 ^ (l - i) * 2 ^ i
    split l i h =
        let e : l - i + i ≡ l = omega arith in
        let p : 2 ^ (l - i + i) ≡ 2 ^ (l - i) * 2 ^ i = pow-add 2 (l - i) i in
        let q : 2 ^ l ≡ 2 ^ (l - i) * 2 ^ i = subst (λ (x : ℕ). 2 ^ x ≡ 2 ^ (l - i) * 2 ^ i) e p in
        omega arith

    fine : (l t i : ℕ) → l < t → 1 * 2 ^ (l - i) < 2 ^ t
    fine l t i h = let p : 2 ^ (l - i) < 2 ^ t = pow-lt (omega arith) in omega arith

pub highest : (i : ℕ) → i ≤ 1022 → HasValue (round binary64 false (2 ^ i) 1) false (2 ^ i) 1
highest i h = round_exact binary64 false (2 ^ i) 1 1 (i + 1074) (pow_pos 0) few (fine (i + 1074) 2098 (omega arith)) (split 1074 i)
  where
    split : (l i : ℕ) → 2 ^ i * 2 ^ l ≡ 1 * 2 ^ (i + l) * 1
    split l i = let p : 2 ^ (i + l) ≡ 2 ^ i * 2 ^ l = pow-add 2 i l in omega arith

    fine : (l t : ℕ) → l < t → 1 * 2 ^ l < 2 ^ t
    fine l t h = let p : 2 ^ l < 2 ^ t = pow-lt h in omega arith

-- the sign does not change the size
pub record Alike (x y : Float) : Type 0 where
  pub lost : finite x ≡ finite y
  pub over : num x ≡ num y
  pub under : den x ≡ den y

odd_size : (d q k l : ℕ) (s : Bool) → Alike (odd d s q k l) (odd d false q k l)
unfolding odd
odd_size d zero k l s = record { lost = refl; over = refl; under = refl }
odd_size d (suc q) k l s = record { lost = refl; over = refl; under = refl }

units_size : (f : Format) (q k : ℕ) (s : Bool) → Alike (units f s q k) (units f false q k)
unfolding units
units_size f q k s = go (ltb (q * 2 ^ k) (2 ^ (low f + suc (emax f))))
  where
    go : (b : Bool) → Alike (cond b (odd (suc (prec f)) s q k (low f)) (inf s)) (cond b (odd (suc (prec f)) false q k (low f)) (inf false))
    go true = odd_size (suc (prec f)) q k (low f) s
    go false = record { lost = refl; over = refl; under = refl }

pub round_size : (a c : ℕ) (s : Bool) → Alike (round binary64 s a c) (round binary64 false a c)
unfolding round
round_size a c s =
    let n = a * 2 ^ low binary64 in
    let k = size (n / c) - prec binary64 in
    let u = c * 2 ^ k in
    units_size binary64 (nearest (n / u) (compare (n % u * 2) u)) k s

alike_band : (k : ℕ) (x y : Float) → Alike x y → Band k y → Band k x
alike_band k x y e b = record {
  kept = e.lost ∙ b.kept;
  least = rw (e.over, e.under) b.least;
  most = rw (e.over, e.under) b.most;
}

pub round_band : (k a c : ℕ) (s : Bool) → k ≤ 1022 → 0 < c → c ≤ a * 2 ^ k → a ≤ 2 ^ k * c → Band k (round binary64 s a c)
round_band k a c s h C p q =
    let lo = round binary64 false 1 (2 ^ k) in
    let hi = round binary64 false (2 ^ k) 1 in
    let z = round binary64 false a c in
    let lo-is = lowest k h in
    let hi-is = highest k h in
    let above : T (le lo z) = round_mono binary64 1 (2 ^ k) a c (pow_pos k) C (le_trans (le_of_eq (one-mul c)) p) in
    let below : T (le z hi) = round_mono binary64 a c (2 ^ k) 1 C (pow_pos 0) (le_trans (le_of_eq (mul-one a)) q) in
    let lo-pos = positive_of_value lo 1 (2 ^ k) lo-is (pow_pos 0) in
    let hi-pos = positive_of_value hi (2 ^ k) 1 hi-is (pow_pos k) in
    let pos = between lo z hi lo-pos hi-pos above below in
    let l = values_of_le lo z 1 (2 ^ k) (num z) (den z) lo-pos pos lo-is (own_value z pos) above in
    let m = values_of_le z hi (num z) (den z) (2 ^ k) 1 pos hi-pos (own_value z pos) hi-is below in
    alike_band k (round binary64 s a c) z (round_size a c s) (record { kept = positive_kept z pos; least = le_trans (le_of_eq (sym (one-mul (den z)))) l; most = le_trans (le_of_eq (sym (mul-one (num z)))) m })

-- ---- a product

crossed : (a b c d j k J K JK : ℕ) → JK ≡ J * K → c ≤ a * J → d ≤ b * K → c * d ≤ a * b * JK
crossed a b c d j k J K JK e p q =
    let m : c * d ≤ a * J * (b * K) = mul-le-mul p q in
    le_trans m (le_of_eq (mul-mul-mul_comm a J b K ∙ ap (λ (x : ℕ). a * b * x) (sym e)))

pub crossed' : (a b c d j k J K JK : ℕ) → JK ≡ J * K → a ≤ J * c → b ≤ K * d → a * b ≤ JK * (c * d)
crossed' a b c d j k J K JK e p q =
    let m : a * b ≤ J * c * (K * d) = mul-le-mul p q in
    le_trans m (le_of_eq (mul-mul-mul_comm J c K d ∙ ap (λ (x : ℕ). x * (c * d)) (sym e)))

pub mul_band : (j k : ℕ) (x y : Float) → j + k ≤ 1022 → Band j x → Band k y → Band (j + k) (mul binary64 x y)
unfolding mul
mul_band j k x y h b c = of_finite (λ x y. Band j x → Band k y → Band (j + k) (mul binary64 x y)) x y b.kept c.kept by_parts b c
  where
    by_parts : (s : Bool) (m : ℕ) (e : ℤ) (t : Bool) (n : ℕ) (d : ℤ) → Band j (fin s m e) → Band k (fin t n d) → Band (j + k) (mul binary64 (fin s m e) (fin t n d))
    by_parts s m e t n d b c =
        round_band (j + k) (m * up e * (n * up d)) (down e * down d) (unlike s t) h (mul-pos (down_pos e) (down_pos d))
        (crossed (m * up e) (n * up d) (down e) (down d) j k (2 ^ j) (2 ^ k) (2 ^ (j + k)) (pow-add 2 j k) b.least c.least)
        (crossed' (m * up e) (n * up d) (down e) (down d) j k (2 ^ j) (2 ^ k) (2 ^ (j + k)) (pow-add 2 j k) b.most c.most)

-- ---- 1 divided by a number

first_above : (n u D K : ℕ) → 0 < D → D ≤ n * u * K → n ≡ 0 → ⊥
first_above n u D K p h e = none u K D p (subst (λ (x : ℕ). D ≤ x * u * K) e h)
  where
    none : (u K D : ℕ) → 0 < D → D ≤ 0 * u * K → ⊥
    none u K D p h = omega arith

above : (x D K : ℕ) → 0 < D → D ≤ x * K → 0 < x
above zero D K p h = absurd (omega arith)
above (suc x) D K p h = omega arith

pub inverse_band : (k : ℕ) (y : Float) → k ≤ 1022 → Band k y → Band k (div binary64 (fin false 1 (pos 0)) y)
unfolding div
inverse_band k nan h b = absurd (no b.kept)
inverse_band k (inf s) h b = absurd (no b.kept)
inverse_band k (fin t n d) h b =
    rw (ne_eqb n 0 (first_above n (up d) (down d) (2 ^ k) (down_pos d) b.least))
    (round_band k (1 * 1 * down d) (n * up d * 1) (unlike false t) h (above (n * up d * 1) (down d) (2 ^ k) (down_pos d) (omega (arith, b.least)))
    (omega (arith, b.most)) (omega (arith, b.least)))

-- ---- the test of a base

abbrev bottom : Float
bottom = fin false 1 (negsuc 27)

abbrev top : Float
top = fin false 1 (pos 28)

by_square : (s : Bool) (m : ℕ) (e : ℤ) → let z = round binary64 false (m * up e * (m * up e)) (down e * down e) in T (le bottom z) → T (le z top) → Band 15 (fin s m e)
by_square s m e l h = record { kept = refl; least = least (leb C (A * 2 ^ 15)) refl; most = most (leb A (2 ^ 15 * C)) refl }
  where
    A : ℕ
    A = m * up e

    C : ℕ
    C = down e

    z : Float
    z = round binary64 false (A * A) (C * C)

    CC : 0 < C * C
    CC = mul-pos (down_pos e) (down_pos e)

    z_pos : T (positive z)
    z_pos = between bottom z top tt tt l h

    least : (b : Bool) → leb C (A * 2 ^ 15) ≡ b → C ≤ A * 2 ^ 15
    least true p = leb-true C (A * 2 ^ 15) p
    least false p =
        let q = le_of_lt (leb-false C (A * 2 ^ 15) p) in
        let t : A * A * 2 ^ 30 ≤ 1 * (C * C) = le_trans (le_of_eq (sym (mul-mul-mul_comm A (2 ^ 15) A (2 ^ 15)))) (le_trans (mul-le-mul q q) (le_of_eq (sym (one-mul (C * C))))) in
        let lo = round binary64 false 1 (2 ^ 30) in
        let lo-is = lowest 30 (omega arith) in
        let lo-pos = positive_of_value lo 1 (2 ^ 30) lo-is (pow_pos 0) in
        let u = le_trans_positive bottom z lo tt z_pos lo-pos l (round_mono binary64 (A * A) (C * C) 1 (2 ^ 30) CC (pow_pos 30) t) in
        absurd (omega (arith, values_of_le bottom lo 1 (2 ^ 28) 1 (2 ^ 30) tt lo-pos (refl, refl) lo-is u))

    most : (b : Bool) → leb A (2 ^ 15 * C) ≡ b → A ≤ 2 ^ 15 * C
    most true p = leb-true A (2 ^ 15 * C) p
    most false p =
        let q = le_of_lt (leb-false A (2 ^ 15 * C) p) in
        let t : 2 ^ 30 * (C * C) ≤ A * A * 1 = le_trans (le_of_eq (sym (mul-mul-mul_comm (2 ^ 15) C (2 ^ 15) C))) (le_trans (mul-le-mul q q) (le_of_eq (sym (mul-one (A * A))))) in
        let hi = round binary64 false (2 ^ 30) 1 in
        let hi-is = highest 30 (omega arith) in
        let hi-pos = positive_of_value hi (2 ^ 30) 1 hi-is (pow_pos 30) in
        let u = le_trans_positive hi z top hi-pos z_pos tt (round_mono binary64 (2 ^ 30) 1 (A * A) (C * C) (pow_pos 0) CC t) h in
        absurd (omega (arith, values_of_le hi top (2 ^ 30) 1 (2 ^ 28) 1 hi-pos tt hi-is (refl, refl) u))

both_sides : (s : Bool) (m : ℕ) (e : ℤ) → let z = round binary64 false (m * up e * (m * up e)) (down e * down e) in T (le bottom z && le z top) → Band 15 (fin s m e)
both_sides s m e t =
    let z = round binary64 false (m * up e * (m * up e)) (down e * down e) in
    by_square s m e (and_l (le bottom z) (le z top) t) (and_r (le bottom z) (le z top) t)

pub usual_band : (a : Float) → usual_base a ≡ true → Band 15 a
unfolding usual_base mul le
usual_band nan h = absurd (no h)
usual_band (inf true) h = absurd (no h)
usual_band (inf false) h = absurd (no h)
usual_band (fin true m e) h = both_sides true m e (subst T (sym h) tt)
usual_band (fin false m e) h = both_sides false m e (subst T (sym h) tt)
