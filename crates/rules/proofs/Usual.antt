-- Where no r on the way to a power can be lost, the power with no look at any is the rule's: at bases that are neither small nor large, at 0, and so at usual
-- ones. Assumes nothing.
use mathlib.Core.Path.{◌≡◌, refl, sym, ap, ◌∙◌, subst}
use mathlib.Core.Bool.{Bool, true, false}
use mathlib.Core.List.{List, [], ◌∷◌}
use Prim.Native.Nat.{ℕ, zero, suc, ◌+◌, ◌*◌, ◌/◌, ◌%◌, ◌^◌, ◌≤◌, ◌<◌}
use native.Mathlib.Nat.{le_trans, le_of_eq, mul-le-mul_left, zero-add}
use native.Mathlib.Omega.{arith}
use lib.Dec.{leb}
use lib.IntN.{ℤ, pos, negsuc, nat_abs}
use lib.Pow.{pow_mono}
use lib.Ieee.{Float, nan, inf, fin, binary64, up, down, size, mul, div}
use borrow.Author.Tests.{le-ltb, leb-true, eqb-true}
use Rattle.common.specs.Outcome.{finite, check, or_nan}
use Rattle.common.specs.Formula.{lost_or}
use Rattle.common.proofs.Formulas.{lost_or_finite}
use Rattle.common.proofs.Laws.{never, check_kept}
use Rattle.sizes.specs.Lost.{is_zero, looked}
use Rattle.sizes.specs.Usual.{usual_base}
use Rattle.sizes.proofs.Looks.{zero_looked}
use Rattle.sizes.proofs.Band.{Band, mul_band, inverse_band, usual_band}
use Rattle.sizes.proofs.Most.{Most, of_band, grown}
use Rattle.rules.specs.Power.{one, odd, lowest, bits, power_rule}
use Rattle.rules.specs.RawPower.{over_bits, by_sign_of, raw_by_sign, raw_power, looked_power}
use Rattle.rules.proofs.Powers.{by_bits_lem, power_looked}

-- a normal number is left as it is
looked_same : (k : ℕ) (a r : Float) → k ≤ 1022 → Band k r → looked a r ≡ r
looked_same k a nan h b = refl
looked_same k a (inf s) h b = refl
looked_same k a (fin s m e) h b =
    rw (le-ltb (m * up e * 2 ^ 1022) (down e) (le_trans b.least (mul-le-mul_left (m * up e) (pow_mono h))))

-- what the bits stand for
unfoldable weight : List Bool → ℕ
weight [] = 0
weight (true ∷ bs) = 1 + 2 * weight bs
weight (false ∷ bs) = 2 * weight bs

weight_lowest : (k n : ℕ) → weight (lowest k n) ≤ n
unfolding weight lowest
weight_lowest zero n = omega arith
weight_lowest (suc k) n = go (odd n) refl (weight_lowest k (n / 2))
  where
    grown : (n w : ℕ) → w ≤ n / 2 → n % 2 ≡ 1 → 1 + 2 * w ≤ n
    grown n w h o = omega arith

    doubled : (n w : ℕ) → w ≤ n / 2 → 2 * w ≤ n
    doubled n w h = omega arith

    go : (b : Bool) → odd n ≡ b → weight (lowest k (n / 2)) ≤ n / 2 → weight (b ∷ lowest k (n / 2)) ≤ n
    go true e half = grown n (weight (lowest k (n / 2))) half (eqb-true (n % 2) 1 e)
    go false e half = doubled n (weight (lowest k (n / 2))) half

-- r from 2^-i to 2^i and x from 2^-j to 2^j, as long as a set bit remains: so are the numbers on the way, and none is lost
pub record Same (a : Float) (bs : List Bool) (r x : Float) (k : ℕ) : Type 0 where
  pub equal : over_bits (looked a) r x bs ≡ over_bits (λ r. r) r x bs
  pub band : Band k (over_bits (looked a) r x bs)

same_bits : (a : Float) (bs : List Bool) (i j : ℕ) (r x : Float) → i + j * weight bs ≤ 1022 → Band i r → (0 < weight bs → Band j x) → Same a bs r x (i + j * weight bs)
unfolding over_bits weight
same_bits a [] i j r x h b c = record { equal = refl; band = subst (λ (k : ℕ). Band k r) (none i j) b }
  where
    none : (i j : ℕ) → i ≡ i + j * 0
    none i j = omega arith
same_bits a (true ∷ bs) i j r x h b c =
    let w = weight bs in
    let y = mul binary64 r x in
    let x-band = c (omega arith) in
    let y-band = mul_band i j r x (omega arith) b x-band in
    let s = same_bits a bs (i + j) (j + j) y (mul binary64 x x) (le_trans (le_of_eq (all i j w)) h) y-band (λ p. mul_band j j x x (pair i j w p h) x-band x-band) in
    let k = looked_same (i + j) a y (omega arith) y-band in
    record {
      equal = ap (λ (z : Float). over_bits (looked a) z (mul binary64 x x) bs) k ∙ s.equal;
      band = subst (λ (k : ℕ). Band k (over_bits (looked a) (looked a y) (mul binary64 x x) bs)) (all i j w) (subst (λ (z : Float). Band (i + j + (j + j) * w) (over_bits (looked a) z (mul binary64 x x) bs)) (sym k) s.band);
    }
  where
    all : (i j w : ℕ) → i + j + (j + j) * w ≡ i + j * (1 + 2 * w)
    all i j w = omega arith

    pair : (i j w : ℕ) → 0 < w → i + j * (1 + 2 * w) ≤ 1022 → j + j ≤ 1022
    pair i j zero p h = absurd (omega arith)
    pair i j (suc w) p h = omega arith
same_bits a (false ∷ bs) i j r x h b c =
    let w = weight bs in
    let s = same_bits a bs i (j + j) r (mul binary64 x x) (le_trans (le_of_eq (all i j w)) h) b (λ p. let x-band = c (omega arith) in mul_band j j x x (pair i j w p h) x-band x-band) in
    record { equal = s.equal; band = subst (λ (k : ℕ). Band k (over_bits (looked a) r (mul binary64 x x) bs)) (all i j w) s.band }
  where
    all : (i j w : ℕ) → i + (j + j) * w ≡ i + j * (2 * w)
    all i j w = omega arith

    pair : (i j w : ℕ) → 0 < w → i + j * (2 * w) ≤ 1022 → j + j ≤ 1022
    pair i j zero p h = absurd (omega arith)
    pair i j (suc w) p h = omega arith

-- so is 1/r, and it is not lost
pub record SameSign (a : Float) (n : ℤ) (r : Float) (k : ℕ) : Type 0 where
  pub equal : by_sign_of (looked a) n r ≡ raw_by_sign n r
  pub band : Band k (raw_by_sign n r)

same_sign : (a : Float) (n : ℤ) (k : ℕ) (r : Float) → k ≤ 1022 → Band k r → SameSign a n r k
same_sign a (pos n) k r h b = record { equal = refl; band = b }
same_sign a (negsuc n) k r h b =
    let c = inverse_band k r h b in
    record { equal = ap (lost_or r) (looked_same k a (div binary64 one r) h c); band = rw (lost_or_finite r (div binary64 one r) b.kept) c }

one_band : Band 0 one
one_band = record { kept = refl; least = omega arith; most = omega arith }

pub record SamePower (j : ℕ) (a : Float) (n : ℤ) : Type 0 where
  pub equal : looked_power a n ≡ raw_power a n
  pub most : Most (j * nat_abs n) (raw_power a n)

pub same_power : (j : ℕ) (a : Float) (n : ℤ) → Band j a → leb (nat_abs n) 64 ≡ true → j * nat_abs n ≤ 1022 → SamePower j a n
unfolding looked_power raw_power
same_power j a n b small far =
    let few : nat_abs n ≤ 64 = leb-true (nat_abs n) 64 small in
    let w = weight (bits (nat_abs n)) in
    let under : 0 + j * w ≤ j * nat_abs n = le_trans (le_of_eq (zero-add (j * w))) (mul-le-mul_left j (weight_lowest (size (nat_abs n)) (nat_abs n))) in
    let fits = le_trans under far in
    let s = same_bits a (bits (nat_abs n)) 0 j one a fits one_band (λ _. b) in
    let t = same_sign a n (0 + j * w) (over_bits (looked a) one a (bits (nat_abs n))) fits s.band in
    let e = ap (raw_by_sign n) (s.equal ∙ by_bits_lem 31 one a (nat_abs n) (omega arith)) in
    record { equal = t.equal ∙ e; most = grown (j * nat_abs n) under (of_band (subst (Band (0 + j * w)) e t.band)) }

-- ---- the law, for an n from -64 to 64: at a base from 2^-j to 2^j in size, where 2^(j*|n|) is a normal f64

pub power_band : (j : ℕ) (a : Float) (n : ℤ) → Band j a → leb (nat_abs n) 64 ≡ true → j * nat_abs n ≤ 1022 → power_rule a n ≡ check (raw_power a n)
power_band j a n b small far = power_looked a n b.kept small ∙ ap check (same_power j a n b small far).equal

-- at 0, of which nothing is subnormal
zero_bits : (a r x : Float) (bs : List Bool) → is_zero a ≡ true → over_bits (looked a) r x bs ≡ over_bits (λ r. r) r x bs
unfolding over_bits
zero_bits a r x [] z = refl
zero_bits a r x (true ∷ bs) z =
    ap (λ (y : Float). over_bits (looked a) y (mul binary64 x x) bs) (sym (zero_looked a (mul binary64 r x) z)) ∙ zero_bits a (mul binary64 r x) (mul binary64 x x) bs z
zero_bits a r x (false ∷ bs) z = zero_bits a r (mul binary64 x x) bs z

zero_sign : (a : Float) (n : ℤ) (r : Float) → is_zero a ≡ true → by_sign_of (looked a) n r ≡ raw_by_sign n r
zero_sign a (pos n) r z = refl
zero_sign a (negsuc n) r z = ap (lost_or r) (sym (zero_looked a (div binary64 one r) z))

zero_finite : (a : Float) → is_zero a ≡ true → finite a ≡ true
zero_finite nan z = never (sym z)
zero_finite (inf s) z = never (sym z)
zero_finite (fin s m e) z = refl

pub power_zero : (a : Float) (n : ℤ) → is_zero a ≡ true → leb (nat_abs n) 64 ≡ true → power_rule a n ≡ check (raw_power a n)
unfolding looked_power raw_power
power_zero a n z small =
    let few : nat_abs n ≤ 64 = leb-true (nat_abs n) 64 small in
    power_looked a n (zero_finite a z) small
    ∙ ap check (zero_sign a n (over_bits (looked a) one a (bits (nat_abs n))) z
    ∙ ap (raw_by_sign n) (zero_bits a one a (bits (nat_abs n)) z ∙ by_bits_lem 31 one a (nat_abs n) (omega arith)))

-- at a usual base, for any such n
pub usual_finite : (a : Float) → usual_base a ≡ true → finite a ≡ true
usual_finite a u = (usual_band a u).kept

pub power_usual : (a : Float) (n : ℤ) → usual_base a ≡ true → leb (nat_abs n) 64 ≡ true → power_rule a n ≡ check (raw_power a n)
power_usual a n u small = power_band 15 a n (usual_band a u) small (omega (arith, leb-true (nat_abs n) 64 small))

-- and its raw form is the power with no look at it
pub usual_raw : (a : Float) (n : ℤ) → usual_base a ≡ true → leb (nat_abs n) 64 ≡ true → or_nan (power_rule a n) ≡ raw_power a n
usual_raw a n u small =
    ap or_nan (power_usual a n u small ∙ check_kept (raw_power a n) (same_power 15 a n (usual_band a u) small (omega (arith, leb-true (nat_abs n) 64 small))).most.kept)
