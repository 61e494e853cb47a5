-- The doubling law at a base of 0: its double is the same 0, and so is every power but the one at 0, which is 1. Assumes nothing.
use mathlib.Core.Path.{◌≡◌, refl, sym, ap, ◌∙◌, subst}
use mathlib.Core.Bool.{Bool, true, false}
use mathlib.Core.List.{List, [], ◌∷◌}
use Prim.Native.Nat.{ℕ, zero, suc, ◌*◌, ◌/◌, ◌^◌, ◌≤◌, ◌<◌}
use native.Mathlib.Nat.{mul-pos}
use native.Mathlib.Omega.{arith}
use lib.Dec.{T}
use lib.IntN.{pos}
use lib.Pow.{pow_pos}
use lib.Ieee.{Float, nan, inf, fin, binary64, up, down, size, round, mul, fits, unlike}
use lib.Ieee.Digits.{size-lt, size_reaches}
use lib.Ieee.Exact.{HasValue, round_exact}
use lib.Ieee.Fits.{up_pos, down_pos, mul-fits}
use borrow.Author.Tests.{eqb-true, eq-eqb, le-leb}
use Rattle.common.specs.Outcome.{value, finite, check}
use Rattle.common.proofs.Laws.{never, check_kept}
use Rattle.sizes.specs.Lost.{is_zero}
use Rattle.rules.specs.Power.{one, odd, lowest, bits, power_rule}
use Rattle.rules.specs.RawPower.{over_bits, raw_power}
use Rattle.rules.proofs.Powers.{by_bits_lem}
use Rattle.rules.proofs.Usual.{power_zero}
use Rattle.rules.proofs.Fields as fields
use Rattle.power_laws.specs.Laws.{Scaled, two_to, Doubled}
use Rattle.power_laws.proofs.Doubling.{ends}
use Rattle.power_laws.proofs.Doubles.{as_product, twice, fits_bits, one_fits}
use Rattle.power_laws.proofs.Products.{highest, top}

-- ---- a product with 0

no_size : (m u : ℕ) → 0 < u → m * u ≡ 0 → m ≡ 0
no_size zero u p h = refl
no_size (suc m) u p h = absurd (none (suc m * u) h (mul-pos (first m) p))
  where
    first : (m : ℕ) → 0 < suc m
    first m = omega arith

    none : (x : ℕ) → x ≡ 0 → 0 < x → ⊥
    none x e l = omega arith

of_value : (z : Float) (s : Bool) (D : ℕ) → 0 < D → HasValue z s 0 D → is_zero z ≡ true
of_value nan s D p v = absurd v
of_value (inf t) s D p v = absurd v
of_value (fin t m e) s D p v = eq-eqb m 0 (no_size m (up e) (up_pos e) (no_size (m * up e) D p (v.1 ∙ gone (down e))))
  where
    gone : (d : ℕ) → 0 * d ≡ 0
    gone d = omega arith

round_zero : (s : Bool) (N D : ℕ) → 0 < D → N ≡ 0 → is_zero (round binary64 s N D) ≡ true
round_zero s N D p h =
    ap (λ (x : ℕ). is_zero (round binary64 s x D)) h
    ∙ of_value (round binary64 s 0 D) s D p (round_exact binary64 s 0 D 0 0 p (pow_pos 53) (pow_pos 2098) (level (2 ^ 1074) D))
  where
    level : (l d : ℕ) → 0 * l ≡ 0 * 1 * d
    level l d = omega arith

mul_zero : (r x : Float) → finite r ≡ true → is_zero x ≡ true → is_zero (mul binary64 r x) ≡ true
unfolding mul
mul_zero nan x f h = never (sym f)
mul_zero (inf s) x f h = never (sym f)
mul_zero (fin s m e) nan f h = never (sym h)
mul_zero (fin s m e) (inf t) f h = never (sym h)
mul_zero (fin s m e) (fin t n d) f h =
    round_zero (unlike s t) (m * up e * (n * up d)) (down e * down d) (mul-pos (down_pos e) (down_pos d))
    (ap (λ (k : ℕ). m * up e * (k * up d)) (eqb-true n 0 h) ∙ gone (m * up e) (up d))
  where
    gone : (a u : ℕ) → a * (0 * u) ≡ 0
    gone a u = omega arith

zero_finite : (x : Float) → is_zero x ≡ true → finite x ≡ true
zero_finite nan h = never (sym h)
zero_finite (inf s) h = never (sym h)
zero_finite (fin s m e) h = refl

-- ---- the bits

both_zero : (r x : Float) (bs : List Bool) → is_zero r ≡ true → is_zero x ≡ true → is_zero (over_bits (λ r. r) r x bs) ≡ true
unfolding over_bits
both_zero r x [] h k = h
both_zero r x (true ∷ bs) h k =
    both_zero (mul binary64 r x) (mul binary64 x x) bs (mul_zero r x (zero_finite r h) k) (mul_zero x x (zero_finite x k) k)
both_zero r x (false ∷ bs) h k = both_zero r (mul binary64 x x) bs h (mul_zero x x (zero_finite x k) k)

taken_up : (x : Float) (b : Bool) (bs : List Bool) → is_zero x ≡ true → T (highest b bs) → is_zero (over_bits (λ r. r) one x (b ∷ bs)) ≡ true
unfolding over_bits highest
taken_up x true [] k t = mul_zero one x refl k
taken_up x false [] k t = absurd t
taken_up x true (c ∷ cs) k t = both_zero (mul binary64 one x) (mul binary64 x x) (c ∷ cs) (mul_zero one x refl k) (mul_zero x x (zero_finite x k) k)
taken_up x false (c ∷ cs) k t = taken_up (mul binary64 x x) c cs (mul_zero x x (zero_finite x k) k) t

scaled_zero : (k : ℕ) (x : Float) → is_zero x ≡ true → Scaled k x x
scaled_zero k nan h = never (sym h)
scaled_zero k (inf s) h = never (sym h)
scaled_zero k (fin s m e) h = (refl, rw (eqb-true m 0 h) (level (up e) (down e) (2 ^ k)))
  where
    level : (u d p : ℕ) → 0 * u * d ≡ 0 * u * p * d
    level u d p = ap (λ (x : ℕ). x * d) (none u ∙ sym (ap (λ (x : ℕ). x * p) (none u) ∙ none p))
      where
        none : (u : ℕ) → 0 * u ≡ 0
        none u = omega arith

one_scaled : (n : ℕ) → n ≡ 0 → Scaled n one one
one_scaled n e = (refl, ap (λ (k : ℕ). 1 * 1 * 2 ^ k * 1) (sym e))

pub zero_power : (a : Float) (n : ℕ) → is_zero a ≡ true → Scaled n (over_bits (λ r. r) one a (bits n)) (over_bits (λ r. r) one a (bits n))
zero_power a n h = go (size n) (size-lt n) (size_reaches n)
  where
    go : (k : ℕ) → n < 2 ^ k → ((j : ℕ) → j < k → 2 ^ j ≤ n) → Scaled n (over_bits (λ r. r) one a (lowest k n)) (over_bits (λ r. r) one a (lowest k n))
    go zero l r = unfold over_bits lowest in one_scaled n (omega arith)
    go (suc k) l r =
        scaled_zero n (over_bits (λ r. r) one a (lowest (suc k) n)) (unfold lowest in taken_up a (odd n) (lowest k (n / 2)) h (top k n (r k (omega arith)) l))

-- ---- twice 0 is that 0

pub twice_zero : (a b : Float) → T (fits binary64 a) → T (fits binary64 b) → is_zero a ≡ true → Scaled 1 a b → b ≡ a
twice_zero nan b f g h u = never (sym h)
twice_zero (inf s) b f g h u = never (sym h)
twice_zero (fin s m e) nan f g h u = absurd u
twice_zero (fin s m e) (inf t) f g h u = absurd u
twice_zero (fin s m e) (fin t n d) f g h u =
    let z = eqb-true m 0 h in
    let y : n ≡ 0 = no_size n (up d) (up_pos d) (no_size (n * up d) (down e) (down_pos e)
    (u.1 ∙ ap (λ (k : ℕ). k * up e * 2 ^ 1 * down d) z ∙ gone (up e) (down d))) in
    fields.same (fin t n d) (fin s m e) s 0 g f (u.0, level n (up d) (down d) y) (refl, level m (up e) (down e) z)
  where
    gone : (u d : ℕ) → 0 * u * 2 ^ 1 * d ≡ 0
    gone u d = omega arith

    level : (m u d : ℕ) → m ≡ 0 → m * u * 2 ^ 1074 ≡ 0 * d
    level m u d z = ap (λ (k : ℕ). k * u * 2 ^ 1074) z ∙ flat u (2 ^ 1074) ∙ sym (none d)
      where
        none : (u : ℕ) → 0 * u ≡ 0
        none u = omega arith

        flat : (u l : ℕ) → 0 * u * l ≡ 0
        flat u l = omega arith

-- ---- the law: of 0 both are always accepted

accepted_zero : (a : Float) (n : ℕ) → is_zero a ≡ true → n ≤ 64 → power_rule a (pos n) ≡ value (over_bits (λ r. r) one a (bits n))
accepted_zero a n h l =
    let x = over_bits (λ r. r) one a (bits n) in
    let raw : raw_power a (pos n) ≡ x = unfold raw_power in sym (by_bits_lem 31 one a n (omega arith)) in
    power_zero a (pos n) h (le-leb n 64 l) ∙ ap check raw ∙ check_kept x (ends n x x (zero_power a n h)).0

pub zero_doubled : (a : Float) (n : ℕ) → T (fits binary64 a) → is_zero a ≡ true → n ≤ 64 → finite (mul binary64 (two_to 1) a) ≡ true
    → Doubled a (mul binary64 (two_to 1) a) n
zero_doubled a n f h l g =
    let x = over_bits (λ r. r) one a (bits n) in
    let e = zero_power a n h in
    let p = accepted_zero a n h l in
    subst (λ (b : Float). Doubled a b n) (sym (twice_zero a (mul binary64 (two_to 1) a) f (mul-fits binary64 (two_to 1) a) h (twice a f g)))
    (record {
      of_base = x;
      of_double = x;
      base_accepted = p;
      double_accepted = p;
      exactly = e;
      as_f64 = as_product n x x
          (fits_bits one a (bits n) one_fits) e;
    })
