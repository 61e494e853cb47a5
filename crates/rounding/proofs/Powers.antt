-- The power rule and a table's sum as expressions: the same floats as `raw_power` and `raw_total`, and exactly the power and the sum.
-- Assumes nothing.
use mathlib.Core.Path.{◌≡◌, refl, sym, ap, ap₂, ◌∙◌, subst}
use Prim.Native.Nat.{ℕ, zero, suc, ◌+◌, ◌*◌, ◌/◌, ◌%◌, ◌^◌, ◌<◌}
use native.Mathlib.Nat.{mul-one, one-mul, mul_assoc, add-zero, zero-mul, mul-zero, mul-pos, pow-zero, pow-suc}
use native.Mathlib.Omega.{arith}
use mathlib.Core.Bool.{Bool, true, false}
use mathlib.Core.List.{List, [], ◌∷◌, map}
use lib.IntN.{pos}
use lib.Dec.{T, eqb, eqb→eq}
use lib.Pow.{pow-add}
use lib.Ieee.{Float, binary64, add, mul}
use Rattle.common.specs.Sum.{raw_total, every}
use Rattle.common.proofs.Sums.{both_left, both_right}
use Rattle.rules.specs.Power.{one, odd}
use Rattle.rules.specs.Product.{times}
use Rattle.rules.specs.RawPower.{raw_higher_bits, raw_power}
use Rattle.rounding.specs.Fraction.{Fraction, ratio, sum_over}
use Rattle.rounding.specs.Arithmetic as fractions
use Rattle.rounding.proofs.Near.{Same}
use Rattle.rounding.proofs.Expressions.{Ex, con, sum, product, float, exact}

-- ---- the power

abbrev times_ex : Bool → Ex → Ex → Ex
times_ex true r a = product r a
times_ex false r a = r

-- as `raw_higher_bits` of the power rule
unfoldable higher_ex : ℕ → Bool → Ex → Ex → ℕ → Ex
higher_ex zero none r a h = r
higher_ex (suc k) true r a h = r
higher_ex (suc k) false r a h = higher_ex k (eqb (h / 2) 0) (times_ex (odd h) r (product a a)) (product a a) (h / 2)

abbrev one_ex : Ex
one_ex = con one (ratio 1 1)

unfoldable pub power_ex : Ex → ℕ → Ex
unfolding higher_ex
power_ex a n = higher_ex 31 (eqb (n / 2) 0) (times_ex (odd n) one_ex a) a (n / 2)

times_float : (x : ℕ → Float) (b : Bool) (r a : Ex) → float x (times_ex b r a) ≡ times b (float x r) (float x a)
unfolding float
times_float x true r a = refl
times_float x false r a = refl

higher_float : (x : ℕ → Float) (k : ℕ) (none : Bool) (r a : Ex) (h : ℕ) → float x (higher_ex k none r a h) ≡ raw_higher_bits k none (float x r) (float x a) h
unfolding higher_ex raw_higher_bits float
higher_float x zero none r a h = refl
higher_float x (suc k) true r a h = refl
higher_float x (suc k) false r a h =
    higher_float x k (eqb (h / 2) 0) (times_ex (odd h) r (product a a)) (product a a) (h / 2)
    ∙ ap (λ (z : Float). raw_higher_bits k (eqb (h / 2) 0) z (mul binary64 (float x a) (float x a)) (h / 2)) (times_float x (odd h) r (product a a))

pub power_float : (x : ℕ → Float) (a : Ex) (n : ℕ) → float x (power_ex a n) ≡ raw_power (float x a) (pos n)
unfolding power_ex raw_power
power_float x a n =
    higher_float x 31 (eqb (n / 2) 0) (times_ex (odd n) one_ex a) a (n / 2)
    ∙ ap (λ (z : Float). raw_higher_bits 31 (eqb (n / 2) 0) z (float x a) (n / 2)) (times_float x (odd n) one_ex a ∙ first)
  where
    first : times (odd n) (float x one_ex) (float x a) ≡ times (odd n) one (float x a)
    first = unfold float in refl

-- ---- and exactly
square_pow : (A k : ℕ) → (A * A) ^ k ≡ A ^ k * A ^ k
square_pow A zero = pow-zero (A * A) ∙ sym (ap₂ (λ (x y : ℕ). x * y) (pow-zero A) (pow-zero A))
square_pow A (suc k) =
    pow-suc (A * A) k ∙ ap (λ (x : ℕ). x * (A * A)) (square_pow A k) ∙ swap (A ^ k) ∙ sym (ap₂ (λ (x y : ℕ). x * y) (pow-suc A k) (pow-suc A k))
  where
    swap : (x : ℕ) → x * x * (A * A) ≡ x * A * (x * A)
    swap x = omega arith

-- by the lowest digit and the rest
half_pow : (A n : ℕ) → A ^ n ≡ A ^ (n % 2) * (A * A) ^ (n / 2)
half_pow A n =
    ap (λ (x : ℕ). A ^ x) (halves n) ∙ pow-add A (n % 2) (n / 2 + n / 2)
    ∙ ap (λ (x : ℕ). A ^ (n % 2) * x) (pow-add A (n / 2) (n / 2) ∙ sym (square_pow A (n / 2)))
  where
    halves : (n : ℕ) → n ≡ n % 2 + (n / 2 + n / 2)
    halves n = omega arith

ratio_times : (a q a' q' : ℕ) → fractions.times (ratio a q) (ratio a' q') ≡ ratio (a * a') (q * q')
ratio_times a q a' q' =
    ap₂ (λ (x y : ℕ). record { over = x; under = y; scale = q * q' }) (add-zero (a * a')) (ap₂ (λ (x y : ℕ). x + y) (mul-zero a) (zero-mul a'))

module _ (depth : ℕ) (y : ℕ → Fraction) where
  product_exact : (s t : Ex) {a q a' q' : ℕ} → exact depth y s ≡ ratio a q → exact depth y t ≡ ratio a' q'
      → exact depth y (product s t) ≡ ratio (a * a') (q * q')
  unfolding exact
  product_exact s t {a} {q} {a'} {q'} h k = ap₂ fractions.times h k ∙ ratio_times a q a' q'

  times_exact : (r a : Ex) (R S A B m : ℕ) → m < 2 → exact depth y r ≡ ratio R S → exact depth y a ≡ ratio A B
      → exact depth y (times_ex (eqb m 1) r a) ≡ ratio (R * A ^ m) (S * B ^ m)
  times_exact r a R S A B zero l h k = h ∙ sym (ap₂ ratio (nothing R A) (nothing S B))
    where
      nothing : (R A : ℕ) → R * A ^ 0 ≡ R
      nothing R A = ap (λ (x : ℕ). R * x) (pow-zero A) ∙ mul-one R
  times_exact r a R S A B (suc zero) l h k = product_exact r a h k ∙ sym (ap₂ ratio (once R A) (once S B))
    where
      once : (R A : ℕ) → R * A ^ 1 ≡ R * A
      once R A = ap (λ (x : ℕ). R * x) (pow-suc A 0 ∙ ap (λ (x : ℕ). x * A) (pow-zero A) ∙ one-mul A)
  times_exact r a R S A B (suc (suc m)) l h k = absurd (omega arith)

  higher_exact : (r a : Ex) (k : ℕ) (none : Bool) (R S A B h : ℕ) → eqb h 0 ≡ none → h < 2 ^ k → exact depth y r ≡ ratio R S → exact depth y a ≡ ratio A B
      → exact depth y (higher_ex k none r a h) ≡ ratio (R * (A * A) ^ h) (S * (B * B) ^ h)
  unfolding higher_ex
  higher_exact r a zero none R S A B h e l p q = p ∙ sym (ap₂ ratio (stop R A h (below h l)) (stop S B h (below h l)))
    where
      below : (h : ℕ) → h < 2 ^ 0 → h ≡ 0
      below h l = omega arith

      stop : (R A h : ℕ) → h ≡ 0 → R * (A * A) ^ h ≡ R
      stop R A h z = ap (λ (x : ℕ). R * (A * A) ^ x) z ∙ ap (λ (x : ℕ). R * x) (pow-zero (A * A)) ∙ mul-one R
  higher_exact r a (suc k) true R S A B h e l p q = p ∙ sym (ap₂ ratio (stop R A h none) (stop S B h none))
    where
      none : h ≡ 0
      none = eqb→eq h 0 (subst T (sym e) tt)

      stop : (R A h : ℕ) → h ≡ 0 → R * (A * A) ^ h ≡ R
      stop R A h z = ap (λ (x : ℕ). R * (A * A) ^ x) z ∙ ap (λ (x : ℕ). R * x) (pow-zero (A * A)) ∙ mul-one R
  higher_exact r a (suc k) false R S A B h e l p q =
      let a2 = product_exact a a q q in
      higher_exact (times_ex (odd h) r (product a a)) (product a a) k (eqb (h / 2) 0) (R * (A * A) ^ (h % 2)) (S * (B * B) ^ (h % 2)) (A * A) (B * B) (h / 2)
      refl (smaller h k l) (times_exact r (product a a) R S (A * A) (B * B) (h % 2) (below_two h) p a2) a2
      ∙ ap₂ ratio (turn R A) (turn S B)
    where
      below_two : (n : ℕ) → n % 2 < 2
      below_two n = omega arith

      smaller : (n d : ℕ) → n < 2 ^ suc d → n / 2 < 2 ^ d
      smaller n d h = omega (arith, pow-suc 2 d)

      turn : (R A : ℕ) → R * (A * A) ^ (h % 2) * (A * A * (A * A)) ^ (h / 2) ≡ R * (A * A) ^ h
      turn R A = mul_assoc R ((A * A) ^ (h % 2)) ((A * A * (A * A)) ^ (h / 2)) ∙ ap (λ (x : ℕ). R * x) (sym (half_pow (A * A) h))

  pub power_exact : (a : Ex) (A B n : ℕ) → n < 2 ^ 32 → exact depth y a ≡ ratio A B → exact depth y (power_ex a n) ≡ ratio (A ^ n) (B ^ n)
  unfolding power_ex
  power_exact a A B n l q =
      higher_exact (times_ex (odd n) one_ex a) a 31 (eqb (n / 2) 0) (1 * A ^ (n % 2)) (1 * B ^ (n % 2)) A B (n / 2) refl (half n 31 l)
      (times_exact one_ex a 1 1 A B (n % 2) (below_two n) (unfold exact in refl) q) q
      ∙ ap₂ ratio (turn A) (turn B)
    where
      below_two : (n : ℕ) → n % 2 < 2
      below_two n = omega arith

      half : (n d : ℕ) → n < 2 ^ suc d → n / 2 < 2 ^ d
      half n d h = omega (arith, pow-suc 2 d)

      turn : (A : ℕ) → 1 * A ^ (n % 2) * (A * A) ^ (n / 2) ≡ A ^ n
      turn A = ap (λ (x : ℕ). x * (A * A) ^ (n / 2)) (one-mul (A ^ (n % 2))) ∙ sym (half_pow A n)

-- ---- the sum

same_plus : {x y : Fraction} {A B A' B' S : ℕ} → Same x (record { over = A; under = B; scale = S }) → Same y (record { over = A'; under = B'; scale = S })
    → Same (fractions.plus x y) (record { over = A + A'; under = B + B'; scale = S })
same_plus {x} {y} {A} {B} {A'} {B'} {S} h k = record {
  overs = both x.over y.over x.scale y.scale A A' h.overs k.overs;
  unders = both x.under y.under x.scale y.scale B B' h.unders k.unders;
  positive = mul-pos h.positive k.positive;
}
  where
    both : (a a' q q' X Y : ℕ) → a * S ≡ X * q → a' * S ≡ Y * q' → (a * q' + a' * q) * S ≡ (X + Y) * (q * q')
    both a a' q q' X Y e g =
        let e' : a * S * q' ≡ X * q * q' = ap (λ (z : ℕ). z * q') e in
        let g' : a' * S * q ≡ Y * q' * q = ap (λ (z : ℕ). z * q) g in
        omega arith

module _ {R : Type 0} (term : R → Ex) where
  unfoldable pub sum_ex : Ex → List R → Ex
  sum_ex s [] = s
  sum_ex s (r ∷ rs) = sum_ex (sum s (term r)) rs

  -- where each term is the raw term of a row
  pub sum_float : {S : Type 0} (u : S → Float) (g : R → S) (x : ℕ → Float) → ((r : R) → float x (term r) ≡ u (g r)) → (s : Ex) (rs : List R)
      → float x (sum_ex s rs) ≡ raw_total u (float x s) (map g rs)
  unfolding sum_ex raw_total float
  sum_float u g x e s [] = refl
  sum_float u g x e s (r ∷ rs) = sum_float u g x e (sum s (term r)) rs ∙ ap (λ (z : Float). raw_total u (add binary64 (float x s) z) (map g rs)) (e r)

  -- where each term is (a - b) / S
  pub sum_same : (depth : ℕ) (y : ℕ → Fraction) (a b : R → ℕ) (S : ℕ) (f : R → Bool)
      → ((r : R) → T (f r) → Same (exact depth y (term r)) (record { over = a r; under = b r; scale = S }))
      → (s : Ex) (A B : ℕ) → Same (exact depth y s) (record { over = A; under = B; scale = S }) → (rs : List R) → T (every f rs)
      → Same (exact depth y (sum_ex s rs)) (record { over = A + sum_over a rs; under = B + sum_over b rs; scale = S })
  unfolding sum_ex sum_over every exact
  sum_same depth y a b S f e s A B h [] t =
      subst (λ (z : ℕ). Same (exact depth y s) (record { over = z; under = B + 0; scale = S })) (sym (add-zero A))
      (subst (λ (z : ℕ). Same (exact depth y s) (record { over = A; under = z; scale = S })) (sym (add-zero B)) h)
  sum_same depth y a b S f e s A B h (r ∷ rs) t =
      let g = sum_same depth y a b S f e (sum s (term r)) (A + a r) (B + b r) (same_plus h (e r (both_left (f r) (every f rs) t))) rs
      (both_right (f r) (every f rs) t) in
      subst (λ (z : ℕ). Same (exact depth y (sum_ex (sum s (term r)) rs)) (record { over = z; under = B + (b r + sum_over b rs); scale = S }))
      (assoc A (a r) (sum_over a rs))
      (subst (λ (z : ℕ). Same (exact depth y (sum_ex (sum s (term r)) rs)) (record { over = A + a r + sum_over a rs; under = z; scale = S }))
      (assoc B (b r) (sum_over b rs)) g)
    where
      assoc : (x y z : ℕ) → x + y + z ≡ x + (y + z)
      assoc x y z = omega arith
