-- Facts of rounding that the exponential, the logarithm and the root share: a sign goes through `round`, a small fraction stays finite, what comparisons say. Assumes nothing.
use mathlib.Core.Path.{◌≡◌, refl, sym, ap, ◌∙◌, subst}
use mathlib.Core.Logic.{◌⊎◌, inl, inr}
use Prim.Native.Nat.{ℕ, zero, suc, ◌+◌, ◌-◌, ◌*◌, ◌/◌, ◌%◌, ◌^◌, ◌≤◌, ◌<◌, compare, Ordering}
use native.Mathlib.Nat.{le_trans, le_of_eq, le_of_lt, zero-lt-suc, mul-one, mul_right_comm, eq_of_mul-eq-mul_right}
use mathlib.Core.Bool.{Bool, true, false, not, ◌&&◌, ◌||◌, cond}
use lib.Dec.{T, is_le, compare_is_eq, ltb, eqb, leb→le, nleb→lt, ltb→lt, eqb→eq, eqb_refl}
use lib.Arith.{lt_of_le-ne}
use lib.IntN.{ℤ}
use lib.Ieee.{Float, nan, inf, fin, Format, binary64, prec, low, emax, up, down, size, nearest, odd, units, round, neg, le, lt, eq}
use lib.Ieee.Order.{round_mono}
use lib.Ieee.Exact.{HasValue}
use Rattle.common.specs.Outcome.{finite}

neg_odd : (d : ℕ) (s : Bool) (q k l : ℕ) → neg (odd d s q k l) ≡ odd d (not s) q k l
unfolding odd neg
neg_odd d s zero k l = refl
neg_odd d s (suc q) k l = refl

neg_units : (f : Format) (s : Bool) (q k : ℕ) → neg (units f s q k) ≡ units f (not s) q k
unfolding units neg
neg_units f s q k = go (ltb (q * 2 ^ k) (2 ^ (low f + suc (emax f))))
  where
    go : (b : Bool) → neg (cond b (odd (suc (prec f)) s q k (low f)) (inf s)) ≡ cond b (odd (suc (prec f)) (not s) q k (low f)) (inf (not s))
    go true = neg_odd (suc (prec f)) s q k (low f)
    go false = refl

pub round_neg : (f : Format) (s : Bool) (a c : ℕ) → neg (round f s a c) ≡ round f (not s) a c
unfolding round
round_neg f s a c =
    let n = a * 2 ^ low f in
    let k = size (n / c) - prec f in
    let u = c * 2 ^ k in
    neg_units f s (nearest (n / u) (compare (n % u * 2) u)) k

-- ---- finite, with the sign, or the infinity of the sign
odd_shape : (d : ℕ) (s : Bool) (q k l : ℕ) → (m : ℕ) × (e : ℤ) × (odd d s q k l ≡ fin s m e)
unfolding odd
odd_shape d s zero k l = (_, _, refl)
odd_shape d s (suc q) k l = (_, _, refl)

units_shape : (f : Format) (s : Bool) (q k : ℕ) → (units f s q k ≡ inf s) ⊎ ((m : ℕ) × (e : ℤ) × (units f s q k ≡ fin s m e))
unfolding units
units_shape f s q k = go (ltb (q * 2 ^ k) (2 ^ (low f + suc (emax f))))
  where
    go : (b : Bool) → (cond b (odd (suc (prec f)) s q k (low f)) (inf s) ≡ inf s) ⊎ ((m : ℕ) × (e : ℤ) × (cond b (odd (suc (prec f)) s q k (low f)) (inf s) ≡ fin s m e))
    go true = inr (odd_shape (suc (prec f)) s q k (low f))
    go false = inl refl

pub round_shape : (f : Format) (s : Bool) (a c : ℕ) → (round f s a c ≡ inf s) ⊎ ((m : ℕ) × (e : ℤ) × (round f s a c ≡ fin s m e))
unfolding round
round_shape f s a c =
    let n = a * 2 ^ low f in
    let k = size (n / c) - prec f in
    let u = c * 2 ^ k in
    units_shape f s (nearest (n / u) (compare (n % u * 2) u)) k

-- ---- a small fraction is finite
not_below : T (le (inf false) (round binary64 false 2048 1)) → ⊥
unfolding le lt eq round
not_below t = t

pub small_finite : (a c : ℕ) → 0 < c → a ≤ 2048 * c → finite (round binary64 false a c) ≡ true
small_finite a c C h = go (round_shape binary64 false a c)
  where
    l : T (le (round binary64 false a c) (round binary64 false 2048 1))
    l = round_mono binary64 a c 2048 1 C (zero-lt-suc 0) (le_trans (le_of_eq (mul-one a)) h)

    go : (round binary64 false a c ≡ inf false) ⊎ ((m : ℕ) × (e : ℤ) × (round binary64 false a c ≡ fin false m e)) → finite (round binary64 false a c) ≡ true
    go (inl e) = absurd (not_below (subst (λ (x : Float). T (le x (round binary64 false 2048 1))) e l))
    go (inr z) = ap finite z.2

-- ---- from one fraction to another of the same size
pub rescale : (x : Float) (s : Bool) (w l num den : ℕ) → 0 < l → num * l ≡ w * den → HasValue x s w l → HasValue x s num den
rescale nan s w l num den p h v = v
rescale (inf t) s w l num den p h v = v
rescale (fin t m e) s w l num den p h v = (
  v.0,
  eq_of_mul-eq-mul_right l p (m * up e * den) (num * down e)
      (mul_right_comm (m * up e) den l
      ∙ ap (λ (x : ℕ). x * den) v.1
      ∙ mul_right_comm w (down e) den
      ∙ ap (λ (x : ℕ). x * down e) (sym h)
      ∙ mul_right_comm num l (down e)),
)

-- ---- what `le` says of two numbers that are not negative, and of two that are not positive
either : {A : Type 0} (x y c : Bool) → (T x → A) → (T y → A) → T (x || (y && c)) → A
either true y c f g t = f tt
either false true c f g t = g tt
either false false c f g t = absurd t

module _ (m : ℕ) (e : ℤ) (n : ℕ) (d : ℤ) where
  pub le_sizes : T (le (fin false m e) (fin false n d)) → m * up e * down d ≤ n * up d * down e
  unfolding le lt eq
  le_sizes =
      let a = m * up e * down d in
      let b = n * up d * down e in
      either (ltb a b) (eqb a b) true (λ l. le_of_lt (ltb→lt a b l)) (λ q. le_of_eq (eqb→eq a b q))

  pub ge_sizes : T (le (fin true m e) (fin true n d)) → n * up d * down e ≤ m * up e * down d
  unfolding le lt eq
  ge_sizes =
      let a = m * up e * down d in
      let b = n * up d * down e in
      either (ltb b a) (eqb a b) true (λ l. le_of_lt (ltb→lt b a l)) (λ q. le_of_eq (sym (eqb→eq a b q)))

-- ---- what `compare` says
abbrev pub Cmp : Ordering → ℕ → ℕ → Type 0
Cmp Ordering.lt a b = a < b
Cmp Ordering.eq a b = a ≡ b
Cmp Ordering.gt a b = b < a

pub cmp : (a b : ℕ) → Cmp (compare a b) a b
cmp a b = go (compare a b) (leb→le a b) (nleb→lt a b) (eqb→eq a b) (λ (e : a ≡ b). subst (λ (x : ℕ). T (eqb a x)) e (eqb_refl a))
  where
    go : (o : Ordering) → (T (is_le o) → a ≤ b) → (T (not (is_le o)) → b < a) → (T (compare_is_eq o) → a ≡ b) → (a ≡ b → T (compare_is_eq o)) → Cmp o a b
    go Ordering.lt h k e n = lt_of_le-ne (h tt) n
    go Ordering.eq h k e n = e tt
    go Ordering.gt h k e n = k tt
