-- Where an accepted power is above 2^-1022 in size, no product on the way to it is at most that, and so none was below it before it was rounded. Assumes
-- nothing.
use mathlib.Core.Path.{◌≡◌, refl, sym, ap, ◌∙◌, subst}
use mathlib.Core.Bool.{Bool, true, false, not, ◌&&◌, cond}
use Prim.Native.Nat.{ℕ, zero, suc, ◌*◌, ◌^◌, ◌≤◌, ◌<◌}
use native.Mathlib.Nat.{le_trans, le_of_eq, le_of_lt, lt_of_lt_of_le, mul-one, one-mul, mul-pos, mul-le-mul_left}
use native.Mathlib.Omega.{arith}
use lib.Dec.{T, eqb, leb}
use lib.IntN.{pos, negsuc}
use lib.Pow.{pow_pos, pow_mono}
use lib.Ieee.{Float, nan, inf, fin, binary64, up, down, round, mul, fits, unlike}
use lib.Ieee.Fits.{up_pos, down_pos}
use lib.Ieee.Positive.{num, den, den_pos}
use borrow.Author.Tests.{le-leb, lt-leb, leb-true, leb-false, eqb-false, ne_eqb}
use Rattle.common.specs.Outcome.{value, finite}
use Rattle.common.proofs.Laws.{never}
use Rattle.sizes.specs.Lost.{is_zero}
use Rattle.sizes.proofs.Looks.{least}
use Rattle.rules.specs.Power.{one, bits, power_rule}
use Rattle.power_laws.specs.Laws.{Scaled, two_to, in_range, products}
use Rattle.power_laws.proofs.Scales.{left, right}
use Rattle.power_laws.proofs.Doubling.{weaker}
use Rattle.power_laws.proofs.Doubles.{twice}
use Rattle.power_laws.proofs.Products.{Under, rounded_under, good_products}
use Rattle.power_laws.proofs.Accepted.{accepted_normal, under_at_most, grows}

-- ---- at most 2^-1022 in size

abbrev pub at_most_least : Float → Bool
at_most_least nan = false
at_most_least (inf s) = false
at_most_least (fin s m e) = leb (m * up e * 2 ^ 1022) (down e)

tiny_is : (x : Float) → finite x ≡ true → at_most_least x ≡ leb (num x * 2 ^ 1022) (den x)
tiny_is nan f = never (sym f)
tiny_is (inf s) f = never (sym f)
tiny_is (fin s m e) f = refl

pub smaller : (z x : Float) → Under z x → finite x ≡ true → at_most_least x ≡ true → at_most_least z ≡ true
smaller z x u f h =
    tiny_is z u.kept
    ∙ le-leb (num z * 2 ^ 1022) (den z)
    (le_trans
    (under_at_most (num z) (den z) (num x) (den x) (2 ^ 1022) 1 (den_pos x) u.most
    (le_trans (leb-true (num x * 2 ^ 1022) (den x) (sym (tiny_is x f) ∙ h)) (le_of_eq (sym (mul-one (den x))))))
    (le_of_eq (mul-one (den z))))

below_one : (x : Float) → finite x ≡ true → at_most_least x ≡ true → num x ≤ 1 * den x
below_one x f h =
    le_trans (grows (num x) (2 ^ 1022) (pow_pos 1022)) (le_trans (leb-true (num x * 2 ^ 1022) (den x) (sym (tiny_is x f) ∙ h))
    (le_of_eq (sym (one-mul (den x)))))

above : (A D t : ℕ) → 0 < D → D ≤ A → 2 ≤ t → D < A * t
above A D t p h l = lt_of_lt_of_le (more A D p h) (mul-le-mul_left A l)
  where
    more : (A D : ℕ) → 0 < D → D ≤ A → D < A * 2
    more A D p h = omega arith

not_one : (x : Float) → finite x ≡ true → den x ≤ num x → at_most_least x ≡ false
not_one x f h = tiny_is x f ∙ lt-leb (num x * 2 ^ 1022) (den x) (above (num x) (den x) (2 ^ 1022) (den_pos x) h (pow_mono {i = 1} {j = 1022} (omega arith)))

-- ---- a product above it was in the range before it was rounded

abbrev above_least : Float → Float → Bool
above_least r x = finite (mul binary64 r x) && not (at_most_least (mul binary64 r x))

in_range_lem : (r x : Float) → above_least r x ≡ true → in_range r x ≡ true
unfolding mul
in_range_lem nan x h = never (sym h)
in_range_lem (inf s) nan h = never (sym h)
in_range_lem (inf s) (inf t) h = never (sym h)
in_range_lem (inf s) (fin t n d) h = absurd (lost (eqb n 0) h)
  where
    lost : (b : Bool) → (finite (cond b nan (inf (unlike s t))) && not (at_most_least (cond b nan (inf (unlike s t))))) ≡ true → ⊥
    lost true h = never (sym h)
    lost false h = never (sym h)
in_range_lem (fin s m e) nan h = never (sym h)
in_range_lem (fin s m e) (inf t) h = absurd (lost (eqb m 0) h)
  where
    lost : (b : Bool) → (finite (cond b nan (inf (unlike s t))) && not (at_most_least (cond b nan (inf (unlike s t))))) ≡ true → ⊥
    lost true h = never (sym h)
    lost false h = never (sym h)
in_range_lem (fin s m e) (fin t n d) h = go (leb D (N * 2 ^ 1022)) refl
  where
    N : ℕ
    N = m * up e * (n * up d)

    D : ℕ
    D = down e * down d

    z : Float
    z = round binary64 (unlike s t) N D

    go : (b : Bool) → leb D (N * 2 ^ 1022) ≡ b → (b && finite z) ≡ true
    go true k = left (finite z) (not (at_most_least z)) h
    go false k =
        let u = rounded_under (unlike s t) N D false 1 (negsuc 1021) (unfold fits in tt) (mul-pos (down_pos e) (down_pos d))
        (le_trans (le_of_lt (leb-false D (N * 2 ^ 1022) k)) (le_of_eq (sym (one-mul D)))) in
        never (sym (right (finite z) (not (at_most_least z)) h) ∙ ap not (smaller z (least false) u refl refl))

-- ---- twice a number that is not 0 is not 0

zero_scaled : (x y : Float) → Scaled 1 x y → is_zero x ≡ false → is_zero y ≡ false
zero_scaled nan y u h = absurd u
zero_scaled (inf s) y u h = absurd u
zero_scaled (fin s m e) nan u h = absurd u
zero_scaled (fin s m e) (inf t) u h = absurd u
zero_scaled (fin s m e) (fin t n d) u h =
    ne_eqb n 0 (λ k. none (up d) (down e) (m * up e) (down d) n k u.1 (mul-pos (first m (eqb-false m 0 h)) (up_pos e)) (down_pos d))
  where
    first : (m : ℕ) → (m ≡ 0 → ⊥) → 0 < m
    first zero f = absurd (f refl)
    first (suc m) f = omega arith

    zeroed : (u c : ℕ) → 0 * u * c ≡ 0
    zeroed u c = omega arith

    none : (u c A D n : ℕ) → n ≡ 0 → n * u * c ≡ A * 2 ^ 1 * D → 0 < A → 0 < D → ⊥
    none u c A D n k e p q =
        let l : 0 < A * 2 ^ 1 * D = mul-pos (mul-pos p (pow_pos 1)) q in
        let z : A * 2 ^ 1 * D ≡ 0 = sym e ∙ ap (λ (x : ℕ). x * u * c) k ∙ zeroed u c in
        omega arith

pub double_not_zero : (a : Float) → T (fits binary64 a) → is_zero a ≡ false → finite (mul binary64 (two_to 1) a) ≡ true
    → is_zero (mul binary64 (two_to 1) a) ≡ false
double_not_zero a f h g = zero_scaled a (mul binary64 (two_to 1) a) (twice a f g) h

-- ---- the law

pub above_range : (a x : Float) (n : ℕ) → T (fits binary64 a) → is_zero a ≡ false → power_rule a (pos n) ≡ value x → at_most_least x ≡ false
    → products in_range a n ≡ true
above_range a x n f h p t =
    let k = accepted_normal a x n f h p in
    weaker above_least in_range in_range_lem one a (bits n)
    (good_products at_most_least smaller below_one not_one a n f k.finite_base
    (subst (λ (z : Float). (finite z && not (at_most_least z)) ≡ true) k.is (rw (k.finite_value, t) refl)))
