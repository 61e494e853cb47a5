-- The doubling law on f64s: twice a number is exact where it is finite, and a power times 2^n is one f64. In order: 2^k times a number, twice a number, the
-- law. Assumes nothing.
use mathlib.Core.Path.{◌≡◌, refl, sym, ap, ◌∙◌, subst}
use mathlib.Core.Bool.{Bool, true, false}
use mathlib.Core.List.{List, [], ◌∷◌}
use Prim.Native.Nat.{ℕ, suc, ◌*◌, ◌^◌, ◌≤◌, ◌<◌}
use native.Mathlib.Nat.{le_trans, le_of_eq, mul-one, one-mul, mul-pos, mul_comm, mul_assoc, mul_right_comm, mul-le-mul_right, le_of_mul-le-mul_right, pow-suc}
use lib.Dec.{T, ltb}
use lib.IntN.{ℤ}
use lib.Pow.{pow_pos}
use lib.Ieee.{Float, nan, inf, fin, binary64, up, down, round, mul, le, lt, eq, fits, unlike}
use lib.Ieee.Fits.{down_pos, mul-fits}
use lib.Ieee.Exact.{HasValue, round_exact}
use lib.Ieee.Order.{round_mono}
use lib.Ieee.Scale.{round_same}
use borrow.Author.Tests.{ltb-true, ltb-false}
use Rattle.common.specs.Outcome.{finite}
use Rattle.common.proofs.Laws.{never}
use Rattle.sizes.proofs.Band.{round_size}
use Rattle.rules.specs.Power.{one, bits}
use Rattle.rules.specs.RawPower.{over_bits}
use Rattle.power_laws.specs.Laws.{Scaled, two_to, in_range, normal, products, Doubled}
use Rattle.power_laws.proofs.Again.{Parts, parts, again}
use Rattle.power_laws.proofs.Doubling.{weaker, kept, range_is_normal, normal_is_kept, accepted, ends, scaled_raw}

-- ---- 2^k times a number

pub as_product : (k : ℕ) (x y : Float) → T (fits binary64 y) → Scaled k x y → y ≡ mul binary64 x (two_to k)
unfolding mul
as_product k nan y f u = absurd u
as_product k (inf s) y f u = absurd u
as_product k (fin s m e) nan f u = absurd u
as_product k (fin s m e) (inf t) f u = absurd u
as_product k (fin s m e) (fin t n d) f u =
    sym (again t n d f)
    ∙ ap (λ (z : Bool). round binary64 z (n * up d) (down d)) (u.0 ∙ own s)
    ∙ round_same binary64 (unlike s false) (n * up d) (down d) (m * up e * (1 * 2 ^ k)) (down e * 1) (down_pos d) (rw (mul-one (down e)) (down_pos e))
    (rw (mul-one (down e), one-mul (2 ^ k)) u.1)
  where
    own : (s : Bool) → s ≡ unlike s false
    own true = refl
    own false = refl

-- ---- twice a number

two_of : (s : Bool) → unlike false s ≡ s
two_of true = refl
two_of false = refl

beyond : (x : Float) → finite x ≡ true → T (le (inf false) x) → ⊥
unfolding le lt eq
beyond nan f t = never (sym f)
beyond (inf s) f t = never (sym f)
beyond (fin s m e) f t = t

of_value : (s : Bool) (m : ℕ) (e : ℤ) (z : Float) → HasValue z s (1 * 2 ^ 1 * (m * up e)) (1 * down e) → Scaled 1 (fin s m e) z
of_value s m e nan v = v
of_value s m e (inf t) v = v
of_value s m e (fin t n d) v = (v.0, turn (n * up d) (down e) (m * up e) (down d) v.1)
  where
    turn : (x c a d : ℕ) → x * (1 * c) ≡ 1 * 2 ^ 1 * a * d → x * c ≡ a * 2 ^ 1 * d
    turn x c a d h = ap (λ (z : ℕ). x * z) (sym (one-mul c)) ∙ h ∙ ap (λ (z : ℕ). z * d) (mul_comm 2 a)

pub twice : (a : Float) → T (fits binary64 a) → finite (mul binary64 (two_to 1) a) ≡ true → Scaled 1 a (mul binary64 (two_to 1) a)
unfolding mul
twice nan h f = never (sym f)
twice (inf s) h f = never (sym f)
twice (fin s m e) h f = go (ltb (m * 2 ^ suc j) (2 ^ 2098)) refl
  where
    p : Parts m e
    p = parts s m e h

    j : ℕ
    j = p.shift

    N : ℕ
    N = 1 * 2 ^ 1 * (m * up e)

    D : ℕ
    D = 1 * down e

    D_pos : 0 < D
    D_pos = mul-pos (pow_pos 0) (down_pos e)

    units : (a l q d : ℕ) → a * l ≡ q * d → 1 * 2 ^ 1 * a * l ≡ q * 2 * (1 * d)
    units a l q d h =
        mul_assoc 2 a l ∙ ap (λ (x : ℕ). 2 * x) h ∙ sym (mul_assoc 2 q d) ∙ ap (λ (x : ℕ). x * d) (mul_comm 2 q) ∙ ap (λ (x : ℕ). q * 2 * x) (sym (one-mul d))

    exact : N * 2 ^ 1074 ≡ m * 2 ^ suc j * D
    exact =
        units (m * up e) (2 ^ 1074) (m * 2 ^ j) (down e) p.exact ∙ ap (λ (x : ℕ). x * D) (mul_assoc m (2 ^ j) 2 ∙ ap (λ (x : ℕ). m * x) (sym (pow-suc 2 j)))

    go : (b : Bool) → ltb (m * 2 ^ suc j) (2 ^ 2098) ≡ b → Scaled 1 (fin s m e) (round binary64 (unlike false s) N D)
    go true l =
        of_value s m e (round binary64 (unlike false s) N D)
        (subst (λ (t : Bool). HasValue (round binary64 (unlike false s) N D) t N D) (two_of s)
        (round_exact binary64 (unlike false s) N D m (suc j) D_pos p.few (ltb-true (m * 2 ^ suc j) (2 ^ 2098) l) exact))
    go false l =
        let large : 2 ^ 1024 * 2 ^ 1074 ≤ m * 2 ^ suc j = ltb-false (m * 2 ^ suc j) (2 ^ 2098) l in
        let over : 2 ^ 1024 * D ≤ N * 1 = le_of_mul-le-mul_right (cleared (2 ^ 1024) (2 ^ 1074) (m * 2 ^ suc j) D N large exact) (pow_pos 1074) in
        let infinite : round binary64 false (2 ^ 1024) 1 ≡ inf false = unfold round in refl in
        absurd (beyond (round binary64 false N D) (sym (round_size N D (unlike false s)).lost ∙ f)
        (subst (λ (z : Float). T (le z (round binary64 false N D))) infinite (round_mono binary64 (2 ^ 1024) 1 N D (pow_pos 0) D_pos over)))
      where
        cleared : (h l q d n : ℕ) → h * l ≤ q → n * l ≡ q * d → h * d * l ≤ n * 1 * l
        cleared h l q d n g e =
            le_trans (le_of_eq (mul_right_comm h d l)) (le_trans (mul-le-mul_right d g) (le_of_eq (sym e ∙ ap (λ (x : ℕ). x * l) (sym (mul-one n)))))

-- ---- the law on f64s

pub fits_bits : (r x : Float) (bs : List Bool) → T (fits binary64 r) → T (fits binary64 (over_bits (λ r. r) r x bs))
unfolding over_bits
fits_bits r x [] h = h
fits_bits r x (true ∷ bs) h = fits_bits (mul binary64 r x) (mul binary64 x x) bs (mul-fits binary64 r x)
fits_bits r x (false ∷ bs) h = fits_bits r (mul binary64 x x) bs h

pub one_fits : T (fits binary64 one)
one_fits = unfold fits in tt

-- for an n from 0 to 64 and a b that is exactly twice a; of the second computation it is enough that its products are normal once they are rounded
pub doubled : (a b : Float) (n : ℕ) → n ≤ 64 → Scaled 1 a b → products in_range a n ≡ true → products normal b n ≡ true → Doubled a b n
doubled a b n l u p q =
    let x = over_bits (λ r. r) one a (bits n) in
    let y = over_bits (λ r. r) one b (bits n) in
    let e = scaled_raw a b n u p (weaker normal kept normal_is_kept one b (bits n) q) in
    record {
      of_base = x;
      of_double = y;
      base_accepted = accepted a n (ends 1 a b u).0 l (weaker in_range normal range_is_normal one a (bits n) p);
      double_accepted = accepted b n (ends 1 a b u).1 l q;
      exactly = e;
      as_f64 = as_product n x y (fits_bits one b (bits n) one_fits) e;
    }

-- the law: an f64 a whose double is finite, and no product of either computation outside the normal range
pub doubling : (a : Float) (n : ℕ) → T (fits binary64 a) → n ≤ 64 → finite (mul binary64 (two_to 1) a) ≡ true
    → products in_range a n ≡ true → products in_range (mul binary64 (two_to 1) a) n ≡ true → Doubled a (mul binary64 (two_to 1) a) n
doubling a n h l f p q =
    let b = mul binary64 (two_to 1) a in
    doubled a b n l (twice a h f) p (weaker in_range normal range_is_normal one b (bits n) q)
