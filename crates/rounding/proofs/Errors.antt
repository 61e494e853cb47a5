-- Errors that add up. `Held f x y M e`: the float x is finite, at most M units in size, and within e units of the fraction y. A unit is the
-- format's smallest value. Two laws, for a rounded sum and a rounded product of such floats. Assumes nothing.
use mathlib.Core.Path.{◌≡◌, sym, subst}
use mathlib.Core.Logic.{◌⊎◌, inl, inr}
use Prim.Native.Nat.{ℕ, ◌+◌, ◌-◌, ◌*◌, ◌/◌, ◌%◌, ◌^◌, ◌≤◌, ◌<◌}
use native.Mathlib.Nat.{le_trans, mul-le-mul_right, mul-le-mul, le_of_mul-le-mul_right, mod-lt, div-add-mod'}
use native.Mathlib.Omega.{arith}
use mathlib.Core.Bool.{Bool, true, false, not}
use lib.Dec.{T, leb, leb→le, nleb→lt}
use lib.Pow.{pow_pos}
use lib.Ieee.{Float, Format, low, add, mul}
use lib.Ieee.Exact.{HasValue}
use lib.Ieee.Scale.{overflow}
use Rattle.rounding.specs.Fraction.{Fraction}
use Rattle.rounding.specs.Arithmetic.{plus, times}
use Rattle.rounding.proofs.Round.{slack}
use Rattle.rounding.proofs.Ops.{pl, mi, Close, add_near, mul_near}

-- ±v units, a unit being 1 / U, is within e units of y
abbrev pub CloseTo : Bool → ℕ → Fraction → ℕ → ℕ → Type 0
CloseTo s v y U e = Close (pl s v * y.scale) (mi s v * y.scale) (y.over * U) (y.under * U) (e * y.scale)

pub record Held (f : Format) (x : Float) (y : Fraction) (M e : ℕ) : Type 0 where
  pub sign : Bool
  pub size : ℕ
  pub value : HasValue x sign size (2 ^ low f)
  pub small : size ≤ M
  pub near : CloseTo sign size y (2 ^ low f) e

-- ---- sums
pub close_scale : (k a b c d e : ℕ) → Close a b c d e → Close (a * k) (b * k) (c * k) (d * k) (e * k)
close_scale k a b c d e h = (omega (arith, mul-le-mul_right k h.0), omega (arith, mul-le-mul_right k h.1))

close_add : (z y p p' n n' a a' b b' r e e' : ℕ) → Close z y (p + p') (n + n') r → Close p n a b e → Close p' n' a' b' e'
    → Close z y (a + a') (b + b') (e + e' + r)
close_add z y p p' n n' a a' b b' r e e' h k l = omega arith

-- the size and the error of a sum, from those of its parts
abbrev pub sum_size : Format → ℕ → ℕ → ℕ
sum_size f M M' = M + M' + slack f (M + M')

abbrev pub sum_error : Format → ℕ → ℕ → ℕ → ℕ → ℕ
sum_error f M e M' e' = e + e' + slack f (M + M')

add_arith : (p n q a b e p' n' q' a' b' e' z y r U : ℕ) → Close (p * q) (n * q) (a * U) (b * U) (e * q) → Close (p' * q') (n' * q') (a' * U) (b' * U) (e' * q')
    → Close (z * 1) (y * 1) (p + p') (n + n') (r * 1)
    → Close (z * (q * q')) (y * (q * q')) ((a * q' + a' * q) * U) ((b * q' + b' * q) * U) ((e + e' + r) * (q * q'))
add_arith p n q a b e p' n' q' a' b' e' z y r U h k l =
    shape (close_add (z * (q * q')) (y * (q * q')) (p * q * q') (p' * q' * q) (n * q * q') (n' * q' * q) (a * U * q') (a' * U * q) (b * U * q') (b' * U * q)
    (r * (q * q')) (e * q * q') (e' * q' * q)
    (third (close_scale (q * q') (z * 1) (y * 1) (p + p') (n + n') (r * 1) l)) (close_scale q' (p * q) (n * q) (a * U) (b * U) (e * q) h)
    (close_scale q (p' * q') (n' * q') (a' * U) (b' * U) (e' * q') k))
  where
    third : Close (z * 1 * (q * q')) (y * 1 * (q * q')) ((p + p') * (q * q')) ((n + n') * (q * q')) (r * 1 * (q * q'))
        → Close (z * (q * q')) (y * (q * q')) (p * q * q' + p' * q' * q) (n * q * q' + n' * q' * q) (r * (q * q'))
    third c = (omega (arith, c.0), omega (arith, c.1))

    shape : Close (z * (q * q')) (y * (q * q')) (a * U * q' + a' * U * q) (b * U * q' + b' * U * q) (e * q * q' + e' * q' * q + r * (q * q'))
        → Close (z * (q * q')) (y * (q * q')) ((a * q' + a' * q) * U) ((b * q' + b' * q) * U) ((e + e' + r) * (q * q'))
    shape c = (omega (arith, c.0), omega (arith, c.1))

pub held_add : {f : Format} {x x' : Float} {y y' : Fraction} {M e M' e' : ℕ} → Held f x y M e → Held f x' y' M' e' → sum_size f M M' < overflow f
    → Held f (add f x x') (plus y y') (sum_size f M M') (sum_error f M e M' e')
held_add {f} {x} {x'} {y} {y'} {M} {e} {M'} {e'} h k o =
    let r = add_near f x x' h.sign k.sign h.size k.size (M + M') h.value k.value (sum_le h.small k.small) o in
    record {
      sign = r.sign;
      size = r.size;
      value = r.value;
      small = r.small;
      near = add_arith (pl h.sign h.size) (mi h.sign h.size) y.scale y.over y.under e (pl k.sign k.size) (mi k.sign k.size)
          y'.scale y'.over y'.under e'
          (pl r.sign r.size) (mi r.sign r.size) (slack f (M + M')) (2 ^ low f) h.near k.near r.near;
    }
  where
    sum_le : {v w : ℕ} → v ≤ M → w ≤ M' → v + w ≤ M + M'
    sum_le i j = omega arith

-- ---- products: of two differences g - h and k - l, of sizes at most K and L, the product is at most K * L in size
apart : (g h : ℕ) → ((d : ℕ) × (g ≡ h + d)) ⊎ ((d : ℕ) × (h ≡ g + d))
apart g h = go (leb h g) (leb→le h g) (nleb→lt h g)
  where
    go : (t : Bool) → (T t → h ≤ g) → (T (not t) → g < h) → ((d : ℕ) × (g ≡ h + d)) ⊎ ((d : ℕ) × (h ≡ g + d))
    go true y n = inl (g - h, eq (y tt))
      where
        eq : h ≤ g → g ≡ h + (g - h)
        eq l = omega arith
    go false y n = inr (h - g, eq (n tt))
      where
        eq : g < h → h ≡ g + (h - g)
        eq l = omega arith

size_le : (g h d K : ℕ) → g ≡ h + d → g ≤ h + K → d ≤ K
size_le g h d K e l = omega arith

same_sign : (h d l c K L : ℕ) → d * c ≤ K * L → Close ((h + d) * (l + c) + h * l) ((h + d) * l + h * (l + c)) 0 0 (K * L)
same_sign h d l c K L m = omega arith

cross_sign : (h d l c K L : ℕ) → d * c ≤ K * L → Close ((h + d) * l + h * (l + c)) ((h + d) * (l + c) + h * l) 0 0 (K * L)
cross_sign h d l c K L m = omega arith

pub signed_le : (g h k l K L : ℕ) → g ≤ h + K → h ≤ g + K → k ≤ l + L → l ≤ k + L → Close (g * k + h * l) (g * l + h * k) 0 0 (K * L)
signed_le g h k l K L a b c d = go (apart g h) (apart k l)
  where
    Goal : ℕ → ℕ → ℕ → ℕ → Type 0
    Goal g h k l = Close (g * k + h * l) (g * l + h * k) 0 0 (K * L)

    flip : (g h k l : ℕ) → Close (h * l + g * k) (h * k + g * l) 0 0 (K * L) → Goal g h k l
    flip g h k l p = omega arith

    go : ((d : ℕ) × (g ≡ h + d)) ⊎ ((d : ℕ) × (h ≡ g + d)) → ((d : ℕ) × (k ≡ l + d)) ⊎ ((d : ℕ) × (l ≡ k + d)) → Goal g h k l
    go (inl u) (inl v) =
        subst (λ (x : ℕ). Goal x h k l) (sym u.1) (subst (λ (y : ℕ). Goal (h + u.0) h y l) (sym v.1)
        (same_sign h u.0 l v.0 K L (mul-le-mul (size_le g h u.0 K u.1 a) (size_le k l v.0 L v.1 c))))
    go (inl u) (inr v) =
        subst (λ (x : ℕ). Goal x h k l) (sym u.1) (subst (λ (y : ℕ). Goal (h + u.0) h k y) (sym v.1)
        (cross_sign h u.0 k v.0 K L (mul-le-mul (size_le g h u.0 K u.1 a) (size_le l k v.0 L v.1 d))))
    go (inr u) (inl v) =
        flip g h k l (subst (λ (x : ℕ). Goal x g l k) (sym u.1) (subst (λ (y : ℕ). Goal (g + u.0) g l y) (sym v.1)
        (cross_sign g u.0 l v.0 K L (mul-le-mul (size_le h g u.0 K u.1 b) (size_le k l v.0 L v.1 c)))))
    go (inr u) (inr v) =
        flip g h k l (subst (λ (x : ℕ). Goal x g l k) (sym u.1) (subst (λ (y : ℕ). Goal (g + u.0) g y k) (sym v.1)
        (same_sign g u.0 k v.0 K L (mul-le-mul (size_le h g u.0 K u.1 b) (size_le l k v.0 L v.1 d)))))

mul_error : (P N A B K E P' N' A' B' K' E' : ℕ) → Close P N 0 0 K → Close P' N' 0 0 K' → Close P N A B E → Close P' N' A' B' E'
    → Close (P * P' + N * N') (P * N' + N * P') (A * A' + B * B') (A * B' + B * A') (K * E' + K' * E + E * E')
mul_error P N A B K E P' N' A' B' K' E' m m' c c' =
    let s1 = signed_le P N (P' + B') (N' + A') K E' (omega arith) (omega arith) (omega arith) (omega arith) in
    let s2 = signed_le P' N' (P + B) (N + A) K' E (omega arith) (omega arith) (omega arith) (omega arith) in
    let s3 = signed_le (P + B) (N + A) (P' + B') (N' + A') E E' (omega arith) (omega arith) (omega arith) (omega arith) in
    sum_up s1 s2 s3
  where
    sum_up : Close (P * (P' + B') + N * (N' + A')) (P * (N' + A') + N * (P' + B')) 0 0 (K * E')
        → Close (P' * (P + B) + N' * (N + A)) (P' * (N + A) + N' * (P + B)) 0 0 (K' * E)
        → Close ((P + B) * (P' + B') + (N + A) * (N' + A')) ((P + B) * (N' + A') + (N + A) * (P' + B')) 0 0 (E * E')
        → Close (P * P' + N * N') (P * N' + N * P') (A * A' + B * B') (A * B' + B * A') (K * E' + K' * E + E * E')
    sum_up s1 s2 s3 = omega arith

pub close_trans : (z y c d a b e e' : ℕ) → Close z y c d e → Close c d a b e' → Close z y a b (e + e')
close_trans z y c d a b e e' h k = omega arith

pub close_cancel : (U z y a b e : ℕ) → 0 < U → Close (z * U) (y * U) (a * U) (b * U) (e * U) → Close z y a b e
close_cancel U z y a b e P h = (le_of_mul-le-mul_right (lo h.0) P, le_of_mul-le-mul_right (hi h.1) P)
  where
    lo : z * U + b * U ≤ a * U + y * U + e * U → (z + b) * U ≤ (a + y + e) * U
    lo g = omega arith

    hi : a * U + y * U ≤ z * U + b * U + e * U → (a + y) * U ≤ (z + b + e) * U
    hi g = omega arith

pub close_weaken : (z y a b e e' : ℕ) → e ≤ e' → Close z y a b e → Close z y a b e'
close_weaken z y a b e e' l h = omega arith

mul_arith : (p n q a b e M p' n' q' a' b' e' M' z y r X U : ℕ) → 0 < U → Close p n 0 0 M → Close p' n' 0 0 M'
    → Close (p * q) (n * q) (a * U) (b * U) (e * q) → Close (p' * q') (n' * q') (a' * U) (b' * U) (e' * q')
    → Close (z * U) (y * U) (p * p' + n * n') (p * n' + n * p') (r * U) → M * e' + M' * e + e * e' ≤ X * U
    → Close (z * (q * q')) (y * (q * q')) ((a * a' + b * b') * U) ((a * b' + b * a') * U) ((r + X) * (q * q'))
mul_arith p n q a b e M p' n' q' a' b' e' M' z y r X U P m m' h k l x =
    close_cancel U (z * (q * q')) (y * (q * q')) ((a * a' + b * b') * U) ((a * b' + b * a') * U) ((r + X) * (q * q')) P
    (close_weaken (z * (q * q') * U) (y * (q * q') * U) ((a * a' + b * b') * U * U) ((a * b' + b * a') * U * U)
    (r * U * (q * q') + (M * q * (e' * q') + M' * q' * (e * q) + e * q * (e' * q'))) ((r + X) * (q * q') * U)
    (room (mul-le-mul_right (q * q') x))
    (close_trans (z * (q * q') * U) (y * (q * q') * U) (p * q * (p' * q') + n * q * (n' * q')) (p * q * (n' * q') + n * q * (p' * q'))
    ((a * a' + b * b') * U * U) ((a * b' + b * a') * U * U)
    (r * U * (q * q')) (M * q * (e' * q') + M' * q' * (e * q) + e * q * (e' * q'))
    (first (close_scale (q * q') (z * U) (y * U) (p * p' + n * n') (p * n' + n * p') (r * U) l))
    (second (p * q * (p' * q') + n * q * (n' * q')) (p * q * (n' * q') + n * q * (p' * q')) (M * q * (e' * q') + M' * q' * (e * q) + e * q * (e' * q'))
    (mul_error (p * q) (n * q) (a * U) (b * U) (M * q) (e * q) (p' * q') (n' * q') (a' * U) (b' * U) (M' * q') (e' * q') (zeros p n M q m)
    (zeros p' n' M' q' m') h k))))
  where
    zeros : (p n M q : ℕ) → Close p n 0 0 M → Close (p * q) (n * q) 0 0 (M * q)
    zeros p n M q c = (omega (arith, mul-le-mul_right q c.0), omega (arith, mul-le-mul_right q c.1))

    first : Close (z * U * (q * q')) (y * U * (q * q')) ((p * p' + n * n') * (q * q')) ((p * n' + n * p') * (q * q')) (r * U * (q * q'))
        → Close (z * (q * q') * U) (y * (q * q') * U) (p * q * (p' * q') + n * q * (n' * q')) (p * q * (n' * q') + n * q * (p' * q')) (r * U * (q * q'))
    first c = (omega (arith, c.0), omega (arith, c.1))

    second : (u v w : ℕ) → Close u v (a * U * (a' * U) + b * U * (b' * U)) (a * U * (b' * U) + b * U * (a' * U)) w
        → Close u v ((a * a' + b * b') * U * U) ((a * b' + b * a') * U * U) w
    second u v w c = (omega (arith, c.0), omega (arith, c.1))

    room : (M * e' + M' * e + e * e') * (q * q') ≤ X * U * (q * q')
        → r * U * (q * q') + (M * q * (e' * q') + M' * q' * (e * q) + e * q * (e' * q')) ≤ (r + X) * (q * q') * U
    room g = omega arith

pub over_div : (n U : ℕ) → 0 < U → n ≤ (n / U + 1) * U
over_div n U P =
    let a : n / U * U + n % U ≡ n = div-add-mod' n U in
    let b : n % U < U = mod-lt n P in
    omega arith

spread : (s : Bool) (v M : ℕ) → v ≤ M → Close (pl s v) (mi s v) 0 0 M
spread false v M h = omega arith
spread true v M h = omega arith

-- ---- the size and the error of a product, from those of its parts
abbrev product : Format → ℕ → ℕ → ℕ
product f M M' = M * M' / 2 ^ low f + 1

abbrev pub product_size : Format → ℕ → ℕ → ℕ
product_size f M M' = product f M M' + slack f (product f M M')

abbrev cross : Format → ℕ → ℕ → ℕ → ℕ → ℕ
cross f M e M' e' = (M * e' + M' * e + e * e') / 2 ^ low f + 1

abbrev pub product_error : Format → ℕ → ℕ → ℕ → ℕ → ℕ
product_error f M e M' e' = slack f (product f M M') + cross f M e M' e'

pub held_mul : {f : Format} {x x' : Float} {y y' : Fraction} {M e M' e' : ℕ} → Held f x y M e → Held f x' y' M' e' → product_size f M M' < overflow f
    → Held f (mul f x x') (times y y') (product_size f M M') (product_error f M e M' e')
held_mul {f} {x} {x'} {y} {y'} {M} {e} {M'} {e'} h k o =
    let U = 2 ^ low f in
    let r = mul_near f x x' h.sign k.sign h.size k.size (product f M M') h.value k.value
    (le_trans (mul-le-mul h.small k.small) (over_div (M * M') U (pow_pos (low f)))) o in
    record {
      sign = r.sign;
      size = r.size;
      value = r.value;
      small = r.small;
      near = mul_arith (pl h.sign h.size) (mi h.sign h.size) y.scale y.over y.under e M (pl k.sign k.size) (mi k.sign k.size)
          y'.scale y'.over y'.under e' M'
          (pl r.sign r.size) (mi r.sign r.size) (slack f (product f M M')) (cross f M e M' e') U (pow_pos (low f))
          (spread h.sign h.size M h.small) (spread k.sign k.size M' k.small) h.near k.near r.near
          (over_div (M * e' + M' * e + e * e') U (pow_pos (low f)));
    }
