-- What the sequences of the exact side are. A root cut off after n binary digits is at most the root, and one more in the last digit is above it. The n-th
-- fraction of ln p and every later one lie within 9^(1-n) of each other, so that they converge. Assumes nothing.
use mathlib.Core.Path.{◌≡◌, refl, sym, ap, ◌∙◌, subst}
use Prim.Native.Nat.{ℕ, zero, suc, ◌+◌, ◌-◌, ◌*◌, ◌/◌, ◌%◌, ◌^◌, ◌≤◌, ◌<◌}
use native.Mathlib.Nat.{le_trans, le_of_lt, lt_of_not-le, lt_of_lt_of_le, le-add_right, mul-one, pow-succ', mul-le-mul_left, mul-le-mul_right, mul_comm}
use native.Mathlib.Nat.{mul-pos, le_of_mul-le-mul_right, div-mul-le_self, div-add-mod', mod-lt}
use native.Mathlib.Omega.{arith}
use native.Mathlib.Decide.{dec_le}
use mathlib.Core.Bool.{Bool, true, false, not, cond}
use lib.Dec.{T, leb, ltb, le→leb, ltb→lt, nltb→le, lit<, lit≤}
use lib.Pow.{pow_pos}
use lib.Ieee.Bits.{is_true}
use Rattle.rounding.specs.Fraction.{Fraction, ratio, side, Within}
use Rattle.rounding.specs.Arithmetic.{plus, times, minus, divided, whole_part, root_at}
use Rattle.rounding.proofs.Ops.{Close}
use Rattle.rounding.proofs.Errors.{signed_le}
use Rattle.rounding.proofs.Root.{cut_is}
use Rattle.distance.specs.Exact.{Q}
use Rattle.exact_lines.specs.Logarithm.{nested, series, ln2, argument, ln_by, exponent, ln}
use Rattle.exact_lines.proofs.Series.{Small, nested_small, ups, deeper}

-- ---- the root

-- one more in the last place
abbrev pub next : Fraction → Fraction
next r = record { over = r.over + 1; under = r.under; scale = r.scale }

pub record Bracket (n : ℕ) (y : Fraction) : Type 0 where
  pub least : side (times (root_at n y) (root_at n y)) y ≤ side y (times (root_at n y) (root_at n y))
  pub most : side y (times (next (root_at n y)) (next (root_at n y))) < side (times (next (root_at n y)) (next (root_at n y))) y

root_low : (yo yu D ys R N : ℕ) → yo ≡ yu + D → R * R * ys ≤ D * (N * N) → (R * R + 0 * 0) * ys + yu * (N * N) ≤ yo * (N * N) + (R * 0 + 0 * R) * ys
root_low yo yu D ys R N e h = subst (λ (z : ℕ). (R * R + 0 * 0) * ys + yu * (N * N) ≤ z * (N * N) + (R * 0 + 0 * R) * ys) (sym e) (go h)
  where
    go : R * R * ys ≤ D * (N * N) → (R * R + 0 * 0) * ys + yu * (N * N) ≤ (yu + D) * (N * N) + (R * 0 + 0 * R) * ys
    go h = omega arith

root_high : (yo yu D ys K N : ℕ) → yo ≡ yu + D → D * (N * N) < K * K * ys → yo * (N * N) + (K * 0 + 0 * K) * ys < (K * K + 0 * 0) * ys + yu * (N * N)
root_high yo yu D ys K N e h = subst (λ (z : ℕ). z * (N * N) + (K * 0 + 0 * K) * ys < (K * K + 0 * 0) * ys + yu * (N * N)) (sym e) (go h)
  where
    go : D * (N * N) < K * K * ys → (yu + D) * (N * N) + (K * 0 + 0 * K) * ys < (K * K + 0 * 0) * ys + yu * (N * N)
    go h = omega arith

over_quotient : (X q K : ℕ) → 0 < q → X / q < K → X < K * q
over_quotient X q K P h = go (X / q) (X % q) (div-add-mod' X q) (mod-lt X P) h
  where
    go : (d r : ℕ) → d * q + r ≡ X → r < q → d < K → X < K * q
    go d r e l h = lt_of_lt_of_le (one e l) (mul-le-mul_right q (two h))
      where
        one : d * q + r ≡ X → r < q → X < (d + 1) * q
        one e l = omega arith

        two : d < K → d + 1 ≤ K
        two h = omega arith

apart : {a b : ℕ} → b ≤ a → a ≡ b + (a - b)
apart h = omega arith

pub root_bracket : (n : ℕ) (y : Fraction) → y.under ≤ y.over → 0 < y.scale → Bracket n y
unfolding root_at
root_bracket n y l q =
    let D = y.over - y.under in
    let R = whole_part (D * 4 ^ n / y.scale) in
    record {
      least = root_low y.over y.under D y.scale R (2 ^ n) (apart l)
          (le_trans (mul-le-mul_right y.scale (cut_is n y).0) (div-mul-le_self (D * (2 ^ n * 2 ^ n)) y.scale));
      most = root_high y.over y.under D y.scale (R + 1) (2 ^ n) (apart l)
          (over_quotient (D * (2 ^ n * 2 ^ n)) y.scale ((R + 1) * (R + 1)) q (cut_is n y).1);
    }

-- ---- sums and products of fractions that are near each other: A and B are the two sides of one pair, S its scales' product
sum_side : (uo us vu vs wo ws zu zs : ℕ)
    → (uo * ws + wo * us) * (vs * zs) + (vu * zs + zu * vs) * (us * ws) ≡ (uo * vs + vu * us) * (ws * zs) + (wo * zs + zu * ws) * (us * vs)
sum_side uo us vu vs wo ws zu zs = omega arith

sum_arith : (A B S A' B' S' b a a' X Y Z : ℕ) → X ≡ A * S' + A' * S → Y ≡ B * S' + B' * S → Z ≡ S * S' → A * b ≤ B * b + a * S → A' * b ≤ B' * b + a' * S'
    → X * b ≤ Y * b + (a + a') * Z
sum_arith A B S A' B' S' b a a' X Y Z x y z h k = rw (x, y, z) (go (mul-le-mul_right S' h) (mul-le-mul_right S k))
  where
    go : A * b * S' ≤ (B * b + a * S) * S' → A' * b * S ≤ (B' * b + a' * S') * S → (A * S' + A' * S) * b ≤ (B * S' + B' * S) * b + (a + a') * (S * S')
    go x y = omega (arith, x, y)

flip : (A B S S' T T' : ℕ) → S ≡ T → S' ≡ T' → A * S' + B * S ≡ A * T' + B * T
flip A B S S' T T' e g = rw (e, g)

scales : (a b c d : ℕ) → a * b * (c * d) ≡ a * c * (b * d)
scales a b c d = omega arith

within_sum : (u v w z : Fraction) (a c b : ℕ) → Within u v a b → Within w z c b → Within (plus u w) (plus v z) (a + c) b
within_sum u v w z a c b h k =
    let S = u.scale * v.scale in
    let S' = w.scale * z.scale in
    let one = sum_side u.over u.scale v.under v.scale w.over w.scale z.under z.scale in
    let two = sum_side v.over v.scale u.under u.scale z.over z.scale w.under w.scale
    ∙ flip (side v u) (side z w) (v.scale * u.scale) (z.scale * w.scale) S S' (mul_comm v.scale u.scale) (mul_comm z.scale w.scale) in
    let all = scales u.scale w.scale v.scale z.scale in (
      sum_arith (side u v) (side v u) S (side w z) (side z w) S' b a c (side (plus u w) (plus v z)) (side (plus v z) (plus u w)) _ one two all h.0 k.0,
      sum_arith (side v u) (side u v) S (side z w) (side w z) S' b a c (side (plus v z) (plus u w)) (side (plus u w) (plus v z)) _ two one all h.1 k.1,
    )

-- c is at most a / b, and at least its negative
pub record Sized (c : Fraction) (a b : ℕ) : Type 0 where
  pub above : c.over * b ≤ c.under * b + a * c.scale
  pub below : c.under * b ≤ c.over * b + a * c.scale

product_side : (uo uu us vo vu vs co cu cs : ℕ)
    → (uo * co + uu * cu) * (vs * cs) + (vo * cu + vu * co) * (us * cs) ≡ (co * (uo * vs + vu * us) + cu * (vo * us + uu * vs)) * cs
product_side uo uu us vo vu vs co cu cs = omega arith

product_arith : (A B S co cu cs a b m k X Y Z : ℕ) → X ≡ (co * A + cu * B) * cs → Y ≡ (co * B + cu * A) * cs → Z ≡ S * cs * cs
    → co * k * (A * b) + cu * k * (B * b) ≤ co * k * (B * b) + cu * k * (A * b) + m * cs * (a * S) → X * (b * k) ≤ Y * (b * k) + a * m * Z
product_arith A B S co cu cs a b m k X Y Z x y z h = rw (x, y, z) (last (co * A) (cu * B) (co * B) (cu * A) (a * m) (mul-le-mul_right cs (first h)))
  where
    first : co * k * (A * b) + cu * k * (B * b) ≤ co * k * (B * b) + cu * k * (A * b) + m * cs * (a * S)
        → (co * A + cu * B) * (b * k) ≤ (co * B + cu * A) * (b * k) + a * m * (S * cs)
    first h = omega arith

    last : (p q r s t : ℕ) → (p + q) * (b * k) * cs ≤ ((r + s) * (b * k) + t * (S * cs)) * cs
        → (p + q) * cs * (b * k) ≤ (r + s) * cs * (b * k) + t * (S * cs * cs)
    last p q r s t h = omega arith

within_product : (u v c : Fraction) (a b m k : ℕ) → Sized c m k → Within u v a b → Within (times u c) (times v c) (a * m) (b * k)
within_product u v c a b m k s h =
    let A = side u v in
    let B = side v u in
    let S = u.scale * v.scale in
    let one : side (times u c) (times v c) ≡ (c.over * A + c.under * B) * c.scale =
    product_side u.over u.under u.scale v.over v.under v.scale c.over c.under c.scale in
    let two : side (times v c) (times u c) ≡ (c.over * B + c.under * A) * c.scale =
    product_side v.over v.under v.scale u.over u.under u.scale c.over c.under c.scale in
    let all = square u.scale v.scale c.scale in
    let p = c.over * k * (A * b) + c.under * k * (B * b) in
    let q = c.over * k * (B * b) + c.under * k * (A * b) in
    let g : Close p q 0 0 (m * c.scale * (a * S)) =
    signed_le (c.over * k) (c.under * k) (A * b) (B * b) (m * c.scale) (a * S) s.above s.below h.0 h.1 in (
      product_arith A B S c.over c.under c.scale a b m k (side (times u c) (times v c)) (side (times v c) (times u c)) _ one two all (front p q _ g),
      product_arith B A S c.over c.under c.scale a b m k (side (times v c) (times u c)) (side (times u c) (times v c)) _ two one all (rear p q _ g),
    )
  where
    square : (a b c : ℕ) → a * c * (b * c) ≡ a * b * c * c
    square a b c = omega arith

    front : (p q r : ℕ) → Close p q 0 0 r → p ≤ q + r
    front p q r h = omega arith

    rear : (p q r : ℕ) → Close p q 0 0 r → q ≤ p + r
    rear p q r h = omega arith

pub same_fraction : {o o' u u' s s' : ℕ} → o ≡ o' → u ≡ u' → s ≡ s'
    → ◌≡◌ {A = Fraction} (record { over = o; under = u; scale = s }) (record { over = o'; under = u'; scale = s' })
same_fraction e f g = rw (e, f, g)

commuted : (u c : Fraction) → times u c ≡ times c u
commuted u c =
    same_fraction (overs u.over u.under c.over c.under) (unders u.over u.under c.over c.under) (mul_comm u.scale c.scale)
  where
    overs : (a b c d : ℕ) → a * c + b * d ≡ c * a + d * b
    overs a b c d = omega arith

    unders : (a b c d : ℕ) → a * d + b * c ≡ c * b + d * a
    unders a b c d = omega arith

within_multiple : (u v c : Fraction) (a b m k : ℕ) → Sized c m k → Within u v a b → Within (times c u) (times c v) (a * m) (b * k)
within_multiple u v c a b m k s h =
    subst (λ (x : Fraction). Within x (times c v) (a * m) (b * k)) (commuted u c)
    (subst (λ (x : Fraction). Within (times u c) x (a * m) (b * k)) (commuted v c) (within_product u v c a b m k s h))

-- ---- the nested series: n terms and more than n differ by what is left, (d + 1) / d * (d + 1)^-n at most for a y from 0 to 1 / (d + 1)

-- d * (d + 1)^n
unfoldable depth : ℕ → ℕ → ℕ
depth d zero = d
depth d (suc n) = depth d n * (d + 1)

sized_small : (y : Fraction) (b : ℕ) → Small y 1 b → Sized y 1 b
sized_small y b s = record {
  above = flipped (y.over * b) (1 * y.scale) (y.under * b) s.most;
  below = le_trans (mul-le-mul_right b s.ordered) (le-add_right (y.over * b) (1 * y.scale));
}
  where
    flipped : (x y z : ℕ) → x ≤ y + z → x ≤ z + y
    flipped x y z h = omega arith

module _ (y : Fraction) (d : ℕ) (sy : Small y 1 (d + 1)) where
  nothing_left : (j k : ℕ) → Within (nested j k y) (ratio 0 1) (d + 1) d
  nothing_left j k =
      let s = nested_small y d sy j k in
      go (nested j k y).over (nested j k y).under (nested j k y).scale (2 * k + 1) (odd k) s.ordered s.most
    where
      odd : (k : ℕ) → 1 ≤ 2 * k + 1
      odd k = omega arith

      go : (o u s m : ℕ) → 1 ≤ m → u ≤ o → o * (d * m) ≤ (d + 1) * s + u * (d * m)
          → ((o * 1 + 0 * s) * d ≤ (0 * s + u * 1) * d + (d + 1) * (s * 1)) × ((0 * s + u * 1) * d ≤ (o * 1 + 0 * s) * d + (d + 1) * (s * 1))
      go o u s m l h g = split (o - u) (apart h) g
        where
          split : (W : ℕ) → o ≡ u + W → o * (d * m) ≤ (d + 1) * s + u * (d * m)
              → ((o * 1 + 0 * s) * d ≤ (0 * s + u * 1) * d + (d + 1) * (s * 1)) × ((0 * s + u * 1) * d ≤ (o * 1 + 0 * s) * d + (d + 1) * (s * 1))
          split W e g = (
            subst (λ (o : ℕ). (o * 1 + 0 * s) * d ≤ (0 * s + u * 1) * d + (d + 1) * (s * 1)) (sym e)
                (above (le_trans (mul-le-mul_left (W * d) l) (less (subst (λ (o : ℕ). o * (d * m) ≤ (d + 1) * s + u * (d * m)) e g)))),
            subst (λ (o : ℕ). (0 * s + u * 1) * d ≤ (o * 1 + 0 * s) * d + (d + 1) * (s * 1)) (sym e) below,
          )
            where
              less : (u + W) * (d * m) ≤ (d + 1) * s + u * (d * m) → W * d * m ≤ (d + 1) * s
              less h = omega arith

              above : W * d * 1 ≤ (d + 1) * s → ((u + W) * 1 + 0 * s) * d ≤ (0 * s + u * 1) * d + (d + 1) * (s * 1)
              above h = omega arith

              below : (0 * s + u * 1) * d ≤ ((u + W) * 1 + 0 * s) * d + (d + 1) * (s * 1)
              below = omega arith

  left : (n j k : ℕ) → Within (nested (ups n j) k y) (nested n k y) (d + 1) (depth d n)
  unfolding nested depth
  left zero j k = nothing_left j k
  left (suc n) j k =
      subst (λ (a : ℕ). Within (nested (ups (suc n) j) k y) (nested (suc n) k y) a (depth d n * (d + 1))) (same d)
      (within_sum (times (nested (ups n j) (suc k) y) y) (times (nested n (suc k) y) y) (ratio 1 (2 * k + 1)) (ratio 1 (2 * k + 1)) ((d + 1) * 1) 0
      (depth d n * (d + 1))
      (within_product (nested (ups n j) (suc k) y) (nested n (suc k) y) y (d + 1) (depth d n) 1 (d + 1) (sized_small y (d + 1) sy) (left n j (suc k)))
      (itself (2 * k + 1) (depth d n * (d + 1))))
    where
      same : (d : ℕ) → (d + 1) * 1 + 0 ≡ d + 1
      same d = omega arith

      itself : (m b : ℕ) → Within (ratio 1 m) (ratio 1 m) 0 b
      itself m b = (go ((1 * m + 0 * m) * b) (m * m), go ((1 * m + 0 * m) * b) (m * m))
        where
          go : (x y : ℕ) → x ≤ x + 0 * y
          go x y = omega arith

-- ---- the logarithm

-- z from -1/3 to 1/3: its square is from 0 to 1/9, and twice it is less than 1
square_small : (z : Fraction) → 0 < z.scale → Sized z 1 3 → Small (times z z) 1 (8 + 1)
square_small z P s = record {
  positive = mul-pos P P;
  ordered = squares z.over z.under;
  most = nine z.over z.under z.scale
      (signed_le (z.over * 3) (z.under * 3) (z.over * 3) (z.under * 3) (1 * z.scale) (1 * z.scale) s.above s.below s.above s.below);
}
  where
    squares : (a b : ℕ) → a * b + b * a ≤ a * a + b * b
    squares a b = go (dec_le a b)
      where
        go : Dec (a ≤ b) → a * b + b * a ≤ a * a + b * b
        go (yes h) = subst (λ (b : ℕ). a * b + b * a ≤ a * a + b * b) (sym (apart h)) (open' a (b - a))
          where
            open' : (a D : ℕ) → a * (a + D) + (a + D) * a ≤ a * a + (a + D) * (a + D)
            open' a D = omega arith
        go (no h) = subst (λ (a : ℕ). a * b + b * a ≤ a * a + b * b) (sym (apart (le_of_lt (lt_of_not-le h)))) (open' b (a - b))
          where
            open' : (b D : ℕ) → (b + D) * b + b * (b + D) ≤ (b + D) * (b + D) + b * b
            open' b D = omega arith

    nine : (a b s : ℕ) → Close (a * 3 * (a * 3) + b * 3 * (b * 3)) (a * 3 * (b * 3) + b * 3 * (a * 3)) 0 0 (1 * s * (1 * s))
        → (a * a + b * b) * 9 ≤ 1 * (s * s) + (a * b + b * a) * 9
    nine a b s h = omega arith

twice_sized : (z : Fraction) → Sized z 1 3 → Sized (times (ratio 2 1) z) 1 1
twice_sized z s = record { above = go z.over z.under z.scale s.above; below = go z.under z.over z.scale s.below }
  where
    go : (a b s : ℕ) → a * 3 ≤ b * 3 + 1 * s → (2 * a + 0 * b) * 1 ≤ (2 * b + 0 * a) * 1 + 1 * (1 * s)
    go a b s h = omega arith

series_left : (z : Fraction) → 0 < z.scale → Sized z 1 3 → (n j : ℕ) → Within (series (ups n j) z) (series n z) (9 * 1) (depth 8 n * 1)
series_left z P s n j =
    within_multiple (nested (ups n j) 0 (times z z)) (nested n 0 (times z z)) (times (ratio 2 1) z) 9 (depth 8 n) 1 1 (twice_sized z s)
    (left (times z z) 8 (square_small z P s) n j 0)

third : Sized (ratio 1 3) 1 3
third = record { above = lit≤ tt; below = lit≤ tt }

-- m = P / W from 1/2 to 2: (m - 1) / (m + 1) is from -1/3 to 1/3
record Third (z : Fraction) : Type 0 where
  positive : 0 < z.scale
  sized : Sized z 1 3

argument_third : (P W : ℕ) → 0 < W → W ≤ 2 * P → P ≤ 2 * W → Third (argument (ratio P W))
argument_third P W w l h = subst Third (sym is) facts
  where
    difference : Fraction
    difference = minus (ratio P W) (ratio 1 1)

    total : Fraction
    total = plus (ratio P W) (ratio 1 1)

    nothing : (W X : ℕ) → 0 * 1 + 0 * W ≤ X
    nothing W X = omega arith

    is : argument (ratio P W) ≡ divided true difference total
    is =
        ap (λ (b : Bool). divided b difference total)
        (is_true (leb total.under total.over) (le→leb total.under total.over (nothing W total.over)))

    scale_is : total.over - total.under ≡ P + W
    scale_is = go P W
      where
        go : (P W : ℕ) → P * 1 + 1 * W - (0 * 1 + 0 * W) ≡ P + W
        go P W = omega arith

    facts : Third (divided true difference total)
    facts = record {
      positive = subst (λ (z : ℕ). 0 < W * 1 * z) (sym scale_is) (mul-pos (once w) (more w));
      sized = record {
        above = subst (λ (z : ℕ). (P * 1 + 0 * W) * (W * 1) * 3 ≤ (0 * 1 + 1 * W) * (W * 1) * 3 + 1 * (W * 1 * z)) (sym scale_is) (up (mul-le-mul_right W h));
        below = subst (λ (z : ℕ). (0 * 1 + 1 * W) * (W * 1) * 3 ≤ (P * 1 + 0 * W) * (W * 1) * 3 + 1 * (W * 1 * z)) (sym scale_is) (down (mul-le-mul_right W l));
      };
    }
      where
        once : 0 < W → 0 < W * 1
        once w = omega arith

        more : 0 < W → 0 < P + W
        more w = omega arith

        up : P * W ≤ 2 * W * W → (P * 1 + 0 * W) * (W * 1) * 3 ≤ (0 * 1 + 1 * W) * (W * 1) * 3 + 1 * (W * 1 * (P + W))
        up h = omega arith

        down : W * W ≤ 2 * P * W → (0 * 1 + 1 * W) * (W * 1) * 3 ≤ (P * 1 + 0 * W) * (W * 1) * 3 + 1 * (W * 1 * (P + W))
        down h = omega arith

-- ln p = e ln 2 + ln m
depth_is : (n : ℕ) → depth 8 n ≡ 8 * 9 ^ n
unfolding depth
depth_is zero = refl
depth_is (suc n) = ap (λ (z : ℕ). z * (8 + 1)) (depth_is n) ∙ turn (9 ^ n) ∙ ap (λ (z : ℕ). 8 * z) (sym (pow-succ' 9 n))
  where
    turn : (x : ℕ) → 8 * x * (8 + 1) ≡ 8 * (9 * x)
    turn x = omega arith

-- 9 (e + 1) / (8 * 9^n) is 9 / 9^n at most for an e up to 7
ln_by_left : (n j e P : ℕ) → e ≤ 7 → Third (argument (ratio P (2 ^ e * Q))) → Within (ln_by (ups n j) e P) (ln_by n e P) 9 (9 ^ n)
ln_by_left n j e P l t =
    let z = argument (ratio P (2 ^ e * Q)) in
    let w = within_sum (times (ratio e 1) (ln2 (ups n j))) (times (ratio e 1) (ln2 n)) (series (ups n j) z) (series n z) (9 * 1 * e) (9 * 1) (depth 8 n * 1 * 1)
    (within_multiple (ln2 (ups n j)) (ln2 n) (ratio e 1) (9 * 1) (depth 8 n * 1) e 1 (itself e) (series_left (ratio 1 3) (lit< tt) third n j))
    (subst (λ (b : ℕ). Within (series (ups n j) z) (series n z) (9 * 1) b) (sym (mul-one (depth 8 n * 1))) (series_left z t.positive t.sized n j)) in
    let S = (ln_by (ups n j) e P).scale * (ln_by n e P).scale in (
      coarse (side (ln_by (ups n j) e P) (ln_by n e P)) (side (ln_by n e P) (ln_by (ups n j) e P)) S (depth 8 n) (9 ^ n) (depth_is n) w.0,
      coarse (side (ln_by n e P) (ln_by (ups n j) e P)) (side (ln_by (ups n j) e P) (ln_by n e P)) S (depth 8 n) (9 ^ n) (depth_is n) w.1,
    )
  where
    itself : (e : ℕ) → Sized (ratio e 1) e 1
    itself e = record { above = go e; below = none e }
      where
        go : (e : ℕ) → e * 1 ≤ 0 * 1 + e * 1
        go e = omega arith

        none : (e : ℕ) → 0 * 1 ≤ e * 1 + e * 1
        none e = omega arith

    coarse : (X Y S D N : ℕ) → D ≡ 8 * N → X * (D * 1 * 1) ≤ Y * (D * 1 * 1) + (9 * 1 * e + 9 * 1) * S → X * N ≤ Y * N + 9 * S
    coarse X Y S D N d h =
        le_of_mul-le-mul_right (go (subst (λ (D : ℕ). X * (D * 1 * 1) ≤ Y * (D * 1 * 1) + (9 * 1 * e + 9 * 1) * S) d h) (mul-le-mul_right S l))
        (lit< {m = 0} {n = 8} tt)
      where
        go : X * (8 * N * 1 * 1) ≤ Y * (8 * N * 1 * 1) + (9 * 1 * e + 9 * 1) * S → e * S ≤ 7 * S → X * N * 8 ≤ (Y * N + 9 * S) * 8
        go h k = omega arith

pub ln_converges : (P : ℕ) → 12 * Q ≤ P → P < 192 * Q → (n m : ℕ) → n ≤ m → Within (ln m P) (ln n P) 9 (9 ^ n)
unfolding ln
ln_converges P l h n m d =
    subst (λ (k : ℕ). Within (ln_by k (exponent P) P) (ln_by n (exponent P) P) 9 (9 ^ n)) (sym (deeper n m d))
    (at_exponent (ltb P (24 * Q)) (ltb P (48 * Q)) (ltb P (96 * Q)) (ltb→lt P (24 * Q)) (nltb→le P (24 * Q)) (ltb→lt P (48 * Q)) (nltb→le P (48 * Q))
    (ltb→lt P (96 * Q)) (nltb→le P (96 * Q)))
  where
    by_e : (e a b : ℕ) → e ≤ 7 → a * Q ≤ P → P ≤ b * Q → 2 ^ e ≤ 2 * a → b ≤ 2 * 2 ^ e → Within (ln_by (ups n (m - n)) e P) (ln_by n e P) 9 (9 ^ n)
    by_e e a b l f t c d =
        ln_by_left n (m - n) e P l
        (argument_third P (2 ^ e * Q) (mul-pos (pow_pos e) (pow_pos 48)) (from Q (mul-le-mul_right Q c) f) (to Q t (mul-le-mul_right Q d)))
      where
        from : (Q : ℕ) → 2 ^ e * Q ≤ 2 * a * Q → a * Q ≤ P → 2 ^ e * Q ≤ 2 * P
        from Q c f = go (2 ^ e * Q) c f
          where
            go : (W : ℕ) → W ≤ 2 * a * Q → a * Q ≤ P → W ≤ 2 * P
            go W c f = omega arith

        to : (Q : ℕ) → P ≤ b * Q → b * Q ≤ 2 * 2 ^ e * Q → P ≤ 2 * (2 ^ e * Q)
        to Q t d = go (2 ^ e) t d
          where
            go : (w : ℕ) → P ≤ b * Q → b * Q ≤ 2 * w * Q → P ≤ 2 * (w * Q)
            go w t d = omega arith

    at_exponent : (b24 b48 b96 : Bool) → (T b24 → P < 24 * Q) → (T (not b24) → 24 * Q ≤ P) → (T b48 → P < 48 * Q) → (T (not b48) → 48 * Q ≤ P)
        → (T b96 → P < 96 * Q) → (T (not b96) → 96 * Q ≤ P)
        → Within (ln_by (ups n (m - n)) (cond b24 4 (cond b48 5 (cond b96 6 7))) P) (ln_by n (cond b24 4 (cond b48 5 (cond b96 6 7))) P) 9 (9 ^ n)
    at_exponent true b48 b96 f1 f2 f3 f4 f5 f6 = by_e 4 12 24 (lit≤ tt) l (le_of_lt (f1 tt)) (lit≤ tt) (lit≤ tt)
    at_exponent false true b96 f1 f2 f3 f4 f5 f6 = by_e 5 24 48 (lit≤ tt) (f2 tt) (le_of_lt (f3 tt)) (lit≤ tt) (lit≤ tt)
    at_exponent false false true f1 f2 f3 f4 f5 f6 = by_e 6 48 96 (lit≤ tt) (f4 tt) (le_of_lt (f5 tt)) (lit≤ tt) (lit≤ tt)
    at_exponent false false false f1 f2 f3 f4 f5 f6 = by_e 7 96 192 (lit≤ tt) (f6 tt) (le_of_lt h) (lit≤ tt) (lit≤ tt)
