-- A float that is held near a fraction, said in the reader's terms: finite, and within N / D of the fraction, or of the same number written as another
-- fraction. Assumes nothing.
use mathlib.Core.Path.{◌≡◌, sym, ap, subst}
use Prim.Native.Nat.{ℕ, ◌+◌, ◌*◌, ◌^◌, ◌≤◌, ◌<◌}
use native.Mathlib.Nat.{mul-le-mul_right, le_of_mul-le-mul_right}
use native.Mathlib.Omega.{arith}
use mathlib.Core.Bool.{Bool, true, false}
use lib.Pow.{pow_pos}
use lib.Ieee.{Float, nan, inf, fin, Format, low, up, down}
use lib.Ieee.Exact.{HasValue}
use Rattle.rounding.specs.Fraction.{Fraction, signed, side, Within, Near}
use Rattle.rounding.proofs.Ops.{pl, mi, Close}
use Rattle.rounding.proofs.Errors.{CloseTo, Held, close_scale}

-- ---- the same number as another fraction
pub record Same (x y : Fraction) : Type 0 where
  pub overs : x.over * y.scale ≡ y.over * x.scale
  pub unders : x.under * y.scale ≡ y.under * x.scale
  pub positive : 0 < x.scale

same_arith : (p n q a b e A B S U : ℕ) → 0 < q → a * S ≡ A * q → b * S ≡ B * q → Close (p * q) (n * q) (a * U) (b * U) (e * q)
    → Close (p * S) (n * S) (A * U) (B * U) (e * S)
same_arith p n q a b e A B S U O g h c =
    let g' : a * S * U ≡ A * q * U = ap (λ (z : ℕ). z * U) g in
    let h' : b * S * U ≡ B * q * U = ap (λ (z : ℕ). z * U) h in
    let d = close_scale S (p * q) (n * q) (a * U) (b * U) (e * q) c in
    (le_of_mul-le-mul_right (lo g' h' d.0) O, le_of_mul-le-mul_right (hi g' h' d.1) O)
  where
    lo : a * S * U ≡ A * q * U → b * S * U ≡ B * q * U → p * q * S + b * U * S ≤ a * U * S + n * q * S + e * q * S
        → (p * S + B * U) * q ≤ (A * U + n * S + e * S) * q
    lo x y z = omega arith

    hi : a * S * U ≡ A * q * U → b * S * U ≡ B * q * U → a * U * S + n * q * S ≤ p * q * S + b * U * S + e * q * S
        → (A * U + n * S) * q ≤ (p * S + B * U + e * S) * q
    hi x y z = omega arith

pub held_same : {f : Format} {x : Float} {y z : Fraction} {M e : ℕ} → Same y z → Held f x y M e → Held f x z M e
held_same {f} {x} {y} {z} {M} {e} s h = record {
  sign = h.sign;
  size = h.size;
  value = h.value;
  small = h.small;
  near = same_arith (pl h.sign h.size) (mi h.sign h.size) y.scale y.over y.under e z.over z.under z.scale (2 ^ low f)
      s.positive s.overs s.unders h.near;
}

-- ---- in the reader's terms
units_arith : (p n x z e A B S c u : ℕ) → x * u ≡ p * c → z * u ≡ n * c → Close (p * S) (n * S) (A * u) (B * u) (e * S)
    → ((x * S + B * c) * u ≤ (A * c + z * S) * u + e * (c * S)) × ((A * c + z * S) * u ≤ (x * S + B * c) * u + e * (c * S))
units_arith p n x z e A B S c u h k g =
    let h' : x * u * S ≡ p * c * S = ap (λ (w : ℕ). w * S) h in
    let k' : z * u * S ≡ n * c * S = ap (λ (w : ℕ). w * S) k in
    (lo h' k' (mul-le-mul_right c g.0), hi h' k' (mul-le-mul_right c g.1))
  where
    lo : x * u * S ≡ p * c * S → z * u * S ≡ n * c * S → (p * S + B * u) * c ≤ (A * u + n * S + e * S) * c
        → (x * S + B * c) * u ≤ (A * c + z * S) * u + e * (c * S)
    lo h k g = omega arith

    hi : x * u * S ≡ p * c * S → z * u * S ≡ n * c * S → (A * u + n * S) * c ≤ (p * S + B * u + e * S) * c
        → (A * c + z * S) * u ≤ (x * S + B * c) * u + e * (c * S)
    hi h k g = omega arith

-- from e units of 1 / u to a tolerance N / D
to_tolerance : (X Y Z e u N D : ℕ) → 0 < u → X * u ≤ Y * u + e * Z → e * D ≤ N * u → X * D ≤ Y * D + N * Z
to_tolerance X Y Z e u N D O h l = le_of_mul-le-mul_right (go (mul-le-mul_right D h) (mul-le-mul_right Z l)) O
  where
    go : X * u * D ≤ (Y * u + e * Z) * D → e * D * Z ≤ N * u * Z → X * D * u ≤ (Y * D + N * Z) * u
    go g m = omega arith

near_arith : (p n x z e A B S c u N D : ℕ) → 0 < u → x * u ≡ p * c → z * u ≡ n * c → Close (p * S) (n * S) (A * u) (B * u) (e * S) → e * D ≤ N * u
    → ((x * S + B * c) * D ≤ (A * c + z * S) * D + N * (c * S)) × ((A * c + z * S) * D ≤ (x * S + B * c) * D + N * (c * S))
near_arith p n x z e A B S c u N D O h k g l =
    let r = units_arith p n x z e A B S c u h k g in
    (to_tolerance (x * S + B * c) (A * c + z * S) (c * S) e u N D O r.0 l, to_tolerance (A * c + z * S) (x * S + B * c) (c * S) e u N D O r.1 l)

pub held_near : {f : Format} {x : Float} {y : Fraction} {M e : ℕ} (N D : ℕ) → Held f x y M e → e * D ≤ N * 2 ^ low f → Near x y N D
held_near {f} {x} {y} {M} {e} N D h l = go x h.sign h.size h.value h.near
  where
    U : ℕ
    U = 2 ^ low f

    none : (u c : ℕ) → 0 * u ≡ 0 * c
    none u c = omega arith

    parts : (s : Bool) (X v c : ℕ) → X * U ≡ v * c → CloseTo s v y U e
        → Within (signed s X c) y N D
    parts false X v c g k = near_arith v 0 X 0 e y.over y.under y.scale c U N D (pow_pos (low f)) g (none U c) k l
    parts true X v c g k = near_arith 0 v 0 X e y.over y.under y.scale c U N D (pow_pos (low f)) (none U c) g k l

    go : (x : Float) (s : Bool) (v : ℕ) → HasValue x s v U → CloseTo s v y U e
        → Near x y N D
    go nan s v h k = h
    go (inf t) s v h k = h
    go (fin t m i) s v h k = subst (λ (r : Bool). Near (fin r m i) y N D) (sym h.0) (parts s (m * up i) v (down i) h.1 k)

-- the same tolerance in coarser units
coarser_arith : (X Y W k d D : ℕ) → 0 < d → k * D ≤ d → X * d ≤ Y * d + k * W → X * D ≤ Y * D + 1 * W
coarser_arith X Y W k d D P l h = le_of_mul-le-mul_right (go (mul-le-mul_right D h) (mul-le-mul_right W l)) P
  where
    go : X * d * D ≤ (Y * d + k * W) * D → k * D * W ≤ d * W → X * D * d ≤ (Y * D + 1 * W) * d
    go a b = omega (arith, a, b)

pub coarser : (y : Float) (z : Fraction) (k d D : ℕ) → 0 < d → k * D ≤ d → Near y z k d → Near y z 1 D
coarser nan z k d D P l h = h
coarser (inf s) z k d D P l h = h
coarser (fin s m e) z k d D P l h =
    let y = signed s (m * up e) (down e) in
    (coarser_arith (side y z) (side z y) (y.scale * z.scale) k d D P l h.0, coarser_arith (side z y) (side y z) (y.scale * z.scale) k d D P l h.1)
