-- A rounded sum and a rounded product, with signs. A finite value is ±v units of 2 ^ -low; (a, b) stands for the whole number a - b. Assumes nothing.
use mathlib.Core.Path.{◌≡◌, refl, sym, ap, subst, subst₂}
use Prim.Native.Nat.{ℕ, ◌+◌, ◌-◌, ◌*◌, ◌^◌, ◌≤◌, ◌<◌}
use native.Mathlib.Nat.{le_of_lt, mul-le-mul_right, mul-pos, le_of_mul-le-mul_right}
use native.Mathlib.Omega.{arith}
use mathlib.Core.Bool.{Bool, true, false, not, ◌&&◌, cond}
use lib.IntN.{ℤ}
use lib.Dec.{T, ltb, ltb→lt, nltb→le}
use lib.Pow.{pow_pos}
use lib.Ieee.{Float, nan, inf, fin, Format, low, up, down, unlike, round, sum, add, mul}
use lib.Ieee.Fits.{down_pos}
use lib.Ieee.Exact.{HasValue}
use lib.Ieee.Scale.{overflow}
use Rattle.rounding.proofs.Round.{slack, round_near}

-- ±v as a difference
abbrev pub pl : Bool → ℕ → ℕ
pl false v = v
pl true v = 0

abbrev pub mi : Bool → ℕ → ℕ
mi false v = 0
mi true v = v

-- |(a - b) - (c - d)| ≤ e
abbrev pub Close : ℕ → ℕ → ℕ → ℕ → ℕ → Type 0
Close a b c d e = (a + d ≤ c + b + e) × (c + b ≤ a + d + e)

-- x is finite, of ±size units with size ≤ B + slack B, and within slack B units of (a - b) / c units
pub record Result (f : Format) (x : Float) (B c a b : ℕ) : Type 0 where
  pub sign : Bool
  pub size : ℕ
  pub value : HasValue x sign size (2 ^ low f)
  pub small : size ≤ B + slack f B
  pub near : Close (pl sign size * c) (mi sign size * c) a b (slack f B * c)

-- ---- a finite value taken apart
pub record Parts (x : Float) (s : Bool) (v c : ℕ) : Type 0 where
  pub m : ℕ
  pub e : ℤ
  pub is : x ≡ fin s m e
  pub val : m * up e * c ≡ v * down e

pub parts : (x : Float) (s : Bool) (v c : ℕ) → HasValue x s v c → Parts x s v c
parts nan s v c h = absurd h
parts (inf t) s v c h = absurd h
parts (fin t m e) s v c h = record { m = m; e = e; is = ap (λ (b : Bool). fin b m e) h.0; val = h.1 }

-- ---- ±(w - v), rounded
record Diff (f : Format) (s : Bool) (d c B v w : ℕ) : Type 0 where
  size : ℕ
  value : HasValue (round f s d c) s size (2 ^ low f)
  small : size ≤ B + slack f B
  above : size + v ≤ w + slack f B
  below : w ≤ size + v + slack f B

diff_near : (f : Format) (s : Bool) (d c B v w : ℕ) → 0 < c → d * 2 ^ low f + v * c ≡ w * c → w ≤ B → B + slack f B < overflow f → Diff f s d c B v w
diff_near f s d c B v w C e b o =
    let r = round_near f s d c B C (fits (d * 2 ^ low f) b e) o in
    record {
      size = r.size;
      value = r.value;
      small = r.small;
      above = le_of_mul-le-mul_right (up1 r.size (d * 2 ^ low f) (slack f B) r.above e) C;
      below = le_of_mul-le-mul_right (up2 r.size (d * 2 ^ low f) (slack f B) r.below e) C;
    }
  where
    fits : (n : ℕ) → w ≤ B → n + v * c ≡ w * c → n ≤ B * c
    fits n h g = omega (arith, mul-le-mul_right c h)

    up1 : (z n r : ℕ) → z * c ≤ n + r * c → n + v * c ≡ w * c → (z + v) * c ≤ (w + r) * c
    up1 z n r h g = omega arith

    up2 : (z n r : ℕ) → n ≤ z * c + r * c → n + v * c ≡ w * c → w * c ≤ (z + v + r) * c
    up2 z n r h g = omega arith

both : (a b v w U c : ℕ) → a * U ≡ v * c → b * U ≡ w * c → (a + b) * U + 0 * c ≡ (v + w) * c
both a b v w U c p q = omega arith

less : (a b v w U c : ℕ) → a ≤ b → a * U ≡ v * c → b * U ≡ w * c → (b - a) * U + v * c ≡ w * c
less a b v w U c l p q = go (b - a) (omega arith)
  where
    go : (d : ℕ) → b ≡ a + d → d * U + v * c ≡ w * c
    go d e = let g : b * U ≡ (a + d) * U = ap (λ (x : ℕ). x * U) e in omega arith

left_le : (v w B : ℕ) → v + w ≤ B → v ≤ B
left_le v w B h = omega arith

right_le : (v w B : ℕ) → v + w ≤ B → w ≤ B
right_le v w B h = omega arith

abbrev Exact+ : (f : Format) → Float → ℕ → Bool → ℕ → Bool → ℕ → Type 0
Exact+ f x B s v t w = Result f x B 1 (pl s v + pl t w) (mi s v + mi t w)

sum_near : (f : Format) (s : Bool) (a : ℕ) (t : Bool) (b c v w B : ℕ) → 0 < c → a * 2 ^ low f ≡ v * c → b * 2 ^ low f ≡ w * c → v + w ≤ B
    → B + slack f B < overflow f
    → Exact+ f (sum f s a t b c) B s v t w
unfolding sum
sum_near f false a false b c v w B C p q l o =
    let r = diff_near f false (a + b) c B 0 (v + w) C (both a b v w (2 ^ low f) c p q) l o in
    record { sign = false; size = r.size; value = r.value; small = r.small; near = fit r.size (slack f B) r.above r.below }
  where
    fit : (z r : ℕ) → z + 0 ≤ v + w + r → v + w ≤ z + 0 + r → Close (z * 1) (0 * 1) (v + w) 0 (r * 1)
    fit z r h k = omega arith
sum_near f true a true b c v w B C p q l o =
    let r = diff_near f true (a + b) c B 0 (v + w) C (both a b v w (2 ^ low f) c p q) l o in
    record { sign = true; size = r.size; value = r.value; small = r.small; near = fit r.size (slack f B) r.above r.below }
  where
    fit : (z r : ℕ) → z + 0 ≤ v + w + r → v + w ≤ z + 0 + r → Close (0 * 1) (z * 1) 0 (v + w) (r * 1)
    fit z r h k = omega arith
sum_near f false a true b c v w B C p q l o = go (ltb a b) (ltb→lt a b) (nltb→le a b)
  where
    fit1 : (z r : ℕ) → z + v ≤ w + r → w ≤ z + v + r → Close (0 * 1) (z * 1) (v + 0) (0 + w) (r * 1)
    fit1 z r h k = omega arith

    fit2 : (z r : ℕ) → z + w ≤ v + r → v ≤ z + w + r → Close (z * 1) (0 * 1) (v + 0) (0 + w) (r * 1)
    fit2 z r h k = omega arith

    go : (k : Bool) → (T k → a < b) → (T (not k) → b ≤ a) → Exact+ f (cond k (round f true (b - a) c) (round f (false && ltb b a) (a - b) c)) B false v true w
    go true y n =
        let r = diff_near f true (b - a) c B v w C (less a b v w (2 ^ low f) c (le_of_lt (y tt)) p q) (right_le v w B l) o in
        record { sign = true; size = r.size; value = r.value; small = r.small; near = fit1 r.size (slack f B) r.above r.below }
    go false y n =
        let r = diff_near f false (a - b) c B w v C (less b a w v (2 ^ low f) c (n tt) q p) (left_le v w B l) o in
        record { sign = false; size = r.size; value = r.value; small = r.small; near = fit2 r.size (slack f B) r.above r.below }
sum_near f true a false b c v w B C p q l o = go (ltb a b) (ltb→lt a b) (nltb→le a b)
  where
    fit1 : (z r : ℕ) → z + v ≤ w + r → w ≤ z + v + r → Close (z * 1) (0 * 1) (0 + w) (v + 0) (r * 1)
    fit1 z r h k = omega arith

    fit2 : (z r : ℕ) → z + w ≤ v + r → v ≤ z + w + r → Close (0 * 1) (z * 1) (0 + w) (v + 0) (r * 1)
    fit2 z r h k = omega arith

    -- an exact zero is +0
    fit3 : (z r : ℕ) → b ≤ a → a ≤ b → z + w ≤ v + r → v ≤ z + w + r → Close (z * 1) (0 * 1) (0 + w) (v + 0) (r * 1)
    fit3 z r m n h k =
        let i : a * 2 ^ low f ≤ b * 2 ^ low f = mul-le-mul_right (2 ^ low f) n in
        let j : v * c ≤ w * c = omega arith in
        let x : v ≤ w = le_of_mul-le-mul_right j C in
        let i' : b * 2 ^ low f ≤ a * 2 ^ low f = mul-le-mul_right (2 ^ low f) m in
        let j' : w * c ≤ v * c = omega arith in
        let x' : w ≤ v = le_of_mul-le-mul_right j' C in
        omega arith

    inner : (k : Bool) → b ≤ a → (T (not k) → a ≤ b) → Exact+ f (round f (true && k) (a - b) c) B true v false w
    inner true n m =
        let r = diff_near f true (a - b) c B w v C (less b a w v (2 ^ low f) c n q p) (left_le v w B l) o in
        record { sign = true; size = r.size; value = r.value; small = r.small; near = fit2 r.size (slack f B) r.above r.below }
    inner false n m =
        let r = diff_near f false (a - b) c B w v C (less b a w v (2 ^ low f) c n q p) (left_le v w B l) o in
        record { sign = false; size = r.size; value = r.value; small = r.small; near = fit3 r.size (slack f B) n (m tt) r.above r.below }

    go : (k : Bool) → (T k → a < b) → (T (not k) → b ≤ a) → Exact+ f (cond k (round f false (b - a) c) (round f (true && ltb b a) (a - b) c)) B true v false w
    go true y n =
        let r = diff_near f false (b - a) c B v w C (less a b v w (2 ^ low f) c (le_of_lt (y tt)) p q) (right_le v w B l) o in
        record { sign = false; size = r.size; value = r.value; small = r.small; near = fit1 r.size (slack f B) r.above r.below }
    go false y n = inner (ltb b a) (n tt) (nltb→le b a)

add_fin : (f : Format) (s : Bool) (m : ℕ) (e : ℤ) (t : Bool) (n : ℕ) (d : ℤ)
    → add f (fin s m e) (fin t n d) ≡ sum f s (m * up e * down d) t (n * up d * down e) (down e * down d)
unfolding add
add_fin f s m e t n d = refl

pub add_near : (f : Format) (x y : Float) (s t : Bool) (v w B : ℕ) → HasValue x s v (2 ^ low f) → HasValue y t w (2 ^ low f) → v + w ≤ B
    → B + slack f B < overflow f
    → Result f (add f x y) B 1 (pl s v + pl t w) (mi s v + mi t w)
add_near f x y s t v w B h k l o =
    let a = parts x s v (2 ^ low f) h in
    let b = parts y t w (2 ^ low f) k in
    subst₂ (λ (x y : Float). Exact+ f (add f x y) B s v t w) (sym a.is) (sym b.is)
    (subst (λ (z : Float). Exact+ f z B s v t w) (sym (add_fin f s a.m a.e t b.m b.e))
    (sum_near f s (a.m * up a.e * down b.e) t (b.m * up b.e * down a.e) (down a.e * down b.e) v w B
    (mul-pos (down_pos a.e) (down_pos b.e))
    (over (a.m * up a.e) (down a.e) (down b.e) v (2 ^ low f) a.val) (over' (b.m * up b.e) (down b.e) (down a.e) w (2 ^ low f) b.val)
    l o))
  where
    over : (X dx dy v U : ℕ) → X * U ≡ v * dx → X * dy * U ≡ v * (dx * dy)
    over X dx dy v U e = let g : X * U * dy ≡ v * dx * dy = ap (λ (z : ℕ). z * dy) e in omega arith

    over' : (X dx dy v U : ℕ) → X * U ≡ v * dx → X * dy * U ≡ v * (dy * dx)
    over' X dx dy v U e = let g : X * U * dy ≡ v * dx * dy = ap (λ (z : ℕ). z * dy) e in omega arith

-- ---- the product
mul_fin : (f : Format) (s : Bool) (m : ℕ) (e : ℤ) (t : Bool) (n : ℕ) (d : ℤ)
    → mul f (fin s m e) (fin t n d) ≡ round f (unlike s t) (m * up e * (n * up d)) (down e * down d)
unfolding mul
mul_fin f s m e t n d = refl

abbrev Exact* : (f : Format) → Float → ℕ → Bool → ℕ → Bool → ℕ → Type 0
Exact* f x B s v t w = Result f x B (2 ^ low f) (pl s v * pl t w + mi s v * mi t w) (pl s v * mi t w + mi s v * pl t w)

signs : (s t : Bool) (z v w U r : ℕ) → z * U ≤ v * w + r * U → v * w ≤ z * U + r * U
    → Close (pl (unlike s t) z * U) (mi (unlike s t) z * U) (pl s v * pl t w + mi s v * mi t w) (pl s v * mi t w + mi s v * pl t w) (r * U)
signs false false z v w U r h k = omega arith
signs false true z v w U r h k = omega arith
signs true false z v w U r h k = omega arith
signs true true z v w U r h k = omega arith

product : (X Y dx dy v w U : ℕ) → X * U ≡ v * dx → Y * U ≡ w * dy → X * Y * U * U ≡ v * w * (dx * dy)
product X Y dx dy v w U p q =
    let g : X * U * (Y * U) ≡ v * dx * (Y * U) = ap (λ (z : ℕ). z * (Y * U)) p in
    let h : v * dx * (Y * U) ≡ v * dx * (w * dy) = ap (λ (z : ℕ). v * dx * z) q in
    omega arith

mul_bound : (n c U P B : ℕ) → 0 < U → n * U * U ≡ P * c → P ≤ B * U → n * U ≤ B * c
mul_bound n c U P B Q e b = le_of_mul-le-mul_right (go (mul-le-mul_right c b)) Q
  where
    go : P * c ≤ B * U * c → n * U * U ≤ B * c * U
    go h = omega arith

mul_above : (z n c U P r : ℕ) → 0 < c → n * U * U ≡ P * c → z * c ≤ n * U + r * c → z * U ≤ P + r * U
mul_above z n c U P r C e h = le_of_mul-le-mul_right (go (mul-le-mul_right U h)) C
  where
    go : z * c * U ≤ (n * U + r * c) * U → z * U * c ≤ (P + r * U) * c
    go h = omega arith

mul_below : (z n c U P r : ℕ) → 0 < c → n * U * U ≡ P * c → n * U ≤ z * c + r * c → P ≤ z * U + r * U
mul_below z n c U P r C e h = le_of_mul-le-mul_right (go (mul-le-mul_right U h)) C
  where
    go : n * U * U ≤ (z * c + r * c) * U → P * c ≤ (z * U + r * U) * c
    go h = omega arith

pub mul_near : (f : Format) (x y : Float) (s t : Bool) (v w B : ℕ) → HasValue x s v (2 ^ low f) → HasValue y t w (2 ^ low f) → v * w ≤ B * 2 ^ low f
    → B + slack f B < overflow f
    → Result f (mul f x y) B (2 ^ low f) (pl s v * pl t w + mi s v * mi t w) (pl s v * mi t w + mi s v * pl t w)
mul_near f x y s t v w B h k l o =
    let U = 2 ^ low f in
    let a = parts x s v U h in
    let b = parts y t w U k in
    let n = a.m * up a.e * (b.m * up b.e) in
    let c = down a.e * down b.e in
    let C = mul-pos (down_pos a.e) (down_pos b.e) in
    let e = product (a.m * up a.e) (b.m * up b.e) (down a.e) (down b.e) v w U a.val b.val in
    let r = round_near f (unlike s t) n c B C (mul_bound n c U (v * w) B (pow_pos (low f)) e l) o in
    subst₂ (λ (x y : Float). Exact* f (mul f x y) B s v t w) (sym a.is) (sym b.is)
    (subst (λ (z : Float). Exact* f z B s v t w) (sym (mul_fin f s a.m a.e t b.m b.e))
    (record {
      sign = unlike s t;
      size = r.size;
      value = r.value;
      small = r.small;
      near = signs s t r.size v w U (slack f B) (mul_above r.size n c U (v * w) (slack f B) C e r.above)
          (mul_below r.size n c U (v * w) (slack f B) C e r.below);
    }))
