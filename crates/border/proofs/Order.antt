-- Of f64s above 0: a difference and a quotient grow with their first number, a sum with what is added; and of two numbers one is below the other or not. Assumes nothing.
use mathlib.Core.Path.{◌≡◌, refl, sym, ◌∙◌, subst}
use Prim.Native.Nat.{ℕ, zero, suc, ◌+◌, ◌-◌, ◌*◌, ◌≤◌, ◌<◌, zero-le}
use native.Mathlib.Nat.{le_trans, le_of_eq, lt_of_le_of_lt, lt_of_not-le, not-le_of_lt, zero-lt-suc, mul_comm, mul-sub, mul-pos, mul-le-mul_right}
use native.Mathlib.Omega.{arith}
use mathlib.Core.Bool.{Bool, true, false, ◌||◌, cond}
use lib.IntN.{ℤ}
use lib.Dec.{T, ltb, eqb, ltb→lt, lt→ltb, eqb→eq}
use lib.Ieee.{Float, nan, inf, fin, binary64, up, down, round, sum, add, sub, div, le, lt, eq}
use lib.Ieee.Bits.{is_true}
use lib.Ieee.Fits.{up_pos}
use lib.Ieee.Order.{round_mono}
use lib.Ieee.Positive.{num, den, den_pos, positive, above_of_le, first_pos, le→cross, cross→le, le_trans_positive}

-- ---- a number above 0, taken apart

pub data Above : Float → Type 0 where
  above0 : (m : ℕ) (e : ℤ) → T (ltb 0 (suc m)) → Above (fin false (suc m) e)

pub seen : (x : Float) → T (positive x) → Above x
seen nan p = absurd p
seen (inf s) p = absurd p
seen (fin true m e) p = absurd p
seen (fin false zero e) p = absurd p
seen (fin false (suc m) e) p = above0 m e p

-- ---- the operations, as rounded fractions

less_first : (a b c : ℕ) → b ≤ a → sum binary64 false a true b c ≡ round binary64 false (a - b) c
unfolding sum
less_first a b c h = go (ltb a b) (ltb→lt a b)
  where
    go : (t : Bool) → (T t → a < b) → cond t (round binary64 true (b - a) c) (round binary64 false (a - b) c) ≡ round binary64 false (a - b) c
    go true k = absurd (not-le_of_lt (k tt) h)
    go false k = refl

opened : (m : ℕ) (e : ℤ) (n : ℕ) (d : ℤ) → sub binary64 (fin false m e) (fin false n d) ≡ sum binary64 false (m * up e * down d) true (n * up d * down e) (down e * down d)
unfolding sub
opened m e n d = refl

sub_is : {x y : Float} → Above x → Above y → T (le y x) → sub binary64 x y ≡ round binary64 false (num x * den y - num y * den x) (den x * den y)
sub_is (above0 m e p) (above0 n d q) h =
    opened (suc m) e (suc n) d ∙ less_first (suc m * up e * down d) (suc n * up d * down e) (down e * down d) (le→cross (fin false (suc n) d) (fin false (suc m) e) q p h)

div_is : {x y : Float} → Above x → Above y → div binary64 x y ≡ round binary64 false (num x * den y) (num y * den x)
unfolding div
div_is (above0 m e p) (above0 n d q) = go (eqb (suc n) 0) (λ h. some n (eqb→eq (suc n) 0 h)) _ _
  where
    some : (n : ℕ) → suc n ≡ 0 → ⊥
    some n z = omega arith

    go : (b : Bool) → (T b → ⊥) → (x y : Float) → cond b x y ≡ y
    go true h x y = absurd (h tt)
    go false h x y = refl

add_is : {x y : Float} → Above x → Above y → add binary64 x y ≡ round binary64 false (num x * den y + num y * den x) (den x * den y)
unfolding add sum
add_is (above0 m e p) (above0 n d q) = refl

-- ---- the order of the fractions

num_pos : {x : Float} → Above x → 0 < num x
num_pos (above0 m e p) = mul-pos (zero-lt-suc m) (up_pos e)

grown : (X dx X' dx' Y dy : ℕ) → X * dx' ≤ X' * dx → (X * dy - Y * dx) * (dx' * dy) ≤ (X' * dy - Y * dx') * (dx * dy)
grown X dx X' dx' Y dy h =
    let a : dx' * dy * (X * dy) ≤ dx * dy * (X' * dy) = omega (arith, mul-le-mul_right (dy * dy) h) in
    let b : dx * dy * (Y * dx') ≤ dx' * dy * (Y * dx) = omega arith in
    le_trans (le_of_eq (mul_comm (X * dy - Y * dx) (dx' * dy) ∙ mul-sub (dx' * dy) (X * dy) (Y * dx)))
    (le_trans (omega arith)
    (le_of_eq (sym (mul_comm (X' * dy - Y * dx') (dx * dy) ∙ mul-sub (dx * dy) (X' * dy) (Y * dx')))))

shared : (X dx X' dx' Y dy : ℕ) → X * dx' ≤ X' * dx → X * dy * (Y * dx') ≤ X' * dy * (Y * dx)
shared X dx X' dx' Y dy h = omega (arith, mul-le-mul_right (dy * Y) h)

joined : (X dx Y dy Y' dy' : ℕ) → Y * dy' ≤ Y' * dy → (X * dy + Y * dx) * (dx * dy') ≤ (X * dy' + Y' * dx) * (dx * dy)
joined X dx Y dy Y' dy' h = omega (arith, mul-le-mul_right (dx * dx) h)

pub sub_mono : (x x' y : Float) → T (positive x) → T (positive x') → T (positive y) → T (le y x) → T (le x x') → T (le (sub binary64 x y) (sub binary64 x' y))
sub_mono x x' y p p' q h k =
    rw (sub_is (seen x p) (seen y q) h, sub_is (seen x' p') (seen y q) (le_trans_positive y x x' q p p' h k))
    (round_mono binary64 (num x * den y - num y * den x) (den x * den y) (num x' * den y - num y * den x') (den x' * den y) (mul-pos (den_pos x) (den_pos y)) (mul-pos (den_pos x') (den_pos y))
    (grown (num x) (den x) (num x') (den x') (num y) (den y) (le→cross x x' p p' k)))

pub div_mono : (x x' y : Float) → T (positive x) → T (positive x') → T (positive y) → T (le x x') → T (le (div binary64 x y) (div binary64 x' y))
div_mono x x' y p p' q k =
    rw (div_is (seen x p) (seen y q), div_is (seen x' p') (seen y q))
    (round_mono binary64 (num x * den y) (num y * den x) (num x' * den y) (num y * den x') (mul-pos (num_pos (seen y q)) (den_pos x)) (mul-pos (num_pos (seen y q)) (den_pos x'))
    (shared (num x) (den x) (num x') (den x') (num y) (den y) (le→cross x x' p p' k)))

pub add_mono : (x y y' : Float) → T (positive x) → T (positive y) → T (positive y') → T (le y y') → T (le (add binary64 x y) (add binary64 x y'))
add_mono x y y' p q q' k =
    rw (add_is (seen x p) (seen y q), add_is (seen x p) (seen y' q'))
    (round_mono binary64 (num x * den y + num y * den x) (den x * den y) (num x * den y' + num y' * den x) (den x * den y') (mul-pos (den_pos x) (den_pos y)) (mul-pos (den_pos x) (den_pos y'))
    (joined (num x) (den x) (num y) (den y) (num y') (den y') (le→cross y y' q q' k)))

-- ---- below, or not

pub at_most : (x y : Float) → T (lt x y) → T (le x y)
unfolding le
at_most x y t = go (lt x y) (eq x y) t
  where
    go : (a b : Bool) → T a → T (a || b)
    go true b h = tt
    go false b h = absurd h

-- a number above 0 is not at most one that is below it
pub not_both : (q z : Float) → T (positive q) → T (le q z) → T (lt z q) → ⊥
unfolding lt
not_both nan z p h k = absurd p
not_both (inf s) z p h k = absurd p
not_both (fin true n d) z p h k = absurd p
not_both (fin false n d) nan p h k = absurd k
not_both (fin false n d) (inf true) p h k = absurd (above_of_le (fin false n d) (inf true) p h)
not_both (fin false n d) (inf false) p h k = absurd k
not_both (fin false n d) (fin true m e) p h k = absurd (above_of_le (fin false n d) (fin true m e) p h)
not_both (fin false n d) (fin false m e) p h k =
    not-le_of_lt (ltb→lt (m * up e * down d) (n * up d * down e) k) (le→cross (fin false n d) (fin false m e) p (above_of_le (fin false n d) (fin false m e) p h) h)

-- nor is one above it at most it
pub not_both_above : (q z : Float) → T (positive q) → T (le z q) → T (lt q z) → ⊥
unfolding lt
not_both_above nan z p h k = absurd p
not_both_above (inf s) z p h k = absurd p
not_both_above (fin true n d) z p h k = absurd p
not_both_above (fin false n d) nan p h k = absurd k
not_both_above (fin false n d) (inf true) p h k = absurd k
not_both_above (fin false n d) (inf false) p h k = unfold le in absurd h
not_both_above (fin false n d) (fin true m e) p h k = absurd k
not_both_above (fin false n d) (fin false m e) p h k =
    let l = ltb→lt (n * up d * down e) (m * up e * down d) k in
    not-le_of_lt l (le→cross (fin false m e) (fin false n d) (lt→ltb 0 m (first_pos m (up e) (first_pos (m * up e) (down d) (lt_of_le_of_lt zero-le l)))) p h)

pub not_below : (x y : Float) → T (positive y) → T (le y x) → lt x y ≡ false
not_below x y p h = go (lt x y) refl
  where
    go : (b : Bool) → lt x y ≡ b → b ≡ false
    go true e = absurd (not_both y x p h (subst T (sym e) tt))
    go false e = refl

pub is_below : (x y : Float) → T (positive x) → T (positive y) → (T (le y x) → ⊥) → lt x y ≡ true
unfolding lt
is_below x y p q = go (seen x p) (seen y q)
  where
    go : {x y : Float} → Above x → Above y → (T (le y x) → ⊥) → lt x y ≡ true
    go (above0 m e p) (above0 n d q) h =
        is_true (ltb (suc m * up e * down d) (suc n * up d * down e)) (lt→ltb (suc m * up e * down d) (suc n * up d * down e)
        (lt_of_not-le (λ g. h (cross→le (fin false (suc n) d) (fin false (suc m) e) q p g))))
