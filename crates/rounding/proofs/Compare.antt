-- The comparison of two finite floats is the comparison of their exact values. Where a float is near a fraction, a comparison with it goes as
-- the one with the fraction, for all that lies farther from the fraction than the float does. Assumes nothing.
use mathlib.Core.Path.{◌≡◌, refl, sym, ap, ◌∙◌}
use mathlib.Core.Logic.{◌⊎◌, inl, inr}
use Prim.Native.Nat.{ℕ, ◌+◌, ◌*◌, ◌≤◌, ◌<◌, zero-le}
use native.Mathlib.Nat.{lt_of_le_of_lt, le_of_eq, le_of_lt, mul-pos, mul-le-mul_right, mul-lt-mul_of_pos_right, le_of_mul-le-mul_right, lt_of_mul-lt-mul_right}
use native.Mathlib.Omega.{arith}
use mathlib.Core.Bool.{Bool, true, false, not, ◌&&◌, ◌||◌, true≢false}
use lib.IntN.{ℤ}
use lib.Dec.{T, leb, ltb, eqb, ltb→lt, lt→ltb, nltb→le, leb→le, le→leb, eqb→eq}
use lib.Arith.{lt→nleb, le→nltb}
use lib.Ieee.{Float, nan, inf, fin, up, down, le, lt, eq}
use lib.Ieee.Bits.{is_true, is_false}
use lib.Ieee.Fits.{and_l, and_r, and_i, eq→eqb, down_pos}
use lib.Ieee.Exact.{HasValue}
use lib.Ieee.Positive.{first_pos}
use Rattle.rounding.specs.Fraction.{Fraction, ratio, signed, side, at_most, Under, Apart, Near}

same_test : (a b : Bool) → (T a → T b) → (T b → T a) → a ≡ b
same_test true true f g = refl
same_test true false f g = absurd (f tt)
same_test false true f g = absurd (g tt)
same_test false false f g = refl

-- ---- finite floats
or_cases : (a b : Bool) → T (a || b) → T a ⊎ T b
or_cases true b t = inl tt
or_cases false b t = inr t

or_l : (a b : Bool) → T a → T (a || b)
or_l true b t = tt
or_l false b t = absurd t

pub lt_then_le : (x y : Float) → T (lt x y) → T (le x y)
unfolding le
lt_then_le x y t = or_l (lt x y) (eq x y) t

-- a ≤ b as `le` tests it
le_test : (a b : ℕ) → T (ltb a b || (eqb a b && true)) → a ≤ b
le_test a b t = elim (or_cases (ltb a b) (eqb a b && true) t) [ inl u ↦ le_of_lt (ltb→lt a b u) | inr u ↦ le_of_eq (eqb→eq a b (and_l (eqb a b) true u)) ]

test_le : (a b : ℕ) → a ≤ b → T (ltb a b || (eqb a b && true))
test_le a b l = go (ltb a b) (nltb→le a b)
  where
    go : (k : Bool) → (T (not k) → b ≤ a) → T (k || (eqb a b && true))
    go true n = tt
    go false n = and_i (eqb a b) true (eq→eqb (equal a b l (n tt))) tt
      where
        equal : (a b : ℕ) → a ≤ b → b ≤ a → a ≡ b
        equal a b p q = omega arith

abbrev LeExact : Bool → Bool → Type 0
LeExact s t = (m : ℕ) (e : ℤ) (n : ℕ) (d : ℤ) → le (fin s m e) (fin t n d) ≡ at_most (signed s (m * up e) (down e)) (signed t (n * up d) (down d))

le_exact : (s t : Bool) → LeExact s t
unfolding le
le_exact false false m e n d =
    let a = m * up e * down d in
    let b = n * up d * down e in
    let x = a + 0 * down e in
    let y = b + 0 * down d in
    same_test (ltb a b || (eqb a b && true)) (leb x y) (λ u. le→leb x y (pad a b (down e) (down d) (le_test a b u)))
    (λ u. test_le a b (bare a b (down e) (down d) (leb→le x y u)))
  where
    pad : (a b c g : ℕ) → a ≤ b → a + 0 * c ≤ b + 0 * g
    pad a b c g l = omega arith

    bare : (a b c g : ℕ) → a + 0 * c ≤ b + 0 * g → a ≤ b
    bare a b c g l = omega arith
le_exact false true m e n d =
    let a = m * up e * down d in
    let b = n * up d * down e in
    let y = 0 * down e + 0 * down d in
    same_test (eqb a b && eqb a 0) (leb (a + b) y)
    (λ u. le→leb (a + b) y (none a b (down e) (down d) (eqb→eq a b (and_l (eqb a b) (eqb a 0) u)) (eqb→eq a 0 (and_r (eqb a b) (eqb a 0) u))))
    (λ u. and_i (eqb a b) (eqb a 0) (eq→eqb (equal a b (down e) (down d) (leb→le (a + b) y u))) (eq→eqb (zeroth a b (down e) (down d) (leb→le (a + b) y u))))
  where
    none : (a b c g : ℕ) → a ≡ b → a ≡ 0 → a + b ≤ 0 * c + 0 * g
    none a b c g p q = omega arith

    equal : (a b c g : ℕ) → a + b ≤ 0 * c + 0 * g → a ≡ b
    equal a b c g l = omega arith

    zeroth : (a b c g : ℕ) → a + b ≤ 0 * c + 0 * g → a ≡ 0
    zeroth a b c g l = omega arith
le_exact true false m e n d =
    let a = m * up e * down d in
    let b = n * up d * down e in
    let x = 0 * down d + 0 * down e in
    same_test (ltb 0 (a + b) || (eqb a b && eqb a 0)) (leb x (b + a)) (λ u. le→leb x (b + a) (always a b (down e) (down d)))
    (λ u. go a b (ltb 0 (a + b)) (nltb→le 0 (a + b)))
  where
    always : (a b c g : ℕ) → 0 * g + 0 * c ≤ b + a
    always a b c g = omega arith

    equal : (a b : ℕ) → a + b ≤ 0 → a ≡ b
    equal a b l = omega arith

    zeroth : (a b : ℕ) → a + b ≤ 0 → a ≡ 0
    zeroth a b l = omega arith

    go : (a b : ℕ) (k : Bool) → (T (not k) → a + b ≤ 0) → T (k || (eqb a b && eqb a 0))
    go a b true n = tt
    go a b false n = and_i (eqb a b) (eqb a 0) (eq→eqb (equal a b (n tt))) (eq→eqb (zeroth a b (n tt)))
le_exact true true m e n d =
    let a = m * up e * down d in
    let b = n * up d * down e in
    let x = 0 * down d + b in
    let y = 0 * down e + a in
    same_test (ltb b a || (eqb a b && true)) (leb x y) (λ u. le→leb x y (pad a b (down e) (down d) (le_test b a (swap (ltb b a) a b u))))
    (λ u. swap (ltb b a) b a (test_le b a (bare a b (down e) (down d) (leb→le x y u))))
  where
    pad : (a b c g : ℕ) → b ≤ a → 0 * g + b ≤ 0 * c + a
    pad a b c g l = omega arith

    bare : (a b c g : ℕ) → 0 * g + b ≤ 0 * c + a → b ≤ a
    bare a b c g l = omega arith

    swap : (k : Bool) (a b : ℕ) → T (k || (eqb a b && true)) → T (k || (eqb b a && true))
    swap true a b t = tt
    swap false a b t = and_i (eqb b a) true (eq→eqb (sym (eqb→eq a b (and_l (eqb a b) true t)))) tt

same_lt : (a b a' b' : ℕ) → (a < b → a' < b') → (a' < b' → a < b) → ltb a b ≡ ltb a' b'
same_lt a b a' b' f g = same_test (ltb a b) (ltb a' b') (λ t. lt→ltb a' b' (f (ltb→lt a b t))) (λ t. lt→ltb a b (g (ltb→lt a' b' t)))

lt_exact : (s t : Bool) (m : ℕ) (e : ℤ) (n : ℕ) (d : ℤ)
    → lt (fin s m e) (fin t n d)
    ≡ ltb (side (signed s (m * up e) (down e)) (signed t (n * up d) (down d))) (side (signed t (n * up d) (down d)) (signed s (m * up e) (down e)))
unfolding lt
lt_exact false false m e n d =
    same_lt (m * up e * down d) (n * up d * down e) (m * up e * down d + 0 * down e) (n * up d * down e + 0 * down d) (λ h. omega arith) (λ h. omega arith)
lt_exact false true m e n d =
    sym (is_false (ltb (m * up e * down d + n * up d * down e) (0 * down e + 0 * down d))
    (le→nltb (m * up e * down d + n * up d * down e) (0 * down e + 0 * down d) (omega arith)))
lt_exact true false m e n d =
    same_lt 0 (m * up e * down d + n * up d * down e) (0 * down d + 0 * down e) (n * up d * down e + m * up e * down d) (λ h. omega arith) (λ h. omega arith)
lt_exact true true m e n d =
    same_lt (n * up d * down e) (m * up e * down d) (0 * down d + n * up d * down e) (0 * down e + m * up e * down d) (λ h. omega arith) (λ h. omega arith)

-- ---- fractions

-- what is n' / d' or more below z is below all that is within n / d of z, a smaller tolerance
clear_arith : (L R L' R' W n d n' d' : ℕ) → 0 < W → L * d' + n' * W ≤ R * d' → R' * d ≤ L' * d + n * W → n * d' < n' * d → L + R' < R + L'
clear_arith L R L' R' W n d n' d' P h k l = lt_of_mul-lt-mul_right (d * d') (go (mul-le-mul_right d h) (mul-le-mul_right d' k) (mul-lt-mul_of_pos_right l P))
  where
    go : (L * d' + n' * W) * d ≤ R * d' * d → R' * d * d' ≤ (L' * d + n * W) * d' → n * d' * W < n' * d * W → (L + R') * (d * d') < (R + L') * (d * d')
    go x y z = omega arith

below_clear : (a b c A B S α β γ n d n' d' : ℕ) → 0 < c → 0 < S → 0 < γ → (a * S + B * c) * d' + n' * (c * S) ≤ (A * c + b * S) * d'
    → (A * γ + β * S) * d ≤ (α * S + B * γ) * d + n * (γ * S) → n * d' < n' * d
    → a * γ + β * c < α * c + b * γ
below_clear a b c A B S α β γ n d n' d' C O G h k l =
    lt_of_mul-lt-mul_right S
    (shape (clear_arith ((a * S + B * c) * γ) ((A * c + b * S) * γ) ((α * S + B * γ) * c) ((A * γ + β * S) * c) (c * S * γ) n d n' d' (mul-pos (mul-pos C O) G)
    (first (mul-le-mul_right γ h)) (second (mul-le-mul_right c k)) l))
  where
    first : ((a * S + B * c) * d' + n' * (c * S)) * γ ≤ (A * c + b * S) * d' * γ → (a * S + B * c) * γ * d' + n' * (c * S * γ) ≤ (A * c + b * S) * γ * d'
    first g = omega arith

    second : (A * γ + β * S) * d * c ≤ ((α * S + B * γ) * d + n * (γ * S)) * c → (A * γ + β * S) * c * d ≤ (α * S + B * γ) * c * d + n * (c * S * γ)
    second g = omega arith

    shape : (a * S + B * c) * γ + (A * γ + β * S) * c < (A * c + b * S) * γ + (α * S + B * γ) * c → (a * γ + β * c) * S < (α * c + b * γ) * S
    shape g = omega arith

above_clear : (a b c A B S α β γ n d n' d' : ℕ) → 0 < c → 0 < S → 0 < γ → (A * c + b * S) * d' + n' * (S * c) ≤ (a * S + B * c) * d'
    → (α * S + B * γ) * d ≤ (A * γ + β * S) * d + n * (γ * S) → n * d' < n' * d
    → α * c + b * γ < a * γ + β * c
above_clear a b c A B S α β γ n d n' d' C O G h k l = last (below_clear b a c B A S β α γ n d n' d' C O G (first h) (second k) l)
  where
    last : b * γ + α * c < β * c + a * γ → α * c + b * γ < a * γ + β * c
    last g = omega arith

    first : (A * c + b * S) * d' + n' * (S * c) ≤ (a * S + B * c) * d' → (b * S + A * c) * d' + n' * (c * S) ≤ (B * c + a * S) * d'
    first g = omega arith

    second : (α * S + B * γ) * d ≤ (A * γ + β * S) * d + n * (γ * S) → (B * γ + α * S) * d ≤ (β * S + A * γ) * d + n * (γ * S)
    second g = omega arith

-- u is n' / d' or more below z, or above it
abbrev pub Side : Bool → Fraction → Fraction → ℕ → ℕ → Type 0
Side true u z n d = Under u z n d
Side false u z n d = Under z u n d

-- fractions on a known side of each other
at_most_by_side : (u z : Fraction) (n d : ℕ) → 0 < n → 0 < d → 0 < u.scale → 0 < z.scale → (σ : Bool) → Side σ u z n d → at_most u z ≡ σ
at_most_by_side u z n d N D X Z true g =
    is_true (at_most u z) (le→leb (side u z) (side z u) (le_of_mul-le-mul_right (drop (side u z * d) (side z u * d) (n * (u.scale * z.scale)) g) D))
  where
    drop : (a b k : ℕ) → a + k ≤ b → a ≤ b
    drop a b k l = omega arith
at_most_by_side u z n d N D X Z false g =
    is_false (at_most u z) (lt→nleb (side u z) (side z u)
    (lt_of_mul-lt-mul_right d (more (side z u * d) (side u z * d) (n * (z.scale * u.scale)) (mul-pos N (mul-pos Z X)) g)))
  where
    more : (a b k : ℕ) → 0 < k → a + k ≤ b → a < b
    more a b k K l = omega arith

-- ---- floats of known value

-- t is at most y, below y, and not above y, where σ; and else none of these
pub record Sided (t y : Float) (σ : Bool) : Type 0 where
  pub upto : le t y ≡ σ
  pub under : lt t y ≡ σ
  pub beyond : lt y t ≡ not σ

-- n / c is X / x
move : (X x n c α β γ : ℕ) → 0 < x → X * c ≡ n * x → n * γ + β * c < α * c + 0 * γ → X * γ + β * x < α * x + 0 * γ
move X x n c α β γ P e h = lt_of_mul-lt-mul_right c (go (mul-lt-mul_of_pos_right h P) (ap (λ (z : ℕ). z * γ) e))
  where
    go : (n * γ + β * c) * x < (α * c + 0 * γ) * x → X * c * γ ≡ n * x * γ → (X * γ + β * x) * c < (α * x + 0 * γ) * c
    go g e = omega arith

move' : (X x n c α β γ : ℕ) → 0 < x → X * c ≡ n * x → α * c + 0 * γ < n * γ + β * c → α * x + 0 * γ < X * γ + β * x
move' X x n c α β γ P e h = lt_of_mul-lt-mul_right c (go (mul-lt-mul_of_pos_right h P) (ap (λ (z : ℕ). z * γ) e))
  where
    go : (α * c + 0 * γ) * x < (n * γ + β * c) * x → X * c * γ ≡ n * x * γ → (α * x + 0 * γ) * c < (X * γ + β * x) * c
    go g e = omega arith

pub side_of : (t y : Float) (n c : ℕ) (z : Fraction) (k d k' d' : ℕ) → 0 < c → 0 < z.scale → k * d' < k' * d → HasValue t false n c → Near y z k d
    → (σ : Bool) → Side σ (ratio n c) z k' d' → Sided t y σ
side_of nan y n c z k d k' d' C Z l h w σ s = absurd h
side_of (inf r) y n c z k d k' d' C Z l h w σ s = absurd h
side_of (fin true m e) y n c z k d k' d' C Z l h w σ s = absurd (true≢false h.0)
side_of (fin false m e) nan n c z k d k' d' C Z l h w σ s = absurd w
side_of (fin false m e) (inf r) n c z k d k' d' C Z l h w σ s = absurd w
side_of (fin false m e) (fin r j i) n c z k d k' d' C Z l h w σ s = go σ s
  where
    u : Fraction
    u = signed false (m * up e) (down e)

    v : Fraction
    v = signed r (j * up i) (down i)

    v_pos : (r : Bool) → 0 < (signed r (j * up i) (down i)).scale
    v_pos false = down_pos i
    v_pos true = down_pos i

    go : (σ : Bool) → Side σ (ratio n c) z k' d' → Sided (fin false m e) (fin r j i) σ
    go true s =
        let g : side u v < side v u = move (m * up e) (down e) n c v.over v.under v.scale (down_pos e) h.1
        (below_clear n 0 c z.over z.under z.scale v.over v.under v.scale k d k' d' C Z (v_pos r) s w.1 l) in
        record {
          upto = le_exact false r m e j i ∙ is_true (leb (side u v) (side v u)) (le→leb (side u v) (side v u) (le_of_lt g));
          under = lt_exact false r m e j i ∙ is_true (ltb (side u v) (side v u)) (lt→ltb (side u v) (side v u) g);
          beyond = lt_exact r false j i m e ∙ is_false (ltb (side v u) (side u v)) (le→nltb (side v u) (side u v) (le_of_lt g));
        }
    go false s =
        let g : side v u < side u v = move' (m * up e) (down e) n c v.over v.under v.scale (down_pos e) h.1
        (above_clear n 0 c z.over z.under z.scale v.over v.under v.scale k d k' d' C Z (v_pos r) s w.0 l) in
        record {
          upto = le_exact false r m e j i ∙ is_false (leb (side u v) (side v u)) (lt→nleb (side u v) (side v u) g);
          under = lt_exact false r m e j i ∙ is_false (ltb (side u v) (side v u)) (le→nltb (side u v) (side v u) (le_of_lt g));
          beyond = lt_exact r false j i m e ∙ is_true (ltb (side v u) (side u v)) (lt→ltb (side v u) (side u v) g);
        }

-- x is t / c, and y is near z: x ≤ y where t / c ≤ z
pub le_agrees : (x y : Float) (t c : ℕ) (z : Fraction) (n d n' d' : ℕ) → 0 < c → 0 < z.scale → 0 < d' → n * d' < n' * d → HasValue x false t c
    → Near y z n d → Apart (ratio t c) z n' d' → le x y ≡ at_most (ratio t c) z
le_agrees x y t c z n d n' d' C Z D l h w g = elim g [ inl s ↦ by true s | inr s ↦ by false s ]
  where
    by : (σ : Bool) → Side σ (ratio t c) z n' d' → le x y ≡ at_most (ratio t c) z
    by σ s =
        (side_of x y t c z n d n' d' C Z l h w σ s).upto
        ∙ sym (at_most_by_side (ratio t c) z n' d' (first_pos n' d (lt_of_le_of_lt zero-le l)) D C Z σ s)

-- a / c < b / d
pub lt_values : (x y : Float) (a c b d : ℕ) → 0 < c → 0 < d → HasValue x false a c → HasValue y false b d → lt x y ≡ ltb (a * d) (b * c)
unfolding lt
lt_values nan y a c b d C D h k = absurd h
lt_values (inf s) y a c b d C D h k = absurd h
lt_values (fin true m e) y a c b d C D h k = absurd (true≢false h.0)
lt_values (fin false m e) nan a c b d C D h k = absurd k
lt_values (fin false m e) (inf s) a c b d C D h k = absurd k
lt_values (fin false m e) (fin true n i) a c b d C D h k = absurd (true≢false k.0)
lt_values (fin false m e) (fin false n i) a c b d C D h k =
    let X = m * up e in
    let Y = n * up i in
    same_test (ltb (X * down i) (Y * down e)) (ltb (a * d) (b * c))
    (λ t. lt→ltb (a * d) (b * c) (across X (down e) Y (down i) a c b d C D h.1 k.1 (ltb→lt (X * down i) (Y * down e) t)))
    (λ t. lt→ltb (X * down i) (Y * down e) (across a c b d X (down e) Y (down i) (down_pos e) (down_pos i) (sym h.1) (sym k.1)
    (ltb→lt (a * d) (b * c) t)))
  where
    across : (X x Y y a c b d : ℕ) → 0 < c → 0 < d → X * c ≡ a * x → Y * d ≡ b * y → X * y < Y * x → a * d < b * c
    across X x Y y a c b d C D p q l =
        let p' : X * c * (y * d) ≡ a * x * (y * d) = ap (λ (z : ℕ). z * (y * d)) p in
        let q' : Y * d * (x * c) ≡ b * y * (x * c) = ap (λ (z : ℕ). z * (x * c)) q in
        lt_of_mul-lt-mul_right (x * y) (go p' q' (mul-lt-mul_of_pos_right l (mul-pos C D)))
      where
        go : X * c * (y * d) ≡ a * x * (y * d) → Y * d * (x * c) ≡ b * y * (x * c) → X * y * (c * d) < Y * x * (c * d) → a * d * (x * y) < b * c * (x * y)
        go p q l = omega arith
