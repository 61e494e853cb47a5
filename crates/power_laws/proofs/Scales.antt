-- A product in the normal range is multiplied exactly by a power of two when its factors are. In order: fractions, a rounded fraction, the product, a
-- number that is rounded again. Assumes nothing.
use mathlib.Core.Path.{◌≡◌, refl, sym, ap, ◌∙◌, subst}
use mathlib.Core.Bool.{Bool, true, false, ◌&&◌}
use mathlib.Core.Logic.{◌⊎◌, inl, inr}
use Prim.Native.Nat.{ℕ, ◌+◌, ◌*◌, ◌^◌, ◌≤◌, ◌<◌}
use native.Mathlib.Nat.{le_trans, le_of_eq, lt_of_le_of_lt, mul-one, one-mul, mul-pos, mul_comm, mul_assoc, mul_right_comm, mul-mul-mul_comm, mul-le-mul_left, eq_of_mul-eq-mul_right}
use native.Mathlib.Omega.{arith}
use lib.Dec.{T, leb}
use lib.IntN.{ℤ, negsuc}
use lib.Pow.{pow-add, pow_pos}
use lib.Ieee.{Float, nan, inf, fin, binary64, up, down, round, mul, le, unlike}
use lib.Ieee.Fits.{down_pos, round_is}
use lib.Ieee.Exact.{HasValue, units_val}
use lib.Ieee.Order.{drop, kept, round_mono}
use lib.Ieee.Scale.{grid, overflow, round_same, round_under, grid_scale, normal_of_fraction}
use lib.Ieee.Scale as scale
use borrow.Author.Tests.{leb-true, le-ltb}
use Rattle.common.specs.Outcome.{finite}
use Rattle.common.proofs.Laws.{never}
use Rattle.sizes.specs.Lost.{subnormal}
use Rattle.sizes.proofs.Band.{round_size}
use Rattle.sizes.proofs.Looks.{least}
use Rattle.rules.proofs.Rounds.{round_neg, round_shape, le_sizes}
use Rattle.power_laws.specs.Laws.{Scaled, in_range}
use Rattle.power_laws.proofs.Signs.{subnormal_turned}

pub left : (p q : Bool) → (p && q) ≡ true → p ≡ true
left true q h = refl
left false q h = never (sym h)

pub right : (p q : Bool) → (p && q) ≡ true → q ≡ true
right true q h = h
right false q h = never (sym h)

-- ---- fractions

multiplied : (A B C D A' B' C' D' I J : ℕ) → A' * C ≡ A * I * C' → B' * D ≡ B * J * D' → A' * B' * (C * D) ≡ A * B * (I * J) * (C' * D')
multiplied A B C D A' B' C' D' I J p q =
    mul-mul-mul_comm A' B' C D
    ∙ ap (λ (x : ℕ). x * (B' * D)) p
    ∙ ap (λ (x : ℕ). A * I * C' * x) q
    ∙ mul-mul-mul_comm (A * I) C' (B * J) D'
    ∙ ap (λ (x : ℕ). x * (C' * D')) (mul-mul-mul_comm A I B J)

crossed : (A C B D g t L : ℕ) → 0 < L → A * L ≡ g * C → B * L ≡ g * t * D → B * C ≡ A * t * D
crossed A C B D g t L p u v = eq_of_mul-eq-mul_right L p (B * C) (A * t * D)
    (mul_right_comm B C L
    ∙ ap (λ (x : ℕ). x * C) v
    ∙ mul_right_comm (g * t) D C
    ∙ ap (λ (x : ℕ). x * D) (mul_right_comm g t C ∙ ap (λ (x : ℕ). x * t) (sym u) ∙ mul_right_comm A L t)
    ∙ mul_right_comm (A * t) L D)

-- two numbers of so many units each
by_units : (k g L : ℕ) (s : Bool) (x y : Float) → 0 < L → HasValue x s g L → HasValue y s (g * 2 ^ k) L → Scaled k x y
by_units k g L s nan y p u v = u
by_units k g L s (inf t) y p u v = u
by_units k g L s (fin t m e) nan p u v = v
by_units k g L s (fin t m e) (inf z) p u v = v
by_units k g L s (fin t m e) (fin z n d) p u v = (v.0 ∙ sym u.0, crossed (m * up e) (down e) (n * up d) (down d) g (2 ^ k) L p u.1 v.1)

-- ---- a rounded fraction

round_val : (s : Bool) (a c : ℕ) → grid binary64 a c < overflow binary64 → HasValue (round binary64 s a c) s (grid binary64 a c) (2 ^ 1074)
round_val s a c h =
    subst (λ (z : Float). HasValue z s (grid binary64 a c) (2 ^ 1074)) (sym (round_is binary64 s a c))
    (units_val binary64 s (kept 53 (a * 2 ^ 1074) c) (drop 53 (a * 2 ^ 1074) c) h)

is_finite : (x : Float) → finite x ≡ true → T (scale.finite x)
is_finite nan h = never (sym h)
is_finite (inf s) h = never (sym h)
is_finite (fin s m e) h = tt

under : (s : Bool) (a c : ℕ) → finite (round binary64 s a c) ≡ true → grid binary64 a c < overflow binary64
under s a c h = round_under binary64 a c (is_finite (round binary64 false a c) (sym (round_size a c s).lost ∙ h))

in_digits : (l j N D : ℕ) → D ≤ N * 2 ^ l → 2 ^ j * D ≤ N * 2 ^ (l + j)
in_digits l j N D h =
    le_trans (mul-le-mul_left (2 ^ j) h)
    (le_of_eq (mul_comm (2 ^ j) (N * 2 ^ l) ∙ mul_assoc N (2 ^ l) (2 ^ j) ∙ ap (λ (x : ℕ). N * x) (sym (pow-add 2 l j))))

less : (g t o : ℕ) → 0 < t → g * t < o → g < o
less g t o p h = lt_of_le_of_lt (le_trans (le_of_eq (sym (mul-one g))) (mul-le-mul_left g p)) h

-- N/D from 2^-1022 on, and 2^k times as much is not too large
scaled_round : (k : ℕ) (s : Bool) (N D : ℕ) → 0 < D → D ≤ N * 2 ^ 1022 → finite (round binary64 s (N * 2 ^ k) D) ≡ true
    → Scaled k (round binary64 s N D) (round binary64 s (N * 2 ^ k) D)
scaled_round k s N D P h f =
    let e = grid_scale binary64 N D k P (normal_of_fraction binary64 N D P (in_digits 1022 52 N D h)) in
    let o = under s (N * 2 ^ k) D f in
    let o' : grid binary64 N D * 2 ^ k < overflow binary64 = subst (λ (g : ℕ). g < overflow binary64) e o in
    by_units k (grid binary64 N D) (2 ^ 1074) s (round binary64 s N D) (round binary64 s (N * 2 ^ k) D) (pow_pos 1074)
    (round_val s N D (less (grid binary64 N D) (2 ^ k) (overflow binary64) (pow_pos k) o'))
    (subst (λ (g : ℕ). HasValue (round binary64 s (N * 2 ^ k) D) s g (2 ^ 1074)) e (round_val s (N * 2 ^ k) D o))

-- ---- the product

parts : (i j : ℕ) (s t s' t' : Bool) (m n m' n' : ℕ) (e d e' d' : ℤ) → s' ≡ s → t' ≡ t
    → m' * up e' * down e ≡ m * up e * 2 ^ i * down e' → n' * up d' * down d ≡ n * up d * 2 ^ j * down d'
    → mul binary64 (fin s' m' e') (fin t' n' d') ≡ round binary64 (unlike s t) (m * up e * (n * up d) * 2 ^ (i + j)) (down e * down d)
unfolding mul
parts i j s t s' t' m n m' n' e d e' d' p q u v =
    rw (p, q)
    (round_same binary64 (unlike s t) (m' * up e' * (n' * up d')) (down e' * down d') (m * up e * (n * up d) * 2 ^ (i + j)) (down e * down d)
    (mul-pos (down_pos e') (down_pos d')) (mul-pos (down_pos e) (down_pos d))
    (multiplied (m * up e) (n * up d) (down e) (down d) (m' * up e') (n' * up d') (down e') (down d') (2 ^ i) (2 ^ j) u v
    ∙ ap (λ (x : ℕ). m * up e * (n * up d) * x * (down e' * down d')) (sym (pow-add 2 i j))))

pub mul_scaled : (i j : ℕ) (r x r' x' : Float) → Scaled i r r' → Scaled j x x' → in_range r x ≡ true → finite (mul binary64 r' x') ≡ true
    → Scaled (i + j) (mul binary64 r x) (mul binary64 r' x')
mul_scaled i j nan x r' x' u v h f = never (sym h)
mul_scaled i j (inf s) x r' x' u v h f = never (sym h)
mul_scaled i j (fin s m e) nan r' x' u v h f = never (sym h)
mul_scaled i j (fin s m e) (inf t) r' x' u v h f = never (sym h)
mul_scaled i j (fin s m e) (fin t n d) nan x' u v h f = absurd u
mul_scaled i j (fin s m e) (fin t n d) (inf z) x' u v h f = absurd u
mul_scaled i j (fin s m e) (fin t n d) (fin s' m' e') nan u v h f = absurd v
mul_scaled i j (fin s m e) (fin t n d) (fin s' m' e') (inf z) u v h f = absurd v
mul_scaled i j (fin s m e) (fin t n d) (fin s' m' e') (fin t' n' d') u v h f =
    let same = parts i j s t s' t' m n m' n' e d e' d' u.0 v.0 u.1 v.1 in
    let N = m * up e * (n * up d) in
    let D = down e * down d in
    let least = leb-true D (N * 2 ^ 1022) (left (leb D (N * 2 ^ 1022)) (finite (mul binary64 (fin s m e) (fin t n d))) h) in
    subst (λ (z : Float). Scaled (i + j) (mul binary64 (fin s m e) (fin t n d)) z) (sym same)
    (unfold mul in scaled_round (i + j) (unlike s t) N D (mul-pos (down_pos e) (down_pos d)) least (sym (ap finite same) ∙ f))

-- a product in the range is normal when it is rounded

smallest : round binary64 false 1 (2 ^ 1022) ≡ least false
unfolding round
smallest = refl

positive_normal : (N D : ℕ) → 0 < D → D ≤ N * 2 ^ 1022 → subnormal (round binary64 false N D) ≡ false
positive_normal N D P h = go (round_shape binary64 false N D)
  where
    above : T (le (least false) (round binary64 false N D))
    above =
        subst (λ (z : Float). T (le z (round binary64 false N D))) smallest
        (round_mono binary64 1 (2 ^ 1022) N D (pow_pos 1022) P (le_trans (le_of_eq (one-mul D)) h))

    go : (round binary64 false N D ≡ inf false) ⊎ ((n : ℕ) × (d : ℤ) × (round binary64 false N D ≡ fin false n d)) → subnormal (round binary64 false N D) ≡ false
    go (inl z) = rw z
    go (inr z) =
        rw z.2
        (le-ltb (z.0 * up z.1 * 2 ^ 1022) (down z.1)
        (omega (arith, le_sizes 1 (negsuc 1021) z.0 z.1 (subst (λ (x : Float). T (le (least false) x)) z.2 above))))

rounded_normal : (s : Bool) (N D : ℕ) → 0 < D → D ≤ N * 2 ^ 1022 → subnormal (round binary64 s N D) ≡ false
rounded_normal true N D P h = ap subnormal (sym (round_neg binary64 false N D)) ∙ subnormal_turned (round binary64 false N D) ∙ positive_normal N D P h
rounded_normal false N D P h = positive_normal N D P h

pub range_finite : (r x : Float) → in_range r x ≡ true → finite (mul binary64 r x) ≡ true
range_finite nan x h = never (sym h)
range_finite (inf s) x h = never (sym h)
range_finite (fin s m e) nan h = never (sym h)
range_finite (fin s m e) (inf t) h = never (sym h)
range_finite (fin s m e) (fin t n d) h = right (leb (down e * down d) (m * up e * (n * up d) * 2 ^ 1022)) (finite (mul binary64 (fin s m e) (fin t n d))) h

pub range_normal : (r x : Float) → in_range r x ≡ true → subnormal (mul binary64 r x) ≡ false
range_normal nan x h = never (sym h)
range_normal (inf s) x h = never (sym h)
range_normal (fin s m e) nan h = never (sym h)
range_normal (fin s m e) (inf t) h = never (sym h)
range_normal (fin s m e) (fin t n d) h =
    let N = m * up e * (n * up d) in
    let D = down e * down d in
    unfold mul in rounded_normal (unlike s t) N D (mul-pos (down_pos e) (down_pos d))
    (leb-true D (N * 2 ^ 1022) (left (leb D (N * 2 ^ 1022)) (finite (mul binary64 (fin s m e) (fin t n d))) h))
