-- How far `round` moves a fraction. In units of the format's smallest value, 2 ^ -low, the fraction is n / den and the rounded value is the whole
-- number `grid`: they differ by at most n / den / 2 ^ prec + 1 / 2. Assumes nothing.
use mathlib.Core.Path.{◌≡◌, refl, sym, ap, subst}
use Prim.Native.Nat.{ℕ, zero, suc, ◌+◌, ◌-◌, ◌*◌, ◌/◌, ◌%◌, ◌^◌, ◌≤◌, ◌<◌, compare, Ordering}
use native.Mathlib.Nat.{mul-le-mul_right, mod-lt, div-add-mod', le-div_iff_mul-le, mul-pos, le_of_mul-le-mul_right, lt_of_le_of_lt}
use native.Mathlib.Omega.{arith}
use mathlib.Core.Bool.{Bool, not}
use lib.Dec.{T, is_le, compare_is_eq, eqb, leb→le, nleb→lt, eqb→eq, eqb_refl}
use lib.Arith.{lt_of_le-ne}
use lib.Pow.{pow-add, pow_pos}
use lib.Ieee.{Float, Format, prec, low, size, nearest, round}
use lib.Ieee.Digits.{size_reaches}
use lib.Ieee.Fits.{round_is, two, two-le_pos}
use lib.Ieee.Exact.{HasValue, units_val}
use lib.Ieee.Nearest.{closest}
use lib.Ieee.Order.{drop, kept}
use lib.Ieee.Scale.{grid, overflow}

-- ---- what `compare` says
abbrev Cmp : Ordering → ℕ → ℕ → Type 0
Cmp Ordering.lt a b = a < b
Cmp Ordering.eq a b = a ≡ b
Cmp Ordering.gt a b = b < a

cmp : (a b : ℕ) → Cmp (compare a b) a b
cmp a b = go (compare a b) (leb→le a b) (nleb→lt a b) (eqb→eq a b) (λ (e : a ≡ b). subst (λ (x : ℕ). T (eqb a x)) e (eqb_refl a))
  where
    go : (o : Ordering) → (T (is_le o) → a ≤ b) → (T (not (is_le o)) → b < a) → (T (compare_is_eq o) → a ≡ b) → (a ≡ b → T (compare_is_eq o)) → Cmp o a b
    go Ordering.lt h k e n = lt_of_le-ne (h tt) n
    go Ordering.eq h k e n = e tt
    go Ordering.gt h k e n = k tt

-- ---- the nearest whole number is within a half
abbrev Half : ℕ → ℕ → ℕ → Type 0
Half z a b = (z * b * 2 ≤ a * 2 + b) × (a * 2 ≤ z * b * 2 + b)

half : (q r a b : ℕ) (o : Ordering) → Cmp o (r * 2) b → r < b → q * b + r ≡ a → Half (nearest q o) a b
half q r a b Ordering.lt c l e = omega arith
half q r a b Ordering.eq c l e = go (q % 2) (below_two q)
  where
    below_two : (n : ℕ) → n % 2 < 2
    below_two n = omega arith

    go : (t : ℕ) → t < 2 → Half (q + t) a b
    go zero h = omega arith
    go (suc zero) h = omega arith
    go (suc (suc t)) h = absurd (omega arith)
half q r a b Ordering.gt c l e = omega arith

closest_near : (a b : ℕ) → 0 < b → Half (closest a b) a b
closest_near a b B = half (a / b) (a % b) a b (compare (a % b * 2) b) (cmp (a % b * 2) b) (mod-lt a B) (div-add-mod' a b)

-- ---- of the digits that are dropped: 2 ^ drop is at most one more than the fraction over 2 ^ (prec - 1)
room : (z p k : ℕ) → 0 < p → z - p ≡ suc k → p - 1 + suc k < z
room z p k P h = omega arith

drop_small : (p n den : ℕ) → 0 < p → 0 < den → 2 ^ (p - 1) * 2 ^ drop p n den * den ≤ n + 2 ^ (p - 1) * den
drop_small p n den P D = go (drop p n den) refl
  where
    go : (k : ℕ) → drop p n den ≡ k → 2 ^ (p - 1) * 2 ^ k * den ≤ n + 2 ^ (p - 1) * den
    go zero e = omega arith
    go (suc k) e =
        let h : 2 ^ (p - 1 + suc k) * den ≤ n = (le-div_iff_mul-le D).0 (size_reaches (n / den) (p - 1 + suc k) (room (size (n / den)) p k P e)) in
        let g : 2 ^ (p - 1 + suc k) * den ≡ 2 ^ (p - 1) * 2 ^ suc k * den = ap (λ (x : ℕ). x * den) (pow-add 2 (p - 1) (suc k)) in
        omega arith

scaled : (h z w den n : ℕ) → z * (den * w) * 2 ≤ n * 2 + den * w → n * 2 ≤ z * (den * w) * 2 + den * w → h * w * den ≤ n + h * den
    → (z * w * den * (2 * h) ≤ n * (2 * h) + (n + h * den)) × (n * (2 * h) ≤ z * w * den * (2 * h) + (n + h * den))
scaled h z w den n a b c = (omega (arith, mul-le-mul_right h a), omega (arith, mul-le-mul_right h b))

-- 2 ^ prec, written so that it is seen to be even
abbrev pub whole : Format → ℕ
whole f = 2 * 2 ^ (prec f - 1)

grid_near : (f : Format) (a c : ℕ) → 0 < c
    → (grid f a c * c * whole f ≤ a * 2 ^ low f * whole f + (a * 2 ^ low f + 2 ^ (prec f - 1) * c))
    × (a * 2 ^ low f * whole f ≤ grid f a c * c * whole f + (a * 2 ^ low f + 2 ^ (prec f - 1) * c))
grid_near f a c C =
    let n = a * 2 ^ low f in
    let k = drop (prec f) n c in
    let h = closest_near n (c * 2 ^ k) (mul-pos C (pow_pos k)) in
    scaled (2 ^ (prec f - 1)) (kept (prec f) n c) (2 ^ k) c n h.0 h.1 (drop_small (prec f) n c (two-le_pos (prec f) (two f)) C)

-- ---- with a bound B on the fraction, in units: the rounded value is within `slack` units
abbrev spare : ℕ → ℕ → ℕ
spare B W = B / W + 2

abbrev pub slack : Format → ℕ → ℕ
slack f B = spare B (whole f)

whole_pos : (f : Format) → 0 < whole f
whole_pos f = mul-pos ((le-div_iff_mul-le (pow_pos 0)).1 zero_lt) (pow_pos (prec f - 1))
  where
    zero_lt : 1 * 1 ≤ 2
    zero_lt = omega arith

cancel : (g c n W H B r : ℕ) → 0 < W → n ≤ B * c → B + H ≤ r * W → g * c * W ≤ n * W + (n + H * c) → n * W ≤ g * c * W + (n + H * c)
    → (g * c ≤ n + r * c) × (n ≤ g * c + r * c)
cancel g c n W H B r P b k h l =
    let m : (B + H) * c ≤ r * W * c = mul-le-mul_right c k in
    let x : g * c * W ≤ (n + r * c) * W = omega arith in
    let y : n * W ≤ (g * c + r * c) * W = omega arith in
    (le_of_mul-le-mul_right x P, le_of_mul-le-mul_right y P)

-- within r units, where r is at least B / 2 ^ prec + 1 / 2
grid_within : (f : Format) (a c B r : ℕ) → 0 < c → a * 2 ^ low f ≤ B * c → B + 2 ^ (prec f - 1) ≤ r * whole f
    → (grid f a c * c ≤ a * 2 ^ low f + r * c) × (a * 2 ^ low f ≤ grid f a c * c + r * c)
grid_within f a c B r C b k =
    let g = grid_near f a c C in
    cancel (grid f a c) c (a * 2 ^ low f) (whole f) (2 ^ (prec f - 1)) B r (whole_pos f) b k g.0 g.1

under : (g c n B r : ℕ) → 0 < c → n ≤ B * c → g * c ≤ n + r * c → g ≤ B + r
under g c n B r C b h = le_of_mul-le-mul_right (omega arith) C

round_val : (f : Format) (s : Bool) (a c : ℕ) → grid f a c < overflow f → HasValue (round f s a c) s (grid f a c) (2 ^ low f)
round_val f s a c h =
    subst (λ (z : Float). HasValue z s (grid f a c) (2 ^ low f)) (sym (round_is f s a c))
    (units_val f s (kept (prec f) (a * 2 ^ low f) c) (drop (prec f) (a * 2 ^ low f) c) h)

-- `round` of a fraction of at most B units is finite, of the sign asked for, and of `size` units
pub record Rounded (f : Format) (s : Bool) (a c B : ℕ) : Type 0 where
  pub size : ℕ
  pub value : HasValue (round f s a c) s size (2 ^ low f)
  pub small : size ≤ B + slack f B
  pub above : size * c ≤ a * 2 ^ low f + slack f B * c
  pub below : a * 2 ^ low f ≤ size * c + slack f B * c

pub round_near : (f : Format) (s : Bool) (a c B : ℕ) → 0 < c → a * 2 ^ low f ≤ B * c → B + slack f B < overflow f → Rounded f s a c B
round_near f s a c B C b o =
    let g = grid_within f a c B (slack f B) C b (enough B (whole f) (2 ^ (prec f - 1)) (whole_pos f) refl) in
    let u = under (grid f a c) c (a * 2 ^ low f) B (slack f B) C b g.0 in
    record { size = grid f a c; value = round_val f s a c (lt_of_le_of_lt u o); small = u; above = g.0; below = g.1 }
  where
    enough : (B W H : ℕ) → 0 < W → W ≡ 2 * H → B + H ≤ spare B W * W
    enough B W H P e =
        let a : B / W * W + B % W ≡ B = div-add-mod' B W in
        let b : B % W < W = mod-lt B P in
        omega arith
