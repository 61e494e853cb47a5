-- The premises can be tested in f64: what lies two margins from a line as it is worked in f64 lies a margin from the exact line, on the same side. So a
-- computed test of two f64s gives the exact letter, with the sides read off the f64s. Assumes nothing.
use mathlib.Core.Path.{◌≡◌, refl, sym, ap, subst}
use Prim.Native.Nat.{ℕ, ◌+◌, ◌*◌, ◌^◌, ◌≤◌, ◌<◌}
use native.Mathlib.Nat.{mul-le-mul_right, le_of_mul-le-mul_right}
use native.Mathlib.Omega.{arith}
use mathlib.Core.Bool.{Bool, true, false, not, ◌&&◌}
use mathlib.Core.List.{List, [], ◌∷◌}
use lib.Dec.{T, leb, leb→le, lit<, lit≤}
use lib.Ieee.{Float, nan, inf, fin, up, down, le, lt}
use lib.Ieee.Fits.{down_pos, and_l, and_r}
use Rattle.common.specs.Outcome.{Outcome, value, value_in}
use Rattle.common.specs.Sum.{every}
use Rattle.common.proofs.Sums.{both_left, both_right}
use Rattle.rounding.specs.Fraction.{Fraction, ratio, signed, side, Near, scaled_by}
use Rattle.border.specs.Border.{B23_p2T}
use Rattle.subregion.specs.declared.Letter.{Letter}
use Rattle.boundary.specs.Choice.{letter_rule}
use Rattle.distance.specs.Exact.{Q}
use Rattle.distance.specs.Letter.{All, kelvin}
use Rattle.exact_lines.specs.Saturation.{limit}
use Rattle.exact_lines.specs.Limit.{Beside}
use Rattle.exact_lines.specs.Letter.{Line, exact_band, lines_of, exact_letter}
use Rattle.exact.specs.Premises.{InBox, PressureClear, Off, Clear, per_kelvin, per_MPa}
use Rattle.exact.proofs.BandLimit.{f64_limit, limit_near}
use Rattle.rounding.proofs.Compare.{Side}
use Rattle.rounding.proofs.Near.{coarser}
use Rattle.exact.proofs.Judged.{worked, InRange, Followed, followed}
use Rattle.exact.proofs.Placed.{placed}
use Rattle.exact.proofs.Border.{border_followed}
use Rattle.exact.proofs.Whole.{in_range_lem, exact_letter_lem}

-- u two below v, and v one from z: u one below z; the numbers are taken D times
below_by : (uo uu us vo vu vs zo zu zs : ℕ) → 0 < vs → uo * vs + vu * us + 2 * (us * vs) ≤ vo * us + uu * vs
    → vo * zs + zu * vs ≤ zo * vs + vu * zs + 1 * (vs * zs)
    → uo * zs + zu * us + 1 * (us * zs) ≤ zo * us + uu * zs
below_by uo uu us vo vu vs zo zu zs P h g = le_of_mul-le-mul_right (go (mul-le-mul_right zs h) (mul-le-mul_right us g)) P
  where
    go : (uo * vs + vu * us + 2 * (us * vs)) * zs ≤ (vo * us + uu * vs) * zs → (vo * zs + zu * vs) * us ≤ (zo * vs + vu * zs + 1 * (vs * zs)) * us
        → (uo * zs + zu * us + 1 * (us * zs)) * vs ≤ (zo * us + uu * zs) * vs
    go p q = omega (arith, p, q)

through : (uo uu us vo vu vs zo zu zs D : ℕ) → 0 < vs → (uo * vs + vu * us) * D + 2 * (us * vs) ≤ (vo * us + uu * vs) * D
    → (vo * zs + zu * vs) * D ≤ (zo * vs + vu * zs) * D + 1 * (vs * zs) → (uo * zs + zu * us) * D + 1 * (us * zs) ≤ (zo * us + uu * zs) * D
through uo uu us vo vu vs zo zu zs D P h g = last (below_by (uo * D) (uu * D) us (vo * D) (vu * D) vs (zo * D) (zu * D) zs P (first h) (second g))
  where
    first : (uo * vs + vu * us) * D + 2 * (us * vs) ≤ (vo * us + uu * vs) * D → uo * D * vs + vu * D * us + 2 * (us * vs) ≤ vo * D * us + uu * D * vs
    first h = omega arith

    second : (vo * zs + zu * vs) * D ≤ (zo * vs + vu * zs) * D + 1 * (vs * zs) → vo * D * zs + zu * D * vs ≤ zo * D * vs + vu * D * zs + 1 * (vs * zs)
    second g = omega arith

    last : uo * D * zs + zu * D * us + 1 * (us * zs) ≤ zo * D * us + uu * D * zs → (uo * zs + zu * us) * D + 1 * (us * zs) ≤ (zo * us + uu * zs) * D
    last k = omega arith

-- the same with every sign changed: two above v, and v one from z
through_above : (uo uu us vo vu vs zo zu zs D : ℕ) → 0 < vs → (vo * us + uu * vs) * D + 2 * (vs * us) ≤ (uo * vs + vu * us) * D
    → (zo * vs + vu * zs) * D ≤ (vo * zs + zu * vs) * D + 1 * (vs * zs) → (zo * us + uu * zs) * D + 1 * (zs * us) ≤ (uo * zs + zu * us) * D
through_above uo uu us vo vu vs zo zu zs D P h g = last (through uu uo us vu vo vs zu zo zs D P (first h) (second g))
  where
    first : (vo * us + uu * vs) * D + 2 * (vs * us) ≤ (uo * vs + vu * us) * D → (uu * vs + vo * us) * D + 2 * (us * vs) ≤ (vu * us + uo * vs) * D
    first h = omega arith

    second : (zo * vs + vu * zs) * D ≤ (vo * zs + zu * vs) * D + 1 * (vs * zs) → (vu * zs + zo * vs) * D ≤ (zu * vs + vo * zs) * D + 1 * (vs * zs)
    second g = omega arith

    last : (uu * zs + zo * us) * D + 1 * (us * zs) ≤ (zu * us + uo * zs) * D → (zo * us + uu * zs) * D + 1 * (zs * us) ≤ (uo * zs + zu * us) * D
    last k = omega arith

-- ---- a float as a fraction, and the test of a side
abbrev fraction_of : Float → Fraction
fraction_of nan = ratio 0 1
fraction_of (inf s) = ratio 0 1
fraction_of (fin s m e) = signed s (m * up e) (down e)

-- x is two margins 1 / D or more below y, or above it
abbrev off_test : Bool → Fraction → Fraction → ℕ → Bool
off_test true x y D = leb (side x y * D + 2 * (x.scale * y.scale)) (side y x * D)
off_test false x y D = leb (side y x * D + 2 * (y.scale * x.scale)) (side x y * D)

side_near : (y : Float) (u z : Fraction) (D : ℕ) → Near y z 1 D → (σ : Bool) → T (off_test σ u (fraction_of y) D) → Side σ u z 1 D
side_near nan u z D h σ t = absurd h
side_near (inf s) u z D h σ t = absurd h
side_near (fin s m e) u z D h σ t = go σ t
  where
    v : Fraction
    v = signed s (m * up e) (down e)

    v_pos : (s : Bool) → 0 < (signed s (m * up e) (down e)).scale
    v_pos false = down_pos e
    v_pos true = down_pos e

    go : (σ : Bool) → T (off_test σ u v D) → Side σ u z 1 D
    go true t =
        through u.over u.under u.scale v.over v.under v.scale z.over z.under z.scale D (v_pos s)
        (leb→le (side u v * D + 2 * (u.scale * v.scale)) (side v u * D) t) h.0
    go false t =
        through_above u.over u.under u.scale v.over v.under v.scale z.over z.under z.scale D (v_pos s)
        (leb→le (side v u * D + 2 * (v.scale * u.scale)) (side u v * D) t) h.1

-- two margins from the float is one from the limit of the sequence that it is near to
pub met : (y : Float) (u : Fraction) (θ : ℕ → Fraction) (k d D : ℕ) → 0 < d → k * D ≤ d → ((n : ℕ) → 80 ≤ n → Near y (θ n) k d)
    → (σ : Bool) → T (off_test σ u (fraction_of y) D) → Beside σ u θ 1 D
met y u θ k d D P l near true t = (80, λ n deep. side_near y u (θ n) D (coarser y (θ n) k d D P l (near n deep)) true t)
met y u θ k d D P l near false t = (80, λ n deep. side_near y u (θ n) D (coarser y (θ n) k d D P l (near n deep)) false t)

-- ---- the sides in f64, and the tests
abbrev pub beyond_f64 : Float → Bool
beyond_f64 p = lt f64_limit p

abbrev pub below_f64 : Float → Float → Line → Bool
below_f64 p t b = le t (value_in (worked b p))

abbrev pub pressure_test : Float → Bool
pressure_test p = off_test (not (beyond_f64 p)) (ratio (scaled_by 48 p) Q) (fraction_of f64_limit) per_MPa

abbrev pub line_test : Float → Float → Line → Bool
line_test p t b = off_test (below_f64 p t b) (kelvin (scaled_by 43 t)) (fraction_of (value_in (worked b p))) per_kelvin

abbrev pub lines_f64 : Float → List Line
lines_f64 p = lines_of (exact_band (beyond_f64 p) (scaled_by 48 p)) (scaled_by 48 p)

abbrev pub border_test : Float → Float → Bool
border_test p t = off_test true (kelvin (scaled_by 43 t)) (fraction_of (value_in (B23_p2T p))) per_kelvin

-- all of them
abbrev pub f64_test : Float → Float → Bool
f64_test p t = border_test p t && pressure_test p && every (line_test p t) (lines_f64 p)

module _ (p t : Float) (i : InBox p t) where
  abbrev P : ℕ
  P = scaled_by 48 p

  abbrev n : ℕ
  n = scaled_by 43 t

  -- two margins from the f64 is one from what it follows
  from_f64 : {o : Outcome Float} {θ : ℕ → Fraction} {k d : ℕ} → 0 < d → k * per_kelvin ≤ d → Followed o θ k d → (σ : Bool)
      → T (off_test σ (kelvin n) (fraction_of (value_in o)) per_kelvin) → Beside σ (kelvin n) θ 1 per_kelvin
  from_f64 {o} {θ} {k} {d} P l f σ h =
      met (value_in o) (kelvin n) θ k d per_kelvin P l (λ m deep. subst (λ (y : Float). Near y (θ m) k d) (sym (ap value_in f.is)) (f.close m deep)) σ h

  off : (b : Line) → InRange P b → T (line_test p t b) → Off b P n (below_f64 p t b)
  off b r h = let g = placed p t i in from_f64 (lit< tt) (lit≤ tt) (followed p P g.p_f64 g.whole_p b r) (below_f64 p t b) h

  all_off : (bs : List Line) → All (InRange P) bs → T (every (line_test p t) bs) → All (λ b. Off b P n (below_f64 p t b)) bs
  unfolding every
  all_off [] r h = tt
  all_off (b ∷ bs) r h =
      (off b r.0 (both_left (line_test p t b) (every (line_test p t) bs) h), all_off bs r.1 (both_right (line_test p t b) (every (line_test p t) bs) h))

  pub clear : T (f64_test p t) → Clear p t (beyond_f64 p) (below_f64 p t)
  clear h =
      let two = and_l (border_test p t && pressure_test p) (every (line_test p t) (lines_f64 p)) h in
      let off-limit : PressureClear (beyond_f64 p) P =
      met f64_limit (ratio P Q) limit 1 (10 ^ 13) per_MPa (lit< tt) (lit≤ tt) (λ n deep. limit_near n deep) (not (beyond_f64 p))
      (and_r (border_test p t) (pressure_test p) two) in
      record {
        box = i;
        border = from_f64 (lit< tt) (lit≤ tt) (border_followed p t i) true (and_l (border_test p t) (pressure_test p) two);
        pressure = off-limit;
        lines = all_off (lines_f64 p) (in_range_lem p t (placed p t i) (beyond_f64 p) refl)
            (and_r (border_test p t && pressure_test p) (every (line_test p t) (lines_f64 p)) h);
      }

-- the letter in exact arithmetic, with the sides read off the f64s
abbrev pub letter_f64 : Float → Float → Letter
letter_f64 p t = exact_letter (beyond_f64 p) (below_f64 p t) (scaled_by 48 p)

pub tested : (p t : Float) → InBox p t → T (f64_test p t) → letter_rule p t ≡ value (letter_f64 p t)
tested p t i h = exact_letter_lem p t (beyond_f64 p) (below_f64 p t) (clear p t i h)
