-- The premises of demand 3 are met in each letter of both sub-bands: twelve points, one table, one computed test. Assumes nothing.
use mathlib.Core.Path.{◌≡◌, refl}
use mathlib.Core.Logic.{◌⊎◌, inl, inr}
use Prim.Native.Nat.{ℕ, ◌+◌, ◌*◌, ◌≤◌}
use mathlib.Core.Bool.{Bool, true, false, ◌&&◌, ◌||◌}
use mathlib.Core.List.{List, [], ◌∷◌, map}
use lib.Dec.{T, leb, leb→le}
use lib.Ieee.Fits.{and_l, and_r}
use lib.Ieee.{Float, binary64, round, neg, add, sub, sum, div, fits, le, lt, eq}
use Rattle.common.specs.Outcome.{value_in}
use Rattle.common.specs.Decimal.{decimal, whole, scaled, plus}
use Rattle.common.specs.Constant.{t_range_from, t_range_to}
use Rattle.common.specs.Sum.{every}
use Rattle.inverses.specs.Units.{in_units}
use Rattle.inverses.specs.Root.{root_rule, nearest_root, whole_root}
use Rattle.border.specs.Border.{B23_p2T, B23_p2T_rule}
use Rattle.rounding.specs.Fraction.{side, scaled_by, sum_over}
use Rattle.subregion.specs.declared.Letter.{Letter}
use Rattle.subregion.specs.declared.Letter.TheVariants.{C, G, H, I, J, K, L}
use Rattle.distance.specs.Exact.{Polynomial, temperature}
use Rattle.distance.specs.Letter.{tolerance, kelvin, exact_letter, All, five, Inside, Clear, Off}
use Rattle.distance.proofs.Lists.{all_of}

pub record Point : Type 0 where
  pub p : Float
  pub t : Float
  pub letter : Letter

abbrev at : Float → Float → Letter → Point
at p t l = record { p = p; t = t; letter = l }

unfoldable pub points : List Point
unfolding decimal whole
points =
    at (whole 24) (whole 640) C
    ∷ at (whole 24) (whole 650) G
    ∷ at (whole 24) (decimal 653_5 1) H
    ∷ at (whole 24) (whole 655) I
    ∷ at (whole 24) (whole 660) J
    ∷ at (whole 24) (whole 670) K
    ∷ at (decimal 23_2 1) (whole 640) C
    ∷ at (decimal 23_2 1) (whole 648) L
    ∷ at (decimal 23_2 1) (whole 651) H
    ∷ at (decimal 23_2 1) (whole 652) I
    ∷ at (decimal 23_2 1) (whole 655) J
    ∷ at (decimal 23_2 1) (whole 665) K
    ∷ []

abbrev exact_at : Point → Letter
exact_at x = exact_letter (scaled_by 48 x.p) (scaled_by 43 x.t)

pub points_letters : map exact_at points ≡ map (λ x. x.letter) points
unfolding points exact_letter temperature sum_over scaled_by scaled round
points_letters = refl

-- ---- the premises, as a test
abbrev off : Polynomial → ℕ → ℕ → Bool
off b P n =
    let x = kelvin n in
    let y = temperature b P in
    leb (side x y * tolerance + 1 * (x.scale * y.scale)) (side y x * tolerance)
    || leb (side y x * tolerance + 1 * (y.scale * x.scale)) (side x y * tolerance)

off→ : (b : Polynomial) (P n : ℕ) → T (off b P n) → Off b P n
off→ b P n t =
    let x = kelvin n in
    let y = temperature b P in
    either (side x y * tolerance + 1 * (x.scale * y.scale)) (side y x * tolerance) (side y x * tolerance + 1 * (y.scale * x.scale)) (side x y * tolerance) t
  where
    cases : (a b : Bool) → T (a || b) → T a ⊎ T b
    cases true b t = inl tt
    cases false b t = inr t

    either : (a b c d : ℕ) → T (leb a b || leb c d) → (a ≤ b) ⊎ (c ≤ d)
    either a b c d t = elim (cases (leb a b) (leb c d) t) [ inl u ↦ inl (leb→le a b u) | inr u ↦ inr (leb→le c d u) ]

abbrev placed : Float → Float → List Bool
placed p t = fits binary64 p ∷ fits binary64 t ∷ lt (whole 23) p ∷ le p (whole 25) ∷ le t_range_from t ∷ le t t_range_to ∷ le t (value_in (B23_p2T_rule p)) ∷ []

abbrev meets : Point → Bool
meets x = every (λ b. b) (placed x.p x.t) && every (λ b. off b (scaled_by 48 x.p) (scaled_by 43 x.t)) five

-- ---- the premises hold
pub record Met (x : Point) : Type 0 where
  pub inside : Inside x.p x.t
  pub clear : Clear (scaled_by 48 x.p) (scaled_by 43 x.t)

met : (x : Point) → T (meets x) → Met x
met x h =
    let P = scaled_by 48 x.p in
    let n = scaled_by 43 x.t in
    let a = every (λ b. b) (placed x.p x.t) in
    let o = every (λ b. off b P n) five in
    let e = all_of (λ b. b) T (λ b t. t) (placed x.p x.t) (and_l a o h) in
    record {
      inside = record {
        p_f64 = e.0;
        t_f64 = e.1.0;
        p_above = e.1.1.0;
        p_upto = e.1.1.1.0;
        t_from = e.1.1.1.1.0;
        t_to = e.1.1.1.1.1.0;
        t_border = e.1.1.1.1.1.1.0;
      };
      clear = all_of (λ b. off b P n) (λ b. Off b P n) (λ b t. off→ b P n t) five (and_r a o h);
    }

pub points_met : All Met points
unfolding points every temperature sum_over scaled_by B23_p2T_rule B23_p2T root_rule nearest_root whole_root in_units whole decimal plus scaled round neg add sub sum
    div fits lt le eq
points_met = all_of meets Met met points tt
