-- To believe: where the exact letter is promised. p is P / 2^48 MPa and T is t / 2^43 K, P and t whole. Assumes nothing: these are definitions.
use Rattle.std.specs.Prelude.{Bool, true, not, ℕ, ◌^◌, T, Float}
use Rattle.std.specs.Float.{binary64}
use Rattle.std.specs.Float.Ieee.{fits, le}
use Rattle.common.specs.Constant.{p_range_from, p_range_to, t_range_from, t_range_to}
use Rattle.rounding.specs.Fraction.{ratio, scaled_by}
use Rattle.distance.specs.Exact.{Q}
use Rattle.distance.specs.Letter.{All, kelvin, tolerance}
use Rattle.exact_lines.specs.Saturation.{limit}
use Rattle.exact_lines.specs.Limit.{Beside}
use Rattle.exact_lines.specs.Border.{border}
use Rattle.exact_lines.specs.Letter.{Line, line_at, exact_band, lines_of}

-- the margins: a millionth of a kelvin, and a millionth of a millionth of a MPa
abbrev pub per_kelvin : ℕ
per_kelvin = tolerance

abbrev pub per_MPa : ℕ
per_MPa = 10 ^ 12

-- two f64s of the box
pub record InBox (p t : Float) : Type 0 where
  pub p_f64 : T (fits binary64 p)
  pub t_f64 : T (fits binary64 t)
  pub p_from : T (le p_range_from p)
  pub p_to : T (le p p_range_to)
  pub t_from : T (le t_range_from t)
  pub t_to : T (le t t_range_to)

-- T is off the border with region 2 by the margin, below it (true) or above it (false)
abbrev pub BorderClear : Bool → ℕ → ℕ → Type 0
BorderClear below P t = Beside below (kelvin t) (λ n. border n P) 1 per_kelvin

-- p is off p_saturation(643.15) by the margin, above it where `beyond`
abbrev pub PressureClear : Bool → ℕ → Type 0
PressureClear beyond P = Beside (not beyond) (ratio P Q) limit 1 per_MPa

-- T is off the line b by the margin, below it where σ
abbrev pub Off : Line → ℕ → ℕ → Bool → Type 0
Off b P t σ = Beside σ (kelvin t) (line_at b P) 1 per_kelvin

-- T is off each line of p's band, below those of which `below` says so and above the others
abbrev pub LinesClear : Bool → (Line → Bool) → ℕ → ℕ → Type 0
LinesClear beyond below P t = All (λ b. Off b P t (below b)) (lines_of (exact_band beyond P) P)

-- all together: two f64s of the box, T below the border, p off the limit and T off the lines
pub record Clear (p t : Float) (beyond : Bool) (below : Line → Bool) : Type 0 where
  pub box : InBox p t
  pub border : BorderClear true (scaled_by 48 p) (scaled_by 43 t)
  pub pressure : PressureClear beyond (scaled_by 48 p)
  pub lines : LinesClear beyond below (scaled_by 48 p) (scaled_by 43 t)
