-- To believe: a number as a fraction of whole numbers, and the distance of two of them, multiplied out. Assumes nothing: these are definitions.
use Rattle.std.specs.Prelude.{ℕ, ◌+◌, ◌*◌, ◌/◌, ◌^◌, ◌≤◌, Bool, true, false, List, [], ◌∷◌, ◌⊎◌, leb, Float}
use Rattle.std.specs.Float.{nan, inf, fin}
use Rattle.std.specs.Float.Ieee.{up, down}

-- (over - under) / scale
pub record Fraction : Type 0 where
  pub over : ℕ
  pub under : ℕ
  pub scale : ℕ

-- n / d
abbrev pub ratio : ℕ → ℕ → Fraction
ratio n d = record { over = n; under = 0; scale = d }

-- x - y is (side x y - side y x) / (the two scales' product)
abbrev pub side : Fraction → Fraction → ℕ
side x y = x.over * y.scale + y.under * x.scale

-- x ≤ y
abbrev pub at_most : Fraction → Fraction → Bool
at_most x y = leb (side x y) (side y x)

-- x is a tolerance n / d or more below y
abbrev pub Under : Fraction → Fraction → ℕ → ℕ → Type 0
Under x y n d = side x y * d + n * (x.scale * y.scale) ≤ side y x * d

-- x and y are n / d or more apart
abbrev pub Apart : Fraction → Fraction → ℕ → ℕ → Type 0
Apart x y n d = Under x y n d ⊎ Under y x n d

-- x and y are n / d apart at most
abbrev pub Within : Fraction → Fraction → ℕ → ℕ → Type 0
Within x y n d =
    (side x y * d ≤ side y x * d + n * (x.scale * y.scale)) × (side y x * d ≤ side x y * d + n * (x.scale * y.scale))

-- v or -v
abbrev pub signed : Bool → ℕ → ℕ → Fraction
signed false v d = record { over = v; under = 0; scale = d }
signed true v d = record { over = 0; under = v; scale = d }

-- the float is finite, and within n / d of y
abbrev pub Near : Float → Fraction → ℕ → ℕ → Type 0
Near nan y n d = ⊥
Near (inf s) y n d = ⊥
Near (fin s m e) y n d = Within (signed s (m * up e) (down e)) y n d

-- whole numbers added up over the rows of a table
unfoldable pub sum_over : {R : Type 0} → (R → ℕ) → List R → ℕ
sum_over n [] = 0
sum_over n (r ∷ rs) = n r + sum_over n rs

-- x * 2^k of a positive float x, where that is whole
unfoldable pub scaled_by : ℕ → Float → ℕ
scaled_by k nan = 0
scaled_by k (inf s) = 0
scaled_by k (fin s m e) = m * up e * 2 ^ k / down e
