-- To believe: how far each line that is no polynomial in p may lie in f64 from the exact one, in units of 1 / unit K, as in crate distance, so that 29 is
-- 2.9e-12 K. Assumes nothing: these are definitions.
use Rattle.std.specs.Prelude.{ℕ, ◌≤◌, Float}
use Rattle.common.specs.Outcome.{Outcome, value, refused}
use Rattle.rounding.specs.Fraction.{Fraction, Near}
use Rattle.distance.specs.Distance.{unit}

abbrev pub distance3ab : ℕ
distance3ab = 29

abbrev pub distance3op : ℕ
distance3op = 29

abbrev pub distance3wx : ℕ
distance3wx = 11

abbrev pub saturation_distance : ℕ
saturation_distance = 420000

abbrev pub border_distance : ℕ
border_distance = 5

-- an accepted number that lies within k / unit K of the n-th fraction of the sequence, for every n from 80 on
abbrev pub Follows : (ℕ → Fraction) → ℕ → Outcome Float → Type 0
Follows θ k (value y) = (n : ℕ) → 80 ≤ n → Near y (θ n) k unit
Follows θ k (refused j) = ⊥
