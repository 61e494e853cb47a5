-- What crates promise each other of a table of powers; no public call's answer speaks of it. The powers of one base stand in a table of 129: the power n
-- at 64 + n, for n from -64 to 64. Assumes nothing: these are definitions.
use Rattle.std.specs.Prelude.{ℕ, ◌+◌, ◌-◌, ◌<◌, ◌≤◌, ◌≡◌, Bool, true, false, cond, List, ltb, leb, ℤ, pos, negsuc, nat_abs, length, get_or, Float}
use Rattle.std.specs.Float.{nan}
use Rattle.common.specs.Outcome.{or_nan}
use Rattle.rules.specs.Power.{power_rule}
use Rattle.rules.specs.RawPower.{raw_power}

abbrev pub exponent : Bool → ℕ → ℤ
exponent true k = negsuc (63 - k)
exponent false k = pos (k - 64)

-- the exponent whose power stands at k
abbrev pub exponent_at : ℕ → ℤ
exponent_at k = exponent (ltb k 64) k

-- from lo to below hi each power stands in its place, as f has it
pub record Has (f : ℤ → Float) (w : List Float) (lo hi : ℕ) : Type 0 where
  pub size : length w ≡ 129
  pub at : (k : ℕ) → lo ≤ k → k < hi → get_or w k nan ≡ f (exponent_at k)

-- and everywhere else what was there before
pub record WrittenBy (f : ℤ → Float) (before w : List Float) (lo hi : ℕ) : Type 0 where
  pub held : Has f w lo hi
  pub rest : (k : ℕ) → (lo ≤ k → k < hi → ⊥) → get_or w k nan ≡ get_or before k nan

-- the powers of a with no look at them, and as the rule has them, a NaN for one that is refused
abbrev pub HasPowers : Float → List Float → ℕ → ℕ → Type 0
HasPowers a = Has (raw_power a)

abbrev pub Written : Float → List Float → List Float → ℕ → ℕ → Type 0
Written a = WrittenBy (raw_power a)

abbrev pub ruled : Float → ℤ → Float
ruled a n = or_nan (power_rule a n)

-- n, or 64 where that is less
abbrev pub capped : ℕ → ℕ
capped n = 64 - (64 - n)

-- the highest power that is worked to have those from -down to up
abbrev pub highest : ℕ → ℕ → ℕ
highest up down = capped down + (capped up - capped down)

-- the powers of a from -down to the highest, and to 7 in any case, are written to a table of 129: with no look at them
abbrev pub BarePowers : Float → List Float → List Float → ℕ → ℕ → Type 0
BarePowers a before w up down = Written a before w (64 - capped down) (72 + (highest up down - 7))

-- and as the rule has them
abbrev pub Powers : Float → List Float → List Float → ℕ → ℕ → Type 0
Powers a before w up down = WrittenBy (ruled a) before w (64 - capped down) (72 + (highest up down - 7))

-- where the power n stands
abbrev pub place_of : ℤ → ℕ
place_of (pos k) = 64 + k
place_of (negsuc k) = 63 - k

-- the power n in w: a NaN for an exponent that has no place there
abbrev pub looked_up : List Float → ℤ → Float
looked_up w n = cond (leb (nat_abs n) 64) (get_or w (place_of n) nan) nan
