-- To believe: the root rule, the f64 nearest the exact root, judged by comparing squares of whole numbers, and below it what that means
-- (proofs/Meaning has that it does). Assumes nothing: these are definitions.
use Prim.Native.Nat.{ℕ, zero, suc, ◌+◌, ◌-◌, ◌*◌, ◌/◌, ◌^◌, ◌<◌, ◌≤◌, compare}
use Rattle.std.specs.Prelude.{Bool, true, false, cond, T, leb, Float}
use Rattle.std.specs.Float.{nan, inf, fin, binary64}
use Rattle.std.specs.Float.Ieee.{size, nearest, units, fits}
use Rattle.common.specs.Outcome.{Outcome, value, refused}
use Rattle.inverses.specs.Units.{in_units}

-- 2*r, or 2*r + 1 where its square is at most n
abbrev pub longer : ℕ → ℕ → ℕ
longer n r = cond (leb ((2 * r + 1) * (2 * r + 1)) n) (2 * r + 1) (2 * r)

-- the largest r with r*r ≤ n, for an n below 4^k, a binary digit at a time
unfoldable pub whole_root : ℕ → ℕ → ℕ
whole_root zero n = 0
whole_root (suc k) n = longer n (whole_root k (n / 4))

-- The f64 nearest the exact root of x * 2^-1074. In units of 2^-1074 that is the root of n, and r is its whole part.
-- Of r an f64 keeps the 53 leading binary digits, q, and drops k: the root is from q * 2^k up to (q + 1) * 2^k.
-- It is nearer the upper end where it is above half way between them, which is where 4*n is above the square of (2*q + 1) * 2^k.
-- At a tie `nearest` would take the even one.
unfoldable pub nearest_root : ℕ → Float
nearest_root x =
    let n = x * 2 ^ 1074 in
    let r = whole_root (size n) n in
    let k = size r - 53 in
    let q = r / 2 ^ k in
    let middle = (2 * q + 1) * 2 ^ k in
    units binary64 false (nearest q (compare (4 * n) (middle * middle))) k

-- Refused: 1 for a NaN or an infinity, 5 below 0. The root of a zero is that zero, with its sign.
unfoldable pub root_rule : Float → Outcome Float
unfolding nearest_root
root_rule nan = refused 1
root_rule (inf s) = refused 1
root_rule (fin s zero e) = value (fin s zero e)
root_rule (fin true (suc m) e) = refused 5
root_rule (fin false (suc m) e) = value (nearest_root (in_units (fin false (suc m) e)))

-- ---- what `nearest_root` means

-- neither a NaN, nor an infinity, nor below 0
abbrev pub from_zero : Float → Bool
from_zero nan = false
from_zero (inf s) = false
from_zero (fin true m e) = false
from_zero (fin false m e) = true

-- Every other f64 y is farther from the root of x * 2^-1074 than r is: where y is above r the root is below the number half way from r to y, and where it is
-- below r above that. In units of 2^-1074 the root's square is x * 2^1074, and twice the number half way is r + y.
abbrev pub NearestRoot : ℕ → Float → Type 0
NearestRoot x r =
    (y : Float) → T (fits binary64 y) → T (from_zero y)
    → (in_units r < in_units y → 4 * (x * 2 ^ 1074) < (in_units r + in_units y) * (in_units r + in_units y))
    × (in_units y < in_units r → (in_units r + in_units y) * (in_units r + in_units y) < 4 * (x * 2 ^ 1074))

-- ---- Helps proofs only: r is the nearest whole number to the root of a, which is above r less a half, and at most r and a half
abbrev pub Near : ℕ → ℕ → Type 0
Near a r = (r * r < a + r) × (a ≤ r * r + r)
