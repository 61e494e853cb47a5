-- To believe: the exponential's rule (docs/SCOPE.md, the four written rules), in the written order of rounded operations. In order: its numbers, the nearest
-- whole number, 2^k, the steps, and the rule. Assumes nothing: these are definitions.
use Prim.Native.Nat.{ℕ, ◌*◌, ◌/◌, ◌%◌, ◌^◌, compare}
use Rattle.std.specs.Prelude.{Bool, true, false, ℤ, pos, neg_ℤ, Float}
use mathlib.Core.List.{List, [], ◌∷◌, foldl}
use Rattle.std.specs.Float.{nan, inf, fin, binary64}
use Rattle.std.specs.Float.Ieee.{up, down, nearest, neg, round, of_int}
use Rattle.common.specs.Formula.{◌⊕◌, ◌⊖◌, ◌⊗◌, ◌⊘◌}
use Rattle.common.specs.Outcome.{Outcome, value, then}
use Rattle.common.specs.Range.{only_rule}

-- a whole number
abbrev pub float : ℕ → Float
float n = of_int binary64 (pos n)

abbrev pub number : ℕ → Outcome Float
number n = value (float n)

-- L = 0.6931471805599453, the decimal rounded once: the f64 nearest ln 2
unfoldable pub L : Float
L = round binary64 false 6931471805599453 (10 ^ 16)

-- the whole number nearest to the size of x, m * 2^e: its whole part, or one more, by how twice the rest compares with 1, and at a tie the even one
abbrev pub whole_size : Float → ℕ
whole_size nan = 0
whole_size (inf s) = 0
whole_size (fin s m e) = nearest (m * up e / down e) (compare (m * up e % down e * 2) (down e))

-- -n or n
abbrev pub with_sign : Bool → ℕ → ℤ
with_sign true n = neg_ℤ (pos n)
with_sign false n = pos n

abbrev pub sign_of : Float → Bool
sign_of nan = false
sign_of (inf s) = s
sign_of (fin s m e) = s

-- the whole number nearest to x, ties to even
unfoldable pub nearest_whole : Float → ℤ
nearest_whole x = with_sign (sign_of x) (whole_size x)

-- 2^k
abbrev pub two_to : ℤ → Float
two_to k = fin false 1 k

abbrev pub from14 : List ℕ
from14 = 14 ∷ 13 ∷ 12 ∷ 11 ∷ 10 ∷ 9 ∷ 8 ∷ 7 ∷ 6 ∷ 5 ∷ 4 ∷ 3 ∷ 2 ∷ 1 ∷ []

-- what s becomes at j: 1 + (r*s)/j
abbrev pub next_sum : Outcome Float → Outcome Float → ℕ → Outcome Float
next_sum r s j = number 1 ⊕ r ⊗ s ⊘ number j

-- k is nearest the rounded x/L; s starts at 1, and for j from 14 down to 1 becomes the next. A step that is not finite is refused with 5
unfoldable pub exp_steps : Float → Outcome Float
unfolding nearest_whole
exp_steps x =
    then (value x ⊘ value L) (λ q.
    let k = nearest_whole q in
    let r = value x ⊖ value (of_int binary64 k) ⊗ value L in
    let s = foldl (next_sum r) (number 1) from14 in
    s ⊗ value (two_to k))

-- Refused: 1 for a NaN or an infinity, 2 for an x that is not from -700 to 700
unfoldable pub exponential_rule : Float → Outcome Float
unfolding exp_steps
exponential_rule x = then (only_rule (neg (float 700)) (float 700) x) (λ _. exp_steps x)
