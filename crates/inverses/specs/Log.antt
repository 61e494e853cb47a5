-- To believe: the logarithm's rule (docs/SCOPE.md, the four written rules), in the written order of rounded operations. In order: its steps from m and
-- e on, how x is m * 2^e, and the rule. L is the exponential's. Assumes nothing: these are definitions.
use Rattle.std.specs.Prelude.{ℕ, zero, suc, ◌-◌, ◌*◌, ◌^◌, true, false, cond, ltb, ℤ, Float}
use mathlib.Core.List.{List, [], ◌∷◌, foldl}
use Rattle.std.specs.Float.{nan, inf, fin, binary64}
use Rattle.std.specs.Float.Ieee.{minus, size, round, of_int}
use Rattle.common.specs.Formula.{◌⊕◌, ◌⊖◌, ◌⊗◌, ◌⊘◌}
use Rattle.common.specs.Outcome.{Outcome, value, refused}
use Rattle.rules.specs.Exp.{number}
unfoldable pub use Rattle.rules.specs.Exp.{L}
use Rattle.inverses.specs.Units.{in_units}

abbrev pub odds_from25 : List ℕ
odds_from25 = 25 ∷ 23 ∷ 21 ∷ 19 ∷ 17 ∷ 15 ∷ 13 ∷ 11 ∷ 9 ∷ 7 ∷ 5 ∷ 3 ∷ 1 ∷ []

-- ln (m * 2^e): q starts at 1/27, and for 25, 23, .. 1 becomes q*y + 1/that. A step that is not finite is refused with 5
unfoldable pub ln_steps : Float → ℤ → Outcome Float
ln_steps m e =
    let z = (value m ⊖ number 1) ⊘ (value m ⊕ number 1) in
    let y = z ⊗ z in
    let q = foldl (λ q k. q ⊗ y ⊕ number 1 ⊘ number k) (number 1 ⊘ number 27) odds_from25 in
    value (of_int binary64 e) ⊗ value L ⊕ number 2 ⊗ z ⊗ q

-- x * 2^-1074 is m * 2^e with m = x / 2^k and e = k - 1074. With k one less than the count of x's binary digits m is from 1 up to 2;
-- where that is 1.5 or more, k is the count, so that m is from 0.75 up to 1.5.
abbrev pub places : ℕ → ℕ
places x = cond (ltb (2 * x) (3 * 2 ^ (size x - 1))) (size x - 1) (size x)

-- ln (x * 2^-1074), for an x above 0
unfoldable pub ln_of : ℕ → Outcome Float
unfolding ln_steps
ln_of x = ln_steps (round binary64 false x (2 ^ places x)) (minus (places x) 1074)

-- Refused: 1 for a NaN or an infinity, 5 for a number that is not above 0
unfoldable pub logarithm_rule : Float → Outcome Float
unfolding ln_of
logarithm_rule nan = refused 1
logarithm_rule (inf s) = refused 1
logarithm_rule (fin s zero e) = refused 5
logarithm_rule (fin true (suc m) e) = refused 5
logarithm_rule (fin false (suc m) e) = ln_of (in_units (fin false (suc m) e))
