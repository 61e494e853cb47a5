-- The raw saturation temperature, checked once, is equation 31: no step of it is refused with another number than 5, and its last is checked. Assumes nothing.
use mathlib.Core.Path.{◌≡◌, ap, ◌∙◌}
use lib.Ieee.{Float}
use Rattle.common.specs.Outcome.{check, or_nan}
use Rattle.common.specs.Decimal.{decimal, whole}
use Rattle.common.proofs.Formulas.{five, five_add, five_sub, five_mul, five_div, five_minus, settled_mul}
use Rattle.inverses.proofs.Formulas.{five_root_of}
use Rattle.r4.specs.Saturation.{T_saturation, n1, n2, n3, n4, n5, n6, n7, n8, n9, n10}

settled : (p : Float) → check (or_nan (T_saturation p)) ≡ T_saturation p
unfolding T_saturation
settled p =
    let two = five (whole 2) in
    let four = five (whole 4) in
    let N10 = five (or_nan n10) in
    let β = five_root_of (five_root_of (five p)) in
    let E = five_add (five_mul β (five_add β (five (or_nan n3)))) (five (or_nan n6)) in
    let F = five_add (five_mul β (five_add (five_mul (five (or_nan n1)) β) (five (or_nan n4)))) (five (or_nan n7)) in
    let G = five_add (five_mul β (five_add (five_mul (five (or_nan n2)) β) (five (or_nan n5)))) (five (or_nan n8)) in
    let D = five_div (five_mul two G) (five_sub (five_minus F) (five_root_of (five_sub (five_mul F F) (five_mul (five_mul four E) G)))) in
    let S = five_add N10 D in
    settled_mul (five (decimal 0_5 1)) (five_sub S (five_root_of (five_sub (five_mul S S) (five_mul four (five_add (five (or_nan n9)) (five_mul N10 D))))))

-- from the raw form's contract
pub T_checked : (p : Float) {r : Float} → r ≡ or_nan (T_saturation p) → check r ≡ T_saturation p
T_checked p e = ap check e ∙ settled p
