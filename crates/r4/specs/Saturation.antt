-- To believe: the saturation line, R7-97, equations 30 and 31 with the coefficients of table 34, in the Rust's order of operations (r4/region4_sat_pT.rs).
-- Assumes nothing: these are definitions.
use Rattle.common.specs.Formula.{◌⊕◌, ◌⊖◌, ◌⊗◌, ◌⊘◌, minus_of}
use Rattle.std.specs.Prelude.{ℕ, pos, Float}
use Rattle.common.specs.Outcome.{Outcome, value, then}
use Rattle.common.specs.Decimal.{plus, minus, decimal, whole}
use Rattle.common.specs.Range.{saturated_p_box, saturated_t_box}
use Rattle.rules.specs.Formula.{power_of}
use Rattle.inverses.specs.Formula.{root_of}

-- table 34
abbrev pub n1 : Outcome Float
n1 = value (plus 14 0_11670521452767 (pos 4))

abbrev pub n2 : Outcome Float
n2 = value (minus 14 0_72421316703206 (pos 6))

abbrev pub n3 : Outcome Float
n3 = value (minus 14 0_17073846940092 (pos 2))

abbrev pub n4 : Outcome Float
n4 = value (plus 14 0_12020824702470 (pos 5))

abbrev pub n5 : Outcome Float
n5 = value (minus 14 0_32325550322333 (pos 7))

abbrev pub n6 : Outcome Float
n6 = value (plus 14 0_14915108613530 (pos 2))

abbrev pub n7 : Outcome Float
n7 = value (minus 14 0_48232657361591 (pos 4))

abbrev pub n8 : Outcome Float
n8 = value (plus 14 0_40511340542057 (pos 6))

abbrev pub n9 : Outcome Float
n9 = value (minus 14 0_23855557567849 (pos 0))

abbrev pub n10 : Outcome Float
n10 = value (plus 14 0_65017534844798 (pos 3))

abbrev number : ℕ → Outcome Float
number n = value (whole n)

-- equation 30, with ϑ of equation 29b
unfoldable pub p_saturation : Float → Outcome Float
p_saturation t =
    let ϑ = value t ⊕ n9 ⊘ (value t ⊖ n10) in
    let A = ϑ ⊗ (ϑ ⊕ n1) ⊕ n2 in
    let B = ϑ ⊗ (n3 ⊗ ϑ ⊕ n4) ⊕ n5 in
    let C = ϑ ⊗ (n6 ⊗ ϑ ⊕ n7) ⊕ n8 in
    power_of (number 2 ⊗ C ⊘ (minus_of B ⊕ root_of (B ⊗ B ⊖ number 4 ⊗ A ⊗ C))) (pos 4)

-- equation 31, with β of equation 29a: a power of one quarter is a root of a root
unfoldable pub T_saturation : Float → Outcome Float
T_saturation p =
    let β = root_of (root_of (value p)) in
    let E = β ⊗ (β ⊕ n3) ⊕ n6 in
    let F = β ⊗ (n1 ⊗ β ⊕ n4) ⊕ n7 in
    let G = β ⊗ (n2 ⊗ β ⊕ n5) ⊕ n8 in
    let D = number 2 ⊗ G ⊘ (minus_of F ⊖ root_of (F ⊗ F ⊖ number 4 ⊗ E ⊗ G)) in
    value (decimal 0_5 1) ⊗ (n10 ⊕ D ⊖ root_of ((n10 ⊕ D) ⊗ (n10 ⊕ D) ⊖ number 4 ⊗ (n9 ⊕ n10 ⊗ D)))

-- the calls: T from 623.15 to 647.096, p from 16.529 to 22.064; what is answered has no range
unfoldable pub p_saturation_rule : Float → Outcome Float
p_saturation_rule t = then (saturated_t_box t) (λ _. p_saturation t)

unfoldable pub T_saturation_rule : Float → Outcome Float
T_saturation_rule p = then (saturated_p_box p) (λ _. T_saturation p)
