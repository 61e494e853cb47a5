-- Helps proofs only: the quotients of equations 30 and 31, which the code works in functions of their own. Assumes nothing: these are definitions.
use Rattle.common.specs.Formula.{◌⊕◌, ◌⊖◌, ◌⊗◌, ◌⊘◌, minus_of}
use Rattle.std.specs.Prelude.{ℕ, Float}
use Rattle.common.specs.Outcome.{Outcome, value}
use Rattle.common.specs.Decimal.{whole}
use Rattle.inverses.specs.Formula.{root_of}
use Rattle.r4.specs.Saturation.{n1, n2, n3, n4, n5, n6, n7, n8}

abbrev number : ℕ → Outcome Float
number n = value (whole n)

-- 2C / (-B + root), by ϑ
abbrev pub quotient_of : Outcome Float → Outcome Float
quotient_of ϑ =
    let A = ϑ ⊗ (ϑ ⊕ n1) ⊕ n2 in
    let B = ϑ ⊗ (n3 ⊗ ϑ ⊕ n4) ⊕ n5 in
    let C = ϑ ⊗ (n6 ⊗ ϑ ⊕ n7) ⊕ n8 in
    number 2 ⊗ C ⊘ (minus_of B ⊕ root_of (B ⊗ B ⊖ number 4 ⊗ A ⊗ C))

-- D, by β
abbrev pub quotient_d : Outcome Float → Outcome Float
quotient_d β =
    let E = β ⊗ (β ⊕ n3) ⊕ n6 in
    let F = β ⊗ (n1 ⊗ β ⊕ n4) ⊕ n7 in
    let G = β ⊗ (n2 ⊗ β ⊕ n5) ⊕ n8 in
    number 2 ⊗ G ⊘ (minus_of F ⊖ root_of (F ⊗ F ⊖ number 4 ⊗ E ⊗ G))
