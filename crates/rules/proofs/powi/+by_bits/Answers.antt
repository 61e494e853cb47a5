-- The proof of the cycle of calls {by_bits}: one bit more of the exponent, or its last. Assumes nothing.
use mathlib.Core.Path.{◌≡◌, sym, ap, ◌∙◌}
use Prim.Native.Nat.{suc, ◌/◌, ◌%◌}
use lib.Ieee.{Float, binary64, mul}
use borrow.Author.Tests.{eq-eqb, ne_eqb}
use Rattle.rules.specs.Power.{odd, lowest}
use Rattle.rules.specs.Product.{taken}
use Rattle.rules.specs.RawPower.{over_bits, kept}
use Rattle.rules.proofs.Powers.{last, more}
use Rattle.rules.proofs.powi.+by_bits.Goals as goal
use Rattle.rules.proofs.powi.+by_bits.Goals.{then-n-eq1, else-n-eq1}

pub returns-then-h-eq0 : goal.returns-then-h-eq0
returns-then-h-eq0 g t c k l =
    let a = c.args in
    let f = kept _ a.a in
    let stepped : c.if-n-eq1.s ≡ taken f (odd a.n) a.r a.x =
    elim c.if-n-eq1.branch [
      | then-n-eq1 w ↦ rw (eq-eqb (a.n % 2) 1 w.if-n-eq1.true) (w.s-is ∙ w.kept-s.ensures)
      | else-n-eq1 w ↦ rw (ne_eqb (a.n % 2) 1 w.if-n-eq1.false) w.s-is
    ] in
    stepped ∙ sym (last f k a.r a.x a.n c.if-h-eq0.true)

pub returns-else-h-eq0 : goal.returns-else-h-eq0
returns-else-h-eq0 g t c k l =
    let a = c.args in
    let f = kept _ a.a in
    let stepped : c.if-n-eq1.s ≡ taken f (odd a.n) a.r a.x =
    elim c.if-n-eq1.branch [
      | then-n-eq1 w ↦ rw (eq-eqb (a.n % 2) 1 w.if-n-eq1.true) (w.s-is ∙ w.kept-s.ensures)
      | else-n-eq1 w ↦ rw (ne_eqb (a.n % 2) 1 w.if-n-eq1.false) w.s-is
    ] in
    more f k a.r a.x c.by_bits.result a.n c.if-h-eq0.false l
    (λ j h. c.by_bits.ensures j h ∙ ap (λ (s : Float). over_bits f s (mul binary64 a.x a.x) (lowest (suc j) (a.n / 2))) stepped)
