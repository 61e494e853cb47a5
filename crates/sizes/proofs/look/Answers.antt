-- `sizes::look` meets its contract: its tests are those of `looked`. Assumes nothing.
use mathlib.Core.Path.{◌≡◌, refl, sym, ◌∙◌}
use mathlib.Core.Bool.{Bool, true, false, not}
use lib.IntN.{pos}
use lib.Ieee.{Float, fin, lt, ne, of_bits, neg}
use Rattle.sizes.specs.Lost.{subnormal, is_zero, looked}
use Rattle.sizes.proofs.Looks.{least, between_least, no_zero}
use Rattle.sizes.proofs.look.Goals as goal
use Rattle.sizes.proofs.look.Goals.{else-r-via-then-r+then-r-2+else-a, else-r-via-then-r+else-r-2, else-r-via-else-r}

not_zero : {b : Bool} (a : Float) → ne a (fin false 0 (pos 0)) ≡ b → not (is_zero a) ≡ b
not_zero a h = sym (no_zero a) ∙ h

inside : (r : Float) → lt (least true) r ≡ true → lt r (least false) ≡ true → subnormal r ≡ true
inside r h k = sym (between_least r) ∙ rw (h, k)

above : (r : Float) → lt (least true) r ≡ true → lt r (least false) ≡ false → subnormal r ≡ false
above r h k = sym (between_least r) ∙ rw (h, k)

below : (r : Float) → lt (least true) r ≡ false → subnormal r ≡ false
below r h = sym (between_least r) ∙ rw h

zero : (b : Bool) (a r : Float) → subnormal r ≡ b → not (is_zero a) ≡ false → r ≡ looked a r
zero true a r e h = rw (e, h)
zero false a r e h = rw e

pub returns-then-a : goal.returns-then-a
unfolding of_bits neg
returns-then-a c = let a = c.args in rw (not_zero a.a c.if-a.true, inside a.r c.if-r.true c.if-r-2.true)

pub returns-else-r : goal.returns-else-r
unfolding of_bits neg
returns-else-r c =
    let a = c.args in
    elim c.else-r.branch [
      | else-r-via-then-r+then-r-2+else-a w ↦ zero _ a.a a.r refl (not_zero a.a w.if-a.false)
      | else-r-via-then-r+else-r-2 w ↦ rw (above a.r w.if-r.true w.if-r-2.false)
      | else-r-via-else-r w ↦ rw (below a.r w.if-r.false)
    ]
