-- `rules::power_by_bits` meets its contract: the bits give r, and the sign of n decides. Assumes nothing.
use mathlib.Core.Path.{sym, ◌∙◌, ap}
use lib.Ieee.{of_bits}
use mir.Syntax.{w32}
use mir.ValLaws.{to_z-of_z}
use Rattle.rules.specs.RawPower.{by_sign_of, kept}
use Rattle.rules.proofs.SignOf.{all_bits, whole, inverse, lost}
use Rattle.rules.proofs.powi.power_by_bits.Goals as goal

pub returns-then-is_finite : goal.returns-then-is_finite
unfolding of_bits
returns-then-is_finite g c =
    let a = c.args in
    let f = kept _ a.a in
    c.kept.ensures
    ∙ sym
    (ap (by_sign_of f a.n) (sym (all_bits f a.n c.ranges.n a.a _ _ c.unsigned_abs.ensures.value c.by_bits-r.ensures))
    ∙ inverse f a.n c.by_bits-r.result (rw (to_z-of_z w32 a.n c.ranges.n) at c.if-n-lt0.true) (sym c.is_finite.ensures ∙ c.if-is_finite.true))

pub returns-else-is_finite : goal.returns-else-is_finite
unfolding of_bits
returns-else-is_finite g c =
    let a = c.args in
    let f = kept _ a.a in
    let r = c.by_bits-r.result in
    sym
    (ap (by_sign_of f a.n) (sym (all_bits f a.n c.ranges.n a.a _ _ c.unsigned_abs.ensures.value c.by_bits-r.ensures))
    ∙ lost f a.n r (sym c.is_finite.ensures ∙ c.if-is_finite.false))

pub returns-else-n-lt0 : goal.returns-else-n-lt0
unfolding of_bits
returns-else-n-lt0 g c =
    let a = c.args in
    let f = kept _ a.a in
    let r = c.by_bits-r.result in
    sym
    (ap (by_sign_of f a.n) (sym (all_bits f a.n c.ranges.n a.a _ _ c.unsigned_abs.ensures.value c.by_bits-r.ensures))
    ∙ whole f a.n r (rw (to_z-of_z w32 a.n c.ranges.n) at c.if-n-lt0.false))
