-- `inverses::positive_root` meets its contract: the root of the 53 or 54 digits, with half the places. Assumes nothing.
use Prim.Native.Nat.{◌+◌, ◌*◌, ◌/◌, ◌^◌, ◌≤◌, ◌<◌}
use mathlib.Core.Path.{sym, subst, ◌∙◌}
use native.Mathlib.Omega.{arith}
use Rattle.inverses.proofs.Whole.{Half, half_even, half_odd, root_digits, root_is}
use Rattle.rules.proofs.Fields.{no_nan_bits}
use Rattle.inverses.proofs.Units.{packed}
use Rattle.inverses.proofs.sqrt.positive_root.Goals as goal
use Rattle.inverses.proofs.sqrt.positive_root.Goals.{else-p-eq0, then-p-eq0}

half : (c : goal.After-near_root) → Half c.unpack-p.result.d c.unpack-p.result.e c.if-p-eq0.d
half c =
    let u = c.unpack-p.result in
    let p = c.unpack-p.ensures in
    elim c.if-p-eq0.branch [
      | then-p-eq0 w ↦ subst (Half u.d u.e) (sym w.d-is) (half_even u.d u.e p.0 p.1 w.if-p-eq0.true)
      | else-p-eq0 w ↦ subst (Half u.d u.e) (sym w.d-is) (half_odd u.d u.e p.0 p.1 w.if-p-eq0.false)
    ]

digits : (c : goal.After-near_root) → (2 ^ 52 ≤ c.near_root.result) × (c.near_root.result < 2 ^ 53)
digits c = root_digits _ _ _ _ (half c) c.near_root.ensures

pub float_from_bits-result : goal.float_from_bits-result
float_from_bits-result c = no_nan_bits ((c.unpack-p.result.e + 970) / 2 * 2 ^ 52 + c.near_root.result) (omega (arith, digits c, c.unpack-p.ensures))

pub returns : goal.returns
returns c =
    let r = c.near_root.result in
    let p = c.unpack-p.ensures in
    let g = digits c in
    packed ((c.unpack-p.result.e + 970) / 2) r (omega (arith, p.2)) g.0 g.1 ∙ sym (root_is _ _ _ _ r p.3 (half c) c.near_root.ensures)
