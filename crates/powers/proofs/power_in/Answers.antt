-- `powers::power_in` meets its contract: the two tests leave the exponents that have a place.
use lib.Ieee.{of_bits}
use mir.Syntax.{w64}
use mir.Val.{to_z, of_z}
use mir.ValLaws.{to_z-of_z}
use mathlib.Core.Path.{◌≡◌, sym, ◌∙◌}
use Rattle.powers.proofs.Looked.{too_low, too_high}
use Rattle.powers.proofs.power_in.Goals as goal
use Rattle.powers.proofs.power_in.Goals.{then-n-ltminus64, else-n-ltminus64}

pub returns-then-n-gt64 : goal.returns-then-n-gt64
unfolding of_bits
returns-then-n-gt64 c =
    let same : to_z w64 (of_z w64 c.args.n) ≡ c.args.n = to_z-of_z w64 c.args.n c.ranges.n in
    elim c.if-n-ltminus64.branch [
      | then-n-ltminus64 w ↦ rw (too_low c.args.n (rw same at w.if-n-ltminus64.true))
      | else-n-ltminus64 w ↦ rw (too_high c.args.n (rw same at (sym w.value-is ∙ c.if-n-gt64.true)))
    ]
