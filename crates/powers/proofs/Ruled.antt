-- At a usual base the powers with no look at them are the rule's. Assumes nothing.
use mathlib.Core.Path.{◌≡◌, sym, ◌∙◌}
use mathlib.Core.Bool.{true}
use mathlib.Core.List.{List}
use Prim.Native.Nat.{ℕ, ◌≤◌}
use native.Mathlib.Omega.{arith}
use lib.Ieee.{Float}
use Rattle.sizes.specs.Usual.{usual_base}
use Rattle.rules.proofs.Usual.{usual_raw}
use Rattle.powers.proofs.Exponents.{taken}
use Rattle.powers.specs.Powers.{exponent_at, Written, WrittenBy, ruled}

pub usual_written : (a : Float) (b w : List Float) (lo hi : ℕ) → hi ≤ 129 → usual_base a ≡ true → Written a b w lo hi → WrittenBy (ruled a) b w lo hi
usual_written a b w lo hi h u p = record {
  held = record { size = p.held.size; at = λ k m n. p.held.at k m n ∙ sym (usual_raw a (exponent_at k) u (taken k (omega arith))) };
  rest = p.rest;
}
