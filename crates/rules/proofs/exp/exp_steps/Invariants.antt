-- The steps that are left come to the last one's.
use mathlib.Core.Path.{◌≡◌}
use mathlib.Core.List.{foldl}
use lib.ListN.{drop}
use lib.Ieee.{binary64, add, mul, div}
use Rattle.rules.specs.Exp.{float}
use Rattle.rules.specs.RawExp.{raw_turns}
use Rattle.rules.proofs.exp.exp_steps.Given as goal

abbrev pub invariant-loop-d : goal.invariant-loop-d
invariant-loop-d l = foldl (λ s d. add binary64 (float 1) (div binary64 (mul binary64 l.r s) d)) l.s (drop l.d-index l.d-items) ≡ raw_turns l.r
