-- The series with the steps that are left comes to the whole one.
use mathlib.Core.Path.{◌≡◌}
use mathlib.Core.List.{foldl}
use lib.ListN.{drop}
use lib.Ieee.{binary64, add, mul}
use Rattle.inverses.specs.RawLog.{raw_series}
use Rattle.inverses.proofs.ln.ln_steps.Given as goal

abbrev pub invariant-loop-c : goal.invariant-loop-c
invariant-loop-c l = foldl (λ q c. add binary64 (mul binary64 q l.y) c) l.q (drop l.c-index l.c-items) ≡ raw_series l.y
