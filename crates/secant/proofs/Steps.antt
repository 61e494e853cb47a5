-- A step as it is worked, with no check; and what the trials that are left come to, after those that were counted. Assumes nothing.
use mathlib.Core.Path.{◌≡◌, refl, ap}
use mathlib.Core.List.{List, ◌∷◌}
use Prim.Native.Nat.{ℕ, suc, ◌+◌}
use native.Mathlib.Omega.{arith}
use lib.ListN.{length}
use lib.Ieee.{Float, binary64, sub, mul, div}
use Rattle.common.specs.Outcome.{Outcome, value, refused, check, then}
use Rattle.common.proofs.Formulas.{raw_first, raw_times, raw_by}
use Rattle.std.specs.Prelude.{None, Some}
use Rattle.secant.specs.Secant.{max_iter, step_by, turn_of, trials_from, last_or, proposal_from}
use Rattle.secant.specs.declared.Curve.{Curve}
use Rattle.secant.specs.declared.Secant.{Secant}
use Rattle.secant.specs.declared.Proposal.{Proposal}

-- ---- a step, worked with no check

abbrev pub raw_step : Secant → Float → Float
raw_step s e = div binary64 (mul binary64 (sub binary64 s.xl s.x) s.f) e

pub step_is : (s : Secant) (e : Float) → step_by s e ≡ check (raw_step s e)
step_is s e = (raw_by e (raw_times s.f (raw_first (sub binary64) s.xl s.x))).is

-- ---- the trials that are left, after k of them

abbrev pub proposal_with : ℕ → Float → List Float → Outcome Proposal
proposal_with k x xs = value (record { place = last_or x xs; trials = k + length xs })

unfoldable pub onward : Curve → ℕ → ℕ → Secant → Outcome Proposal
onward curve n k s = then (trials_from curve n s) (proposal_with k s.x)

counted : (x : Float) (j k : ℕ) → j ≡ k → ◌≡◌ {A = Outcome Proposal} (value (record { place = x; trials = j })) (value (record { place = x; trials = k }))
counted x j k e = ap (λ (n : ℕ). value (record { place = x; trials = n })) e

none_before : (o : Outcome (List Float)) (x : Float) → then o (λ xs. value (record { place = last_or x xs; trials = length xs })) ≡ then o (proposal_with 0 x)
none_before (value xs) x = counted _ _ _ (omega arith)
none_before (refused k) x = refl

pub onward_first : (curve : Curve) (s : Secant) → proposal_from curve s ≡ onward curve max_iter 0 s
unfolding proposal_from onward
onward_first curve s = none_before (trials_from curve max_iter s) s.x

-- none is left
pub onward_none : (curve : Curve) (k : ℕ) (s : Secant) → onward curve 0 k s ≡ value (record { place = s.x; trials = k })
unfolding onward trials_from
onward_none curve k s = counted _ _ _ (omega arith)

longer : (o : Outcome (List Float)) (k : ℕ) (x z : Float) → then (then o (λ xs. value (z ∷ xs))) (proposal_with k x) ≡ then o (proposal_with (k + 1) z)
longer (value xs) k x z = counted _ _ _ (omega arith)
longer (refused n) k x z = refl

module _ (curve : Curve) (n k : ℕ) (s : Secant) where
  pub onward_ended : turn_of curve s ≡ value None → onward curve (suc n) k s ≡ value (record { place = s.x; trials = k })
  unfolding onward trials_from
  onward_ended h = rw h (counted _ _ _ (omega arith))

  pub onward_lost : (r : ℕ) → turn_of curve s ≡ refused r → onward curve (suc n) k s ≡ refused r
  unfolding onward trials_from
  onward_lost r h = rw h

  pub onward_tried : (next : Secant) → turn_of curve s ≡ value (Some next) → onward curve (suc n) k s ≡ onward curve n (k + 1) next
  unfolding onward trials_from
  onward_tried next h = rw h (longer (trials_from curve n next) k s.x next.x)
