-- To believe: the secant search of algo/root.rs (`rtsec`) as the list of its trials, with MAX_ITER 20000 and CONVERGENCE_PRECISION 1e-8. Every operation is a step,
-- and one that is lost ends the search with 5. Assumes nothing: these are definitions.
use Rattle.std.specs.Prelude.{ℕ, zero, suc, cond, Option, None, Some, List, [], ◌∷◌, length, Float}
use Rattle.std.specs.Float.Ieee.{lt, le, eq}
use Rattle.common.specs.Outcome.{Outcome, value, check, then, zero_f}
use Rattle.common.specs.Formula.{◌⊕◌, ◌⊖◌, ◌⊗◌, ◌⊘◌, size_of}
use Rattle.common.specs.Decimal.{decimal}
use Rattle.properties.specs.Td.{Td2p, Td2h, Td2s}
use Rattle.secant.specs.declared.Curve.{Curve}
use Rattle.secant.specs.declared.Curve.TheVariants.{Isochore, Enthalpy, Entropy}
use Rattle.secant.specs.declared.Secant.{Secant}
use Rattle.secant.specs.declared.Proposal.{Proposal}

-- ---- the constants

abbrev pub max_iter : ℕ
max_iter = 20000

abbrev pub convergence_precision : Float
convergence_precision = decimal 0_00000001 8

-- ---- what is searched

-- the property along a curve, with no range test
abbrev pub along : Curve → Float → Outcome Float
along (Isochore d p) x = Td2p (check x) (check d.0)
along (Enthalpy t h) x = Td2h (check t.0) (check x)
along (Entropy t s) x = Td2s (check t.0) (check x)

-- and what is asked of it
abbrev pub asked : Curve → Float
asked (Isochore d p) = p.0
asked (Enthalpy t h) = h.0
asked (Entropy t s) = s.0

-- f: what is missing at x of what is asked
unfoldable pub missing_at : Curve → Float → Outcome Float
missing_at curve x = value (asked curve) ⊖ along curve x

-- ---- the start points

-- dx = (xl - x) * f / (f - fl), where e is f - fl
abbrev pub step_by : Secant → Float → Outcome Float
step_by s e = (value s.xl ⊖ value s.x) ⊗ value s.f ⊘ value e

abbrev pub placed : Float → Float → Float → Float → Float → Secant
placed xl fl x f dx = record { xl = xl; fl = fl; x = x; f = f; dx = dx }

-- dx stays 0, so that no trial follows, where f - fl = 0
unfoldable pub opened_by : Secant → Outcome Secant
opened_by s =
    then (value s.f ⊖ value s.fl) (λ e.
    cond (eq e zero_f) (value s) (then (step_by s e) (λ dx. value (placed s.xl s.fl s.x s.f dx))))

-- the start point at which less is missing is the newer one, and the second where as much is
abbrev pub newer_last : Float → Float → Float → Float → Secant
newer_last x1 f1 x2 f2 = cond (lt (size_of f1) (size_of f2)) (placed x2 f2 x1 f1 zero_f) (placed x1 f1 x2 f2 zero_f)

unfoldable pub start_of : Curve → Float → Float → Outcome Secant
unfolding missing_at opened_by
start_of curve x1 x2 =
    then (missing_at curve x1) (λ f1. then (missing_at curve x2) (λ f2. opened_by (newer_last x1 f1 x2 f2)))

-- ---- a trial

-- a place that is not above 0 is put at 0.000001
abbrev pub lifted_to : Float → Float
lifted_to x = cond (le x zero_f) (decimal 0_000001 6) x

-- the place x, to which the step dx led, with what is missing there
abbrev pub arrived_at : Curve → Secant → Float → Float → Outcome Secant
arrived_at curve s dx x = then (missing_at curve x) (λ f. value (placed s.x s.f x f dx))

unfoldable pub trial_by : Curve → Secant → Float → Outcome Secant
unfolding missing_at
trial_by curve s e = then (step_by s e) (λ dx. then (value s.x ⊕ value dx) (λ x. arrived_at curve s dx (lifted_to x)))

-- |dx| > 1e-8 of the last step, f not 0, f - fl not 0: a trial, and the search goes on from there; otherwise it ends
unfoldable pub turn_of : Curve → Secant → Outcome (Option Secant)
unfolding trial_by
turn_of curve s =
    cond (lt convergence_precision (size_of s.dx))
    (cond (eq s.f zero_f)
    (value None)
    (then (value s.f ⊖ value s.fl) (λ e. cond (eq e zero_f) (value None) (then (trial_by curve s e) (λ next. value (Some next))))))
    (value None)

-- ---- the trials, in order: the places at which the property is worked after the start points

abbrev pub after_turn : Option Secant → (Secant → Outcome (List Float)) → Outcome (List Float)
after_turn None f = value []
after_turn (Some s) f = then (f s) (λ xs. value (s.x ∷ xs))

-- at most so many
unfoldable pub trials_from : Curve → ℕ → Secant → Outcome (List Float)
unfolding turn_of
trials_from curve zero s = value []
trials_from curve (suc n) s = then (turn_of curve s) (λ next. after_turn next (trials_from curve n))

-- the last of the places, or x where there is none
abbrev pub last_or : Float → List Float → Float
last_or x [] = x
last_or x (y ∷ ys) = last_or y ys

-- ---- the proposal: the last place, and how many trials there were

unfoldable pub proposal_from : Curve → Secant → Outcome Proposal
unfolding trials_from
proposal_from curve s = then (trials_from curve max_iter s) (λ xs. value (record { place = last_or s.x xs; trials = length xs }))

unfoldable pub proposal_rule : Curve → Float → Float → Outcome Proposal
unfolding start_of proposal_from
proposal_rule curve x1 x2 = then (start_of curve x1 x2) (proposal_from curve)
