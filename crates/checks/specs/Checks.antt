-- To believe: when a state at T and d has an asked p, h or s. The property is worked there and may differ from the asked one by 1e-6 in its unit, the
-- difference rounded; 15 otherwise. Nothing here knows who proposed the state. Assumes nothing: these are definitions.
use Rattle.std.specs.Prelude.{Bool, cond, Float}
use Rattle.std.specs.Float.Ieee.{le}
use Rattle.common.specs.Outcome.{Outcome, value, refused, finite, check, then}
use Rattle.common.specs.Formula.{◌⊖◌, size_of}
use Rattle.common.specs.Decimal.{decimal}
use Rattle.common.specs.Range.{Td_box}
use Rattle.properties.specs.Td.{Td2h, Td2s, state_pressure}

abbrev pub NEAR : Float
NEAR = decimal 0_000001 6

abbrev pub judged_by : Bool → Outcome Unit
judged_by near = cond near (value tt) (refused 15)

-- a property that was worked, held to the asked y: |F - y| ≤ 1e-6
unfoldable pub held_to : Float → Outcome Float → Outcome Unit
held_to y worked = then (worked ⊖ value y) (λ e. judged_by (le (size_of e) NEAR))

-- before any step: 1 looks at T, d and the asked y before 2 looks at T and 3 at d
abbrev pub asked_box : Float → Float → Float → Outcome Unit
asked_box t d y = cond (finite y) (Td_box t d) (refused 1)

-- the checks: the arguments, then the property. The p of a state is in its range: 4 otherwise
unfoldable pub check_p_rule : Float → Float → Float → Outcome Unit
unfolding held_to
check_p_rule t d p = then (asked_box t d p) (λ _. held_to p (state_pressure (check t) (check d)))

unfoldable pub check_h_rule : Float → Float → Float → Outcome Unit
unfolding held_to
check_h_rule t d h = then (asked_box t d h) (λ _. held_to h (Td2h (check t) (check d)))

unfoldable pub check_s_rule : Float → Float → Float → Outcome Unit
unfolding held_to
check_s_rule t d s = then (asked_box t d s) (λ _. held_to s (Td2s (check t) (check d)))
