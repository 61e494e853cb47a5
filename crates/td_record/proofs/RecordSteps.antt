-- A record whose fields are worked with no check and tested once is the record with a check at each step.
use mathlib.Core.Path.{◌≡◌, refl, sym}
use lib.Ieee.{Float, nan, inf, fin}
use Rattle.common.specs.Outcome.{Outcome, value, check, then}
use Rattle.common.specs.Formula.{Raw}
use Rattle.common.specs.Number.{Number}
use Rattle.common.proofs.Calls.{no_value}
use Rattle.properties.specs.Together.{Td2cp_w}
use Rattle.properties.proofs.Together.{cp_number, w_number}
use Rattle.td_record.specs.Steps.{record_with, record_after, record_steps}
use Rattle.td_record.specs.declared.Pressure.{Pressure}

-- v is worked first
pub steps_after : (t d v : Float) (source : Pressure) (o : Outcome Float) → Raw o v → then o (λ v. record_steps t d v source) ≡ record_steps t d v source
unfolding record_steps
steps_after t d v source o w = rw w.is (twice v)
  where
    twice : (v : Float) → then (check v) (λ v. record_steps t d v source) ≡ record_steps t d v source
    twice nan = refl
    twice (inf s) = refl
    twice (fin s m e) = refl

-- the cp and the w that were asked for together are those of table 31
pub record_with_lem : (t d v p : Float) {cp w : Float} → Number (Td2cp_w (check t) (check d)).cp cp → Number (Td2cp_w (check t) (check d)).w w → record_after t d v p ≡ record_with t d v p (check cp) (check w)
unfolding record_after
record_with_lem t d v p x y = rw ((cp_number t d x).raw.is, (w_number t d y).raw.is)

-- a number that was accepted is the number that was checked
pub checked : (x y : Float) → value y ≡ check x → value x ≡ check x
checked nan y e = absurd (no_value (sym e))
checked (inf s) y e = absurd (no_value (sym e))
checked (fin s m k) y e = refl
