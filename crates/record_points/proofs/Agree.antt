-- The column run beside the record and the letter choice.
use Rattle.record.specs.Record.{byte_of}
use Rattle.common.specs.Formula.{◌⊘◌}
use mathlib.Core.Path.{◌≡◌, sym, ap, ◌∙◌}
use mathlib.Core.Bool.{Bool, true, false, cond}
use lib.Ieee.{Float}
use Rattle.common.specs.Outcome.{Outcome, value, then, check}
use Rattle.common.specs.Decimal.{whole}
use Rattle.common.proofs.Calls.{went_on}
use Rattle.common.specs.Constant.{dc_water}
use Rattle.border.specs.Border.{region3_box}
use Rattle.record.specs.State.{density_of}
use Rattle.subregion.specs.Letter.{byte_in}
use Rattle.subregion.specs.declared.Letter.{Letter}
use Rattle.boundary.specs.Choice.{letter_at, letter_rule}
use Rattle.volume.specs.Equation.{volume_at}
use Rattle.record.specs.declared.Origin.{Origin}
use Rattle.record.specs.declared.Origin.TheVariants.{Subregion, Critical}
use Rattle.origin.specs.Origin.{at_critical, origin_at, origin_rule}
use Rattle.volume.specs.declared.State.{State}
use Rattle.volume.specs.State.{state_of, state_by}
use Rattle.volume_at.specs.Volumes.{found_rule}
use Rattle.td_record.specs.Steps.{record_steps, record_after, pressure_from}
use Rattle.properties.specs.Td.{Td2h, Td2s, Td2u, Td2cv, Td2cp, Td2w}
use Rattle.record.specs.declared.Record.{Record}
use Rattle.td_record.specs.declared.Pressure.{Pressure}
use Rattle.td_record.specs.declared.Pressure.TheVariants.{Worked}
use Rattle.region3.specs.Entries.{pT_rule}
use Rattle.column_row.specs.Row.{line_in, row_rule}
use Rattle.column_run.specs.Columns.{letter_in, density_in, refusal_in}

-- a record's d is that of the state from which it is worked
record_d : (t d v : Float) (source : Pressure) (r : Record) → record_steps t d v source ≡ value r → r.d ≡ d
unfolding record_steps record_after
record_d t d v source r e =
    went_on (check v) _ r _ e (λ v₁ _ e₁.
    went_on (pressure_from source (check t) (check d)) _ r _ e₁ (λ p _ e₂.
    went_on (Td2h (check t) (check d)) _ r _ e₂ (λ h _ e₃.
    went_on (Td2s (check t) (check d)) _ r _ e₃ (λ s _ e₄.
    went_on (Td2u (check t) (check d)) _ r _ e₄ (λ u _ e₅.
    went_on (Td2cv (check t) (check d)) _ r _ e₅ (λ cv _ e₆.
    went_on (Td2cp (check t) (check d)) _ r _ e₆ (λ cp _ e₇.
    went_on (Td2w (check t) (check d)) _ r _ e₇ (λ w _ e₈. cc))))))))

-- wherever (p,T) answers a record, the column run accepts the row and its density is the record's d
pub density_is : (p t : Float) (r : Record) → pT_rule p t ≡ value r → (density_in p t ≡ r.d) × (refusal_in p t ≡ 0)
unfolding pT_rule row_rule
density_is p t r e =
    went_on (found_rule p t) _ r _ e (λ s h k. (
      ap (λ (o : Outcome State). (line_in o).density.0) h ∙ sym (record_d t s.density.0 s.volume.0 Worked r k),
      ap (λ (o : Outcome State). (line_in o).refusal) h,
    ))

-- the origin of what is found is that of the equation
origin_is : (o : Origin) (q : Outcome Float) (s : State) → state_of o q ≡ value s → s.origin ≡ o
origin_is o q s e = went_on q _ s _ e (λ v _ e₁. went_on (density_of (value v)) _ s _ e₁ (λ d _ e₂. cc))

state_is : (o : Origin) (p t : Float) (s : State) → state_by o p t ≡ value s → s.origin ≡ o
unfolding state_by
state_is (Subregion l) p t s e = origin_is (Subregion l) (volume_at l p t) s e
state_is Critical p t s e = origin_is Critical (value (whole 1) ⊘ value dc_water) s e

origin_by : (p t : Float) (b : Bool) → at_critical p t ≡ value b → origin_at p t ≡ cond b (value Critical) (then (letter_at p t) (λ l. value (Subregion l)))
unfolding origin_at
origin_by p t b f = rw f

letter_by_lem : (p t : Float) (u : Unit) (l : Letter) → region3_box p t ≡ value u → letter_at p t ≡ value l → letter_rule p t ≡ value l
unfolding letter_rule
letter_by_lem p t u l box h = rw box h

module _ (p t : Float) (s : State) (accepted : found_rule p t ≡ value s) where
  byte_is : letter_in p t ≡ byte_of s.origin
  unfolding row_rule
  byte_is = ap (λ (o : Outcome State). (line_in o).letter) accepted

  -- wherever the column run accepts a row that is not the critical point's, its letter is the letter choice's
  pub letter_is : at_critical p t ≡ value false → letter_in p t ≡ byte_in (letter_rule p t)
  unfolding found_rule origin_rule
  letter_is f =
      went_on (origin_rule p t) _ s _ accepted (λ o g e.
      went_on (region3_box p t) _ o _ g (λ u box e₁.
      went_on (letter_at p t) (λ l. value (Subregion l)) o _ (sym (origin_by p t false f) ∙ e₁) (λ l h e₂.
      let i : s.origin ≡ Subregion l = state_is o p t s e ∙ (cc) in
      byte_is ∙ ap byte_of i ∙ sym (ap byte_in (letter_by_lem p t u l box h)))))

  -- at the critical point there is none
  pub critical_is : at_critical p t ≡ value true → letter_in p t ≡ 0
  unfolding found_rule origin_rule
  critical_is f =
      went_on (origin_rule p t) _ s _ accepted (λ o g e.
      went_on (region3_box p t) _ o _ g (λ _ _ e₁.
      let h : value Critical ≡ value o = sym (origin_by p t true f) ∙ e₁ in
      let i : s.origin ≡ Critical = state_is o p t s e ∙ (cc) in
      byte_is ∙ ap byte_of i))
