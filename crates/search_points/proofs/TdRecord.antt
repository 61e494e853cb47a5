-- The record of a search is the one that a call with its own T and d answers. Assumes nothing.
use Prim.Native.Nat.{ℕ}
use mathlib.Core.Path.{◌≡◌, refl, sym, ◌∙◌}
use mathlib.Core.Bool.{Bool, true, false, cond}
use lib.Ieee.{Float, round}
use Rattle.common.specs.Outcome.{Outcome, value, refused, finite, check}
use Rattle.common.specs.Decimal.{whole, scaled}
use Rattle.common.specs.Formula.{Raw}
use Rattle.common.specs.Range.{Td_box}
use Rattle.common.proofs.Formulas.{raw_value, raw_check, raw_div}
use Rattle.properties.specs.Td.{Td2v}
use Rattle.record.specs.declared.Record.{Record}
use Rattle.td_record.specs.Steps.{record_rule}
use Rattle.td_record.specs.declared.Pressure.TheVariants.{Worked}
use Rattle.td_record.proofs.RecordSteps.{steps_after}
use Rattle.secant.specs.declared.Curve.TheVariants.{Isochore, Enthalpy, Entropy}
use Rattle.checks.specs.Checks.{asked_box, check_p_rule, check_h_rule, check_s_rule}
use Rattle.common.proofs.Calls.{went_on, no_value}
use Rattle.checks.proofs.Promise.{in_box}
use Rattle.search_points.proofs.Trials.{found_accepted, passed}
use Rattle.search.specs.Calls.{density_by, pv_box, Th_box, Ts_box, pv2T_reg3_rule, Th2d_reg3_rule, Ts2d_reg3_rule, record_on, record_found, Searched, pv_rule, Th_rule, Ts_rule}
use Rattle.search_points.proofs.Answered.{record_state}

-- a box that is passed has a finite d
known : (b c : Bool) (o : Outcome Unit) (u : Unit) → cond b (cond c o (refused 1)) (refused 1) ≡ value u → c ≡ true
known true true o u e = refl
known true false o u e = absurd (no_value e)
known false c o u e = absurd (no_value e)

volume_raw : (t d : Float) → finite d ≡ true → Raw (Td2v (check t) (check d)) (density_by d)
unfolding Td2v whole scaled round
volume_raw t d f = raw_div f (raw_value (whole 1) refl) (raw_check d)

-- within the box the two definitions are one
pub same_record : (t d : Float) (u : Unit) → Td_box t d ≡ value u → record_rule t d ≡ record_on t d
unfolding record_rule
same_record t d u e = rw e (steps_after t d (density_by d) Worked (Td2v (check t) (check d)) (volume_raw t d (known (finite t) (finite d) _ u e)))

moved : (t d T D : Float) {o : Outcome Record} → t ≡ T → d ≡ D → record_rule t d ≡ o → record_rule T D ≡ o
moved t d T D e f h = rw (sym e, sym f) h

module _ (a : Searched) where
  at_its_state : (t d : Float) (n : ℕ) (u : Unit) → Td_box t d ≡ value u → record_found (record_on t d) n ≡ value a → record_rule a.state.T a.state.d ≡ value a.state
  at_its_state t d n u box e =
      went_on (record_on t d) _ a _ e (λ r g l.
      let same : r ≡ a.state = cc in
      let worked : record_on t d ≡ value a.state = rw (sym same) g in
      let state = record_state t d (density_by d) a.state worked in
      moved _ _ _ _ state.0 state.1 (same_record t d u box ∙ worked))

  -- the record that is answered is `Td_reg3`'s at its own T and d
  pub pv_record : (p v : Float) → pv_rule p v ≡ value a → record_rule a.state.T a.state.d ≡ value a.state
  unfolding pv_rule pv2T_reg3_rule check_p_rule
  pv_record p v e =
      let curve = Isochore (record { 0 = density_by v }) (record { 0 = p }) in
      went_on (pv2T_reg3_rule p v) _ a _ e (λ q h k.
      went_on (pv_box p v) _ q _ h (λ _ _ f.
      found_accepted curve q _ f (λ u g.
      went_on (asked_box q.place (density_by v) p) _ u _ (passed curve q.place u g) (λ w box _.
      at_its_state q.place (density_by v) q.trials w (in_box q.place (density_by v) p w box) k))))

  pub Th_record : (t h : Float) → Th_rule t h ≡ value a → record_rule a.state.T a.state.d ≡ value a.state
  unfolding Th_rule Th2d_reg3_rule check_h_rule
  Th_record t h e =
      let curve = Enthalpy (record { 0 = t }) (record { 0 = h }) in
      went_on (Th2d_reg3_rule t h) _ a _ e (λ q i k.
      went_on (Th_box t h) _ q _ i (λ _ _ f.
      found_accepted curve q _ f (λ u g.
      went_on (asked_box t q.place h) _ u _ (passed curve q.place u g) (λ w box _.
      at_its_state t q.place q.trials w (in_box t q.place h w box) k))))

  pub Ts_record : (t s : Float) → Ts_rule t s ≡ value a → record_rule a.state.T a.state.d ≡ value a.state
  unfolding Ts_rule Ts2d_reg3_rule check_s_rule
  Ts_record t s e =
      let curve = Entropy (record { 0 = t }) (record { 0 = s }) in
      went_on (Ts2d_reg3_rule t s) _ a _ e (λ q i k.
      went_on (Ts_box t s) _ q _ i (λ _ _ f.
      found_accepted curve q _ f (λ u g.
      went_on (asked_box t q.place s) _ u _ (passed curve q.place u g) (λ w box _.
      at_its_state t q.place q.trials w (in_box t q.place s w box) k))))
