-- What an answer says of its state, whatever the search did: the property at its T and d is within 1e-6 of the asked one. Assumes nothing.
use mathlib.Core.Path.{◌≡◌, sym}
use lib.Ieee.{Float}
use Rattle.common.specs.Outcome.{Outcome, value, check}
use Rattle.record.specs.declared.Record.{Record}
use Rattle.properties.specs.Td.{Td2h, Td2s, Td2u, Td2cv, Td2cp, Td2w, state_pressure}
use Rattle.td_record.specs.Steps.{record_steps, record_after}
use Rattle.td_record.specs.declared.Pressure.TheVariants.{Worked}
use Rattle.secant.specs.declared.Curve.TheVariants.{Isochore, Enthalpy, Entropy}
use Rattle.secant.specs.declared.Proposal.{Proposal}
use Rattle.common.proofs.Calls.{went_on}
use Rattle.checks.proofs.Promise.{Within, p_within, h_within, s_within}
use Rattle.search_points.proofs.Trials.{found_accepted, passed}
use Rattle.search.specs.Calls.{density_by, pv_box, Th_box, Ts_box, pv2T_reg3_rule, Th2d_reg3_rule, Ts2d_reg3_rule, record_on, Searched, pv_rule, Th_rule, Ts_rule}

-- ---- T or d: the check at the place that is answered

pub T_within : (p v : Float) (q : Proposal) → pv2T_reg3_rule p v ≡ value q → Within (state_pressure (check q.place) (check (density_by v))) p
unfolding pv2T_reg3_rule
T_within p v q e =
    let curve = Isochore (record { 0 = density_by v }) (record { 0 = p }) in
    went_on (pv_box p v) _ q _ e (λ _ _ k.
    found_accepted curve q _ k (λ u g. p_within q.place (density_by v) p u (passed curve q.place u g)))

pub d_within_h : (t h : Float) (q : Proposal) → Th2d_reg3_rule t h ≡ value q → Within (Td2h (check t) (check q.place)) h
unfolding Th2d_reg3_rule
d_within_h t h q e =
    let curve = Enthalpy (record { 0 = t }) (record { 0 = h }) in
    went_on (Th_box t h) _ q _ e (λ _ _ k.
    found_accepted curve q _ k (λ u g. h_within t q.place h u (passed curve q.place u g)))

pub d_within_s : (t s : Float) (q : Proposal) → Ts2d_reg3_rule t s ≡ value q → Within (Td2s (check t) (check q.place)) s
unfolding Ts2d_reg3_rule
d_within_s t s q e =
    let curve = Entropy (record { 0 = t }) (record { 0 = s }) in
    went_on (Ts_box t s) _ q _ e (λ _ _ k.
    found_accepted curve q _ k (λ u g. s_within t q.place s u (passed curve q.place u g)))

-- ---- the records

-- a record's T and d are those from which it is worked
pub record_state : (t d v : Float) (r : Record) → record_steps t d v Worked ≡ value r → (t ≡ r.T) × (d ≡ r.d)
unfolding record_steps record_after
record_state t d v r e =
    went_on (check v) _ r _ e (λ _ _ e₁.
    went_on (state_pressure (check t) (check d)) _ r _ e₁ (λ _ _ e₂.
    went_on (Td2h (check t) (check d)) _ r _ e₂ (λ _ _ e₃.
    went_on (Td2s (check t) (check d)) _ r _ e₃ (λ _ _ e₄.
    went_on (Td2u (check t) (check d)) _ r _ e₄ (λ _ _ e₅.
    went_on (Td2cv (check t) (check d)) _ r _ e₅ (λ _ _ e₆.
    went_on (Td2cp (check t) (check d)) _ r _ e₆ (λ _ _ e₇.
    went_on (Td2w (check t) (check d)) _ r _ e₇ (λ _ _ e₈. ((cc), (cc))))))))))

at_state : (o : Float → Float → Outcome Float) (y t d : Float) (r : Record) → (t ≡ r.T) × (d ≡ r.d) → Within (o t d) y → Within (o r.T r.d) y
at_state o y t d r s w = record { number = w.number; is = rw (sym s.0, sym s.1) w.is; near = w.near }

module _ (a : Searched) where
  -- the record's own property at its own T and d is within 1e-6 of the asked one
  pub pv_within : (p v : Float) → pv_rule p v ≡ value a → Within (state_pressure (check a.state.T) (check a.state.d)) p
  unfolding pv_rule
  pv_within p v e =
      went_on (pv2T_reg3_rule p v) _ a _ e (λ q h k.
      went_on (record_on q.place (density_by v)) _ a _ k (λ r g l.
      let same : r ≡ a.state = cc in
      at_state (λ t d. state_pressure (check t) (check d)) p q.place (density_by v) a.state (record_state q.place (density_by v) (density_by (density_by v)) a.state (rw (sym same) g)) (T_within p v q h)))

  pub Th_within : (t h : Float) → Th_rule t h ≡ value a → Within (Td2h (check a.state.T) (check a.state.d)) h
  unfolding Th_rule
  Th_within t h e =
      went_on (Th2d_reg3_rule t h) _ a _ e (λ q f k.
      went_on (record_on t q.place) _ a _ k (λ r g l.
      let same : r ≡ a.state = cc in
      at_state (λ t d. Td2h (check t) (check d)) h t q.place a.state (record_state t q.place (density_by q.place) a.state (rw (sym same) g)) (d_within_h t h q f)))

  pub Ts_within : (t s : Float) → Ts_rule t s ≡ value a → Within (Td2s (check a.state.T) (check a.state.d)) s
  unfolding Ts_rule
  Ts_within t s e =
      went_on (Ts2d_reg3_rule t s) _ a _ e (λ q f k.
      went_on (record_on t q.place) _ a _ k (λ r g l.
      let same : r ≡ a.state = cc in
      at_state (λ t d. Td2s (check t) (check d)) s t q.place a.state (record_state t q.place (density_by q.place) a.state (rw (sym same) g)) (d_within_s t s q f)))
