-- To believe: the calls with (p,v), (T,h) and (T,s), in the order of docs/SCOPE.md: the box, what is found, the record there. Assumes nothing: these are definitions.
use Rattle.std.specs.Prelude.{ℕ, cond, Float}
use Rattle.std.specs.Float.{binary64}
use Rattle.std.specs.Float.Ieee.{div}
use Rattle.common.specs.Outcome.{Outcome, value, refused, finite, then}
use Rattle.common.specs.Decimal.{whole}
use Rattle.common.specs.Constant.{p_range_from, p_range_to, t_range_from, t_range_to, d_range_from, d_range_to, h_range_from, h_range_to, s_range_from, s_range_to}
use Rattle.common.specs.Range.{within, pair_rule}
use Rattle.common.specs.Answer.{paper}
use Rattle.record.specs.Record.{zero_record}
use Rattle.record.specs.declared.Record.{Record}
use Rattle.td_record.specs.Steps.{record_steps}
use Rattle.td_record.specs.declared.Pressure.TheVariants.{Worked}
use Rattle.secant.specs.declared.Proposal.{Proposal}
use Rattle.secant.specs.declared.Curve.TheVariants.{Isochore, Enthalpy, Entropy}
use Rattle.place.specs.AcceptedPlace.{found_on}
use Rattle.search.specs.declared.SearchedRecord.{SearchedRecord}

-- ---- the boxes

-- the density of a volume, worked for the range test and by no step: 1/v of a v next to 0 is outside
abbrev pub density_by : Float → Float
density_by v = div binary64 (whole 1) v

abbrev pub pv_box : Float → Float → Outcome Unit
pv_box p v =
    cond (finite p)
    (cond (finite v) (cond (within p_range_from p_range_to p) (cond (within d_range_from d_range_to (density_by v)) (value tt) (refused 3)) (refused 2)) (refused 1))
    (refused 1)

abbrev pub Th_box : Float → Float → Outcome Unit
Th_box t h = pair_rule t_range_from t_range_to t h_range_from h_range_to h

abbrev pub Ts_box : Float → Float → Outcome Unit
Ts_box t s = pair_rule t_range_from t_range_to t s_range_from s_range_to s

-- ---- T or d

unfoldable pub pv2T_reg3_rule : Float → Float → Outcome Proposal
pv2T_reg3_rule p v = then (pv_box p v) (λ _. found_on (Isochore (record { 0 = density_by v }) (record { 0 = p })))

unfoldable pub Th2d_reg3_rule : Float → Float → Outcome Proposal
Th2d_reg3_rule t h = then (Th_box t h) (λ _. found_on (Enthalpy (record { 0 = t }) (record { 0 = h })))

unfoldable pub Ts2d_reg3_rule : Float → Float → Outcome Proposal
Ts2d_reg3_rule t s = then (Ts_box t s) (λ _. found_on (Entropy (record { 0 = t }) (record { 0 = s })))

-- ---- the records: that of (T,d), with its own v and p, and the trials

pub record Searched : Type 0 where
  pub state : Record
  pub trials : ℕ

abbrev pub record_found : Outcome Record → ℕ → Outcome Searched
record_found o n = then o (λ r. value (record { state = r; trials = n }))

-- v is 1/d, also where a v was asked; p is worked from T and d
abbrev pub record_on : Float → Float → Outcome Record
record_on t d = record_steps t d (div binary64 (whole 1) d) Worked

-- on an isotherm, at the d that was found
abbrev pub record_along : Float → Proposal → Outcome Searched
record_along t q = record_found (record_on t q.place) q.trials

unfoldable pub pv_rule : Float → Float → Outcome Searched
unfolding pv2T_reg3_rule
pv_rule p v = then (pv2T_reg3_rule p v) (λ q. record_found (record_on q.place (density_by v)) q.trials)

unfoldable pub Th_rule : Float → Float → Outcome Searched
unfolding Th2d_reg3_rule
Th_rule t h = then (Th2d_reg3_rule t h) (record_along t)

unfoldable pub Ts_rule : Float → Float → Outcome Searched
unfolding Ts2d_reg3_rule
Ts_rule t s = then (Ts2d_reg3_rule t s) (record_along t)

-- ---- what a caller gets: all +0.0 and no trial where the call is refused

pub record SearchedReport : Type 0 where
  pub verdict : Outcome Unit
  pub state : Record
  pub trials : ℕ

abbrev pub report_searched : Outcome Searched → SearchedReport
report_searched (value a) = record { verdict = value tt; state = a.state; trials = a.trials }
report_searched (refused k) = record { verdict = refused k; state = zero_record; trials = 0 }

abbrev pub paper_searched : SearchedRecord → SearchedReport
paper_searched a = record { verdict = paper a.verdict; state = a.record; trials = a.trials }

-- ---- Helps proofs only: an answer for a record, with the trials that led to it

abbrev pub trials_by : ℕ → Outcome Unit → ℕ
trials_by n (value u) = n
trials_by n (refused k) = 0

abbrev pub with_trials : ℕ → Outcome Unit × Record → SearchedReport
with_trials n a = record { verdict = a.0; state = a.1; trials = trials_by n a.0 }
