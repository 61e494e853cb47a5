-- `volume_at::pT2v_sat_reg3`: the ranges of the saturation line, then the volume of the state by the letter there.
use mathlib.Core.Path.{sym, ap, ◌∙◌}
use lib.Ieee.{of_bits}
use Rattle.common.specs.Decimal.{decimal, scaled}
use Rattle.common.specs.Range.{saturated_box}
use Rattle.common.proofs.Calls.{went_in, passed_on}
use Rattle.record.specs.State.{volume_of}
use Rattle.subregion.specs.declared.Letter.{Letter}
use Rattle.volume.specs.Equation.{volume_at}
use Rattle.volume_at.specs.Volumes.{pT2v_sat_reg3_rule}
use Rattle.volume_at.proofs.ByLetter.{by_letter}
use Rattle.volume_at.proofs.pT2v_sat_reg3.Goals as goal

pub returns : goal.returns
unfolding pT2v_sat_reg3_rule of_bits decimal scaled
returns c =
    let a = c.args in
    sym (went_in _ c.in_ok-on_line.ensures)
    ∙ by_letter _ _ _
    ∙ ap (λ (l : Letter). volume_of (volume_at l a.p.0 a.t.0)) c.saturated.ensures
    ∙ sym (went_in {o = saturated_box a.p.0 a.t.0} _ c.in_ok-check_pair.ensures)

pub returns-in_err-on_line : goal.returns-in_err-on_line
unfolding pT2v_sat_reg3_rule of_bits decimal scaled
returns-in_err-on_line c =
    let a = c.args in
    passed_on _ _ _ c.from_residual-in_err-on_line.ensures.1 c.in_err-on_line.ensures
    ∙ by_letter _ _ _
    ∙ ap (λ (l : Letter). volume_of (volume_at l a.p.0 a.t.0)) c.saturated.ensures
    ∙ sym (went_in {o = saturated_box a.p.0 a.t.0} _ c.in_ok-check_pair.ensures)

pub returns-in_err-check_pair : goal.returns-in_err-check_pair
unfolding pT2v_sat_reg3_rule of_bits decimal scaled
returns-in_err-check_pair c = passed_on {o = saturated_box c.args.p.0 c.args.t.0} _ _ _ c.from_residual.ensures.1 c.in_err-check_pair.ensures
