-- `td_record::at_state`: by what v and p come to.
use mathlib.Core.Path.{sym, ◌∙◌}
use Rattle.common.proofs.Calls.{went_in}
use Rattle.td_record.specs.Steps.{record_steps}
use Rattle.td_record.proofs.RecordSteps.{checked, record_with_lem}
use Rattle.td_record.proofs.at_state.Goals as goal

pub returns : goal.returns
unfolding record_steps
returns c =
    let both = c.raw_cp_w.ensures in
    let fields = record_with_lem _ _ _ _ both.0 both.1 ∙ c.worked_fields.ensures in
    c.completed.ensures ∙ sym (went_in _ (checked _ _ c.in_ok-settle.ensures) ∙ went_in _ c.in_ok-p.ensures ∙ fields)
