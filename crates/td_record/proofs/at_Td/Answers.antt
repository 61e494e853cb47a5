-- `td_record::at_Td`: v is worked first (RecordSteps).
use mathlib.Core.Path.{sym, ◌∙◌}
use Rattle.common.proofs.Calls.{went_in}
use Rattle.td_record.specs.Steps.{record_rule}
use Rattle.td_record.proofs.RecordSteps.{steps_after}
use Rattle.td_record.proofs.at_Td.Goals as goal

pub returns : goal.returns
unfolding record_rule
returns c = c.at_state.ensures ∙ sym (went_in _ c.in_ok-check_Td.ensures ∙ steps_after _ _ _ _ _ c.raw_v.ensures.raw)
