-- To believe: what each entry answers to a whole number and two arguments, by the library's own rules.
use Rattle.std.specs.Prelude.{ℤ, Float, Option, None, Some}
use Rattle.rules.specs.Power.{power_rule}
use Rattle.inverses.specs.Root.{root_rule}
use Rattle.inverses.specs.Log.{logarithm_rule}
use Rattle.rules.specs.Exp.{exponential_rule}
use Rattle.r4.specs.Saturation as r4
use Rattle.border.specs.Border as border
use Rattle.boundary.specs.Choice.{letter_rule}
use Rattle.volume_at.specs.Volumes as volume
use Rattle.backward.specs.Backward as backward
use Rattle.by_number.specs.Property.{property_rule}
use Rattle.by_number.specs.Together.{cp_and_w_rule}
use Rattle.td_record.specs.Steps.{record_rule}
use Rattle.record.specs.Record.{report}
use Rattle.region3.specs.Entries as region3
use Rattle.column_row.specs.Row.{row_rule}
use Rattle.search.specs.Calls as search
use Rattle.reply.specs.declared.Reply.{Reply}
use Rattle.reply.specs.Shape.{number_reply, letter_reply, record_reply}
use Rattle.entry_numbers.specs.declared.Entry.{Entry}
use Rattle.entry_numbers.specs.declared.Entry.TheVariants as entry
use Rattle.number_entries.specs.Named.{unknown}
use Rattle.number_entries.specs.Numbers.{boundary_reply, letter_volume_reply, phase_volume_reply}
use Rattle.entries.specs.Named.{row_reply, cp_w_reply, found_reply, searched_reply}

-- entry, whole number, first and second argument
unfoldable pub reply_rule : Entry → ℤ → Float → Float → Reply
reply_rule entry.Power n a b = number_reply (power_rule a n)
reply_rule entry.Root n a b = number_reply (root_rule a)
reply_rule entry.Logarithm n a b = number_reply (logarithm_rule a)
reply_rule entry.Exponential n a b = number_reply (exponential_rule a)
reply_rule entry.PSaturation n a b = number_reply (r4.p_saturation_rule a)
reply_rule entry.TSaturation n a b = number_reply (r4.T_saturation_rule a)
reply_rule entry.Boundary n a b = boundary_reply n a
reply_rule entry.Letter n a b = letter_reply (letter_rule a b)
reply_rule entry.LetterVolume n a b = letter_volume_reply n a b
reply_rule entry.Volume n a b = number_reply (volume.pT2v_reg3_rule a b)
reply_rule entry.PhaseVolume n a b = phase_volume_reply n a b
reply_rule entry.PhT n a b = number_reply (backward.ph2T_reg3_rule a b)
reply_rule entry.PhV n a b = number_reply (backward.ph2v_reg3_rule a b)
reply_rule entry.PsT n a b = number_reply (backward.ps2T_reg3_rule a b)
reply_rule entry.PsV n a b = number_reply (backward.ps2v_reg3_rule a b)
reply_rule entry.HsP n a b = number_reply (backward.hs2p_reg3_rule a b)
reply_rule entry.BorderT n a b = number_reply (border.B23_p2T_rule a)
reply_rule entry.BorderP n a b = number_reply (border.B23_T2p_rule a)
reply_rule entry.TdRecord n a b = record_reply (report (record_rule a b))
reply_rule entry.PtRecord n a b = record_reply (report (region3.pT_rule a b))
reply_rule entry.PhRecord n a b = record_reply (report (region3.ph_rule a b))
reply_rule entry.PsRecord n a b = record_reply (report (region3.ps_rule a b))
reply_rule entry.HsRecord n a b = record_reply (report (region3.hs_rule a b))
reply_rule entry.Property n a b = number_reply (property_rule n a b)
reply_rule entry.PvRecord n a b = searched_reply (search.report_searched (search.pv_rule a b))
reply_rule entry.ThRecord n a b = searched_reply (search.report_searched (search.Th_rule a b))
reply_rule entry.TsRecord n a b = searched_reply (search.report_searched (search.Ts_rule a b))
reply_rule entry.ColumnRow n a b = row_reply (row_rule a b)
reply_rule entry.CpW n a b = cp_w_reply (cp_and_w_rule a b)
reply_rule entry.PvT n a b = found_reply (search.pv2T_reg3_rule a b)
reply_rule entry.ThD n a b = found_reply (search.Th2d_reg3_rule a b)
reply_rule entry.TsD n a b = found_reply (search.Ts2d_reg3_rule a b)

-- of a number that names none
abbrev pub asked_rule : Option Entry → ℤ → Float → Float → Reply
asked_rule (Some e) n a b = reply_rule e n a b
asked_rule None n a b = unknown
