-- The contracts of the exported functions themselves, in their own readings, `Reads.Post`, held to the laws of region3_c's (its proofs/Unique). Of each: which
-- argument is which, by its place, so that one whose arguments change places with those of its code is refused here too; and that it admits one answer.
-- Assumes nothing.
use mathlib.Core.Path.{◌≡◌}
use mathlib.Core.List.{List}
use Prim.Native.Nat.{ℕ}
use lib.Ieee.{Float}
use contract.Lifetimes.{Lfts}
use denote.Triple.Clauses.{AtExit}
use borrow.Fn.Kinds.{Dens, ended_of, res_t}
use Rattle.inverses.specs.Root.{root_rule}
use Rattle.inverses.specs.Log.{logarithm_rule}
use Rattle.rules.specs.Power.{power_rule}
use Rattle.rules.specs.Exp.{exponential_rule}
use Rattle.r4.specs.Saturation.{p_saturation_rule, T_saturation_rule}
use Rattle.border.specs.Border.{B23_T2p_rule, B23_p2T_rule}
use Rattle.boundary.specs.Choice.{letter_rule}
use Rattle.by_number.specs.Property.{property_rule}
use Rattle.by_number.specs.Together.{cp_and_w_rule}
use Rattle.td_record.specs.Steps.{record_rule}
use Rattle.region3.specs.Entries.{pT_rule, ph_rule, ps_rule, hs_rule}
use Rattle.column_run.specs.Columns.{Lent, lent, columns_rule}
use Rattle.search.specs.Calls.{pv2T_reg3_rule, Th2d_reg3_rule, Ts2d_reg3_rule, pv_rule, Th_rule, Ts_rule}
use Rattle.exchange_entry.specs.Write.{written_by}
use Rattle.region3_c.specs.Exported.{Exported, ExportedLetter, ExportedColumns, ExportedRead}
use Rattle.region3_c.proofs.Unique.{Says, OneBehind, OneVersion, Number, number, Worked, worked, Found, found, There, there}
use Rattle.region3_c.proofs.Unique as low
use Rattle.region3_c_exports.proofs as own

pub numbers : Number own.r3_root.Reads.Post root_rule × Number own.r3_logarithm.Reads.Post logarithm_rule
    × Number own.r3_exponential.Reads.Post exponential_rule × Number own.r3_p_saturation.Reads.Post p_saturation_rule
    × Number own.r3_t_saturation.Reads.Post T_saturation_rule × Number own.r3_p_border.Reads.Post B23_T2p_rule
    × Number own.r3_t_border.Reads.Post B23_p2T_rule
numbers = (
  number (λ κs a e x p. p),
  number (λ κs a e x p. p),
  number (λ κs a e x p. p),
  number (λ κs a e x p. p),
  number (λ κs a e x p. p),
  number (λ κs a e x p. p),
  number (λ κs a e x p. p),
)

pub records : Worked own.r3_td.Reads.Post record_rule × Worked own.r3_pt.Reads.Post pT_rule × Worked own.r3_ph.Reads.Post ph_rule
    × Worked own.r3_ps.Reads.Post ps_rule × Worked own.r3_hs.Reads.Post hs_rule
records = (worked (λ κs a e x p. p), worked (λ κs a e x p. p), worked (λ κs a e x p. p), worked (λ κs a e x p. p), worked (λ κs a e x p. p))

pub places : Found own.r3_pv2t.Reads.Post pv2T_reg3_rule × Found own.r3_th2d.Reads.Post Th2d_reg3_rule × Found own.r3_ts2d.Reads.Post Ts2d_reg3_rule
places = (found (λ κs a e x p. p), found (λ κs a e x p. p), found (λ κs a e x p. p))

pub records_there : There own.r3_pv.Reads.Post pv_rule × There own.r3_th.Reads.Post Th_rule × There own.r3_ts.Reads.Post Ts_rule
records_there = (there (λ κs a e x p. p), there (λ κs a e x p. p), there (λ κs a e x p. p))

-- ---- calls of a shape of their own: which argument is which

pub power_says : Says 1 own.r3_power.Kinds.ps own.r3_power.Kinds.r own.r3_power.Reads.Post (λ κs a x e. Exported (power_rule a.0 a.1.0) x e.1.1.0.now)
power_says κs a e x p = p

pub property_says : Says 1 own.r3_property.Kinds.ps own.r3_property.Kinds.r own.r3_property.Reads.Post
    (λ κs a x e. Exported (property_rule a.0 a.1.0 a.1.1.0) x e.1.1.1.0.now)
property_says κs a e x p = p

pub cp_w_says : Says 3 own.r3_cp_w.Kinds.ps own.r3_cp_w.Kinds.r own.r3_cp_w.Reads.Post
    (λ κs a x e. Exported (cp_and_w_rule a.0 a.1.0).cp x e.1.1.0.now × Exported (cp_and_w_rule a.0 a.1.0).w e.1.1.1.1.0.now e.1.1.1.0.now)
cp_w_says κs a e x p = p

pub letter_says : Says 1 own.r3_letter.Kinds.ps own.r3_letter.Kinds.r own.r3_letter.Reads.Post
    (λ κs a x e. ExportedLetter (letter_rule a.0 a.1.0) x e.1.1.0.now)
letter_says κs a e x p = p

pub columns_says : Says 5 own.r3_columns.Kinds.ps own.r3_columns.Kinds.r own.r3_columns.Reads.Post
    (λ κs a x e. ExportedColumns (columns_rule a.0.now a.1.0.now (lent a.1.1.0.now a.1.1.1.0.now a.1.1.1.1.0.now)) x e.1.1.0.now e.1.1.1.0.now e.1.1.1.1.0.now)
columns_says κs a e x p = p

pub read_says : Says 3 own.r3_read.Kinds.ps own.r3_read.Kinds.r own.r3_read.Reads.Post (λ κs a x e. ExportedRead a.0.now x e.1.0.now e.1.1.0.now)
read_says κs a e x p = p

pub write_says : Says 1 own.r3_write.Kinds.ps own.r3_write.Kinds.r own.r3_write.Reads.Post
    (λ κs a x e. ◌≡◌ {A = ℕ × List ℕ} (x, e.1.1.1.0.now) (written_by a.0 a.1.0 a.1.1.0 a.1.1.1.0.now))
write_says κs a e x p = p

-- ---- and that they admit one answer, as region3_c's do

pub power_one : OneBehind 1 own.r3_power.Kinds.ps own.r3_power.Kinds.r own.r3_power.Reads.Post Float (λ κs d. d.1.1.0.now)
power_one = low.power_one

pub property_one : OneBehind 1 own.r3_property.Kinds.ps own.r3_property.Kinds.r own.r3_property.Reads.Post Float (λ κs d. d.1.1.1.0.now)
property_one = low.property_one

-- both numbers, and w's refusal
pub cp_w_one : (κs : Lfts 3) (a : Dens κs own.r3_cp_w.Kinds.ps) (d e : AtExit (ended_of 3 own.r3_cp_w.Kinds.ps own.r3_cp_w.Kinds.r) κs)
    (x y : (res_t own.r3_cp_w.Kinds.r κs).Denot) → own.r3_cp_w.Reads.Post κs a x d → own.r3_cp_w.Reads.Post κs a y e
    → (x ≡ y) × (d.1.1.0.now ≡ e.1.1.0.now) × (d.1.1.1.0.now ≡ e.1.1.1.0.now) × (d.1.1.1.1.0.now ≡ e.1.1.1.1.0.now)
cp_w_one = low.cp_w_one

pub letter_one : OneBehind 1 own.r3_letter.Kinds.ps own.r3_letter.Kinds.r own.r3_letter.Reads.Post ℕ (λ κs d. d.1.1.0.now)
letter_one = low.letter_one

-- every byte of the three columns
pub columns_one : OneBehind 5 own.r3_columns.Kinds.ps own.r3_columns.Kinds.r own.r3_columns.Reads.Post Lent
    (λ κs d. lent d.1.1.0.now d.1.1.1.0.now d.1.1.1.1.0.now)
columns_one = low.columns_one

-- the pair's byte and every field of the record
pub read_one : OneBehind 3 own.r3_read.Kinds.ps own.r3_read.Kinds.r own.r3_read.Reads.Post (ℕ × List Float) (λ κs d. (d.1.0.now, d.1.1.0.now))
read_one = low.read_one

-- every byte of the room
pub write_one : OneBehind 1 own.r3_write.Kinds.ps own.r3_write.Kinds.r own.r3_write.Reads.Post (List ℕ) (λ κs d. d.1.1.1.0.now)
write_one = low.write_one

pub versions_one : OneVersion own.r3_library_version.Reads.Post × OneVersion own.r3_library_version_0_3_0.Reads.Post
versions_one = low.versions_one
