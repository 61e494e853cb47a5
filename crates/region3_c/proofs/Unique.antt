-- The contracts of the exported calls, in their own readings, `Reads.Post`. Of each call: which argument is which, by its place (`says`): the first is T of
-- `r3_td`, p of `r3_pt`, and so on, as bindings/c/region3.h has them, so that a contract whose arguments change places with those of its code is refused here;
-- and that it admits one answer (`one`): one refusal byte, and one content of what stands behind each pointer. Calls of one shape share their law.
-- Assumes nothing.
use mathlib.Core.Path.{◌≡◌, sym, ap, ◌∙◌}
use mathlib.Core.List.{List}
use Prim.Native.Nat.{ℕ}
use lib.Ieee.{Float}
use contract.Lifetimes.{Lfts}
use denote.Triple.Clauses.{AtExit}
use borrow.Fn.Kinds.{ParamKind, ResultKind, Out, Dens, ended_of, res_t}
use Rattle.common.specs.Outcome.{Outcome}
use Rattle.inverses.specs.Root.{root_rule}
use Rattle.inverses.specs.Log.{logarithm_rule}
use Rattle.rules.specs.Exp.{exponential_rule}
use Rattle.r4.specs.Saturation.{p_saturation_rule, T_saturation_rule}
use Rattle.border.specs.Border.{B23_T2p_rule, B23_p2T_rule}
use Rattle.boundary.specs.Choice.{letter_rule}
use Rattle.by_number.specs.Together.{cp_and_w_rule}
use Rattle.record.specs.Record.{report}
use Rattle.record.specs.declared.Record.{Record}
use Rattle.td_record.specs.Steps.{record_rule}
use Rattle.region3.specs.Entries.{pT_rule, ph_rule, ps_rule, hs_rule}
use Rattle.column_run.specs.Columns.{Lent, lent, columns_rule}
use Rattle.secant.specs.declared.Proposal.{Proposal}
use Rattle.search.specs.Calls.{Searched, pv2T_reg3_rule, Th2d_reg3_rule, Ts2d_reg3_rule, pv_rule, Th_rule, Ts_rule, report_searched}
use Rattle.region3_c.specs.Exported.{Exported, ExportedLetter, ExportedRecord, ExportedFound, ExportedSearched, ExportedColumns}
use Rattle.exchange_entry.proofs.Unique.{one_exchange}
use Rattle.region3_c.proofs as own

abbrev pub Says : (n : ℕ) (ps : List (ParamKind n)) (r : ResultKind n) → Out n ps r → Out n ps r → Type 0
Says n ps r post said = (κs : Lfts n) (a : Dens κs ps) (e : AtExit (ended_of n ps r) κs) (x : (res_t r κs).Denot) → post κs a x e → said κs a x e

-- of any arguments, a contract admits one result and one content of what `behind` names
abbrev pub OneBehind : (n : ℕ) (ps : List (ParamKind n)) (r : ResultKind n) → Out n ps r → (A : Type 0)
    → ((κs : Lfts n) → AtExit (ended_of n ps r) κs → A) → Type 0
OneBehind n ps r post A behind =
    (κs : Lfts n) (a : Dens κs ps) (d e : AtExit (ended_of n ps r) κs) (x y : (res_t r κs).Denot) →
    post κs a x d → post κs a y e → (x ≡ y) × (behind κs d ≡ behind κs e)

both : {A B : Type 0} {a b m : A} {c d n : B} → (a ≡ m) × (c ≡ n) → (b ≡ m) × (d ≡ n) → (a ≡ b) × (c ≡ d)
both p q = (p.0 ∙ sym q.0, p.1 ∙ sym q.1)

pairs : {A B : Type 0} {a b : A} {c d : B} → a ≡ b → c ≡ d → ◌≡◌ {A = A × B} (a, c) (b, d)
pairs f g = cc

both_told : {A B C : Type 0} {a b m : A} {c d n : B} {e f o : C} → (a ≡ m) × (c ≡ n) × (e ≡ o) → (b ≡ m) × (d ≡ n) × (f ≡ o)
    → (a ≡ b) × (◌≡◌ {A = B × C} (c, e) (d, f))
both_told p q = (p.0 ∙ sym q.0, pairs (p.1 ∙ sym q.1) (p.2 ∙ sym q.2))

-- ---- a number, by one argument

abbrev pub NumberOut : Type 1
NumberOut = Out 1 own.r3_root.Kinds.ps own.r3_root.Kinds.r

abbrev pub number_by : (Float → Outcome Float) → NumberOut
number_by rule κs a x e = Exported (rule a.0) x e.1.0.now

pub record Number (post : NumberOut) (rule : Float → Outcome Float) : Type 0 where
  pub says : Says 1 own.r3_root.Kinds.ps own.r3_root.Kinds.r post (number_by rule)
  pub one : OneBehind 1 own.r3_root.Kinds.ps own.r3_root.Kinds.r post Float (λ κs d. d.1.0.now)

pub number : {post : NumberOut} {rule : Float → Outcome Float} → Says 1 own.r3_root.Kinds.ps own.r3_root.Kinds.r post (number_by rule) → Number post rule
number s = record { says = s; one = λ κs a d e x y p q. both (s κs a d x p) (s κs a e y q) }

pub numbers : Number own.r3_root.Reads.Post root_rule × Number own.r3_logarithm.Reads.Post logarithm_rule
    × Number own.r3_exponential.Reads.Post exponential_rule × Number own.r3_p_saturation.Reads.Post p_saturation_rule
    × Number own.r3_t_saturation.Reads.Post T_saturation_rule × Number own.r3_p_border.Reads.Post B23_T2p_rule
    × Number own.r3_t_border.Reads.Post B23_p2T_rule
numbers = (
  number (λ κs a e x p. p),
  number (λ κs a e x p. p),
  number (λ κs a e x p. p),
  number (λ κs a e x p. p),
  number (λ κs a e x p. p),
  number (λ κs a e x p. p),
  number (λ κs a e x p. p),
)

-- ---- a record, by two arguments

abbrev pub RecordOut : Type 1
RecordOut = Out 1 own.r3_td.Kinds.ps own.r3_td.Kinds.r

abbrev pub record_by : (Float → Float → Outcome Record) → RecordOut
record_by rule κs a x e = ExportedRecord (report (rule a.0 a.1.0)) x e.1.1.0.now

pub record Worked (post : RecordOut) (rule : Float → Float → Outcome Record) : Type 0 where
  pub says : Says 1 own.r3_td.Kinds.ps own.r3_td.Kinds.r post (record_by rule)
  pub one : OneBehind 1 own.r3_td.Kinds.ps own.r3_td.Kinds.r post (List Float) (λ κs d. d.1.1.0.now)

pub worked : {post : RecordOut} {rule : Float → Float → Outcome Record} → Says 1 own.r3_td.Kinds.ps own.r3_td.Kinds.r post (record_by rule) → Worked post rule
worked s = record { says = s; one = λ κs a d e x y p q. both (s κs a d x p) (s κs a e y q) }

pub records : Worked own.r3_td.Reads.Post record_rule × Worked own.r3_pt.Reads.Post pT_rule × Worked own.r3_ph.Reads.Post ph_rule
    × Worked own.r3_ps.Reads.Post ps_rule × Worked own.r3_hs.Reads.Post hs_rule
records = (worked (λ κs a e x p. p), worked (λ κs a e x p. p), worked (λ κs a e x p. p), worked (λ κs a e x p. p), worked (λ κs a e x p. p))

-- ---- what a search found, and its trials

abbrev pub FoundOut : Type 1
FoundOut = Out 2 own.r3_pv2t.Kinds.ps own.r3_pv2t.Kinds.r

abbrev pub found_by : (Float → Float → Outcome Proposal) → FoundOut
found_by rule κs a x e = ExportedFound (rule a.0 a.1.0) x e.1.1.0.now e.1.1.1.0.now

pub record Found (post : FoundOut) (rule : Float → Float → Outcome Proposal) : Type 0 where
  pub says : Says 2 own.r3_pv2t.Kinds.ps own.r3_pv2t.Kinds.r post (found_by rule)
  pub one : OneBehind 2 own.r3_pv2t.Kinds.ps own.r3_pv2t.Kinds.r post (Float × ℕ) (λ κs d. (d.1.1.0.now, d.1.1.1.0.now))

pub found : {post : FoundOut} {rule : Float → Float → Outcome Proposal} → Says 2 own.r3_pv2t.Kinds.ps own.r3_pv2t.Kinds.r post (found_by rule) → Found post rule
found s = record { says = s; one = λ κs a d e x y p q. both_told (s κs a d x p) (s κs a e y q) }

pub places : Found own.r3_pv2t.Reads.Post pv2T_reg3_rule × Found own.r3_th2d.Reads.Post Th2d_reg3_rule × Found own.r3_ts2d.Reads.Post Ts2d_reg3_rule
places = (found (λ κs a e x p. p), found (λ κs a e x p. p), found (λ κs a e x p. p))

-- ---- the record there, and the trials

abbrev pub ThereOut : Type 1
ThereOut = Out 2 own.r3_pv.Kinds.ps own.r3_pv.Kinds.r

abbrev pub there_by : (Float → Float → Outcome Searched) → ThereOut
there_by rule κs a x e = ExportedSearched (report_searched (rule a.0 a.1.0)) x e.1.1.0.now e.1.1.1.0.now

pub record There (post : ThereOut) (rule : Float → Float → Outcome Searched) : Type 0 where
  pub says : Says 2 own.r3_pv.Kinds.ps own.r3_pv.Kinds.r post (there_by rule)
  pub one : OneBehind 2 own.r3_pv.Kinds.ps own.r3_pv.Kinds.r post (List Float × ℕ) (λ κs d. (d.1.1.0.now, d.1.1.1.0.now))

pub there : {post : ThereOut} {rule : Float → Float → Outcome Searched} → Says 2 own.r3_pv.Kinds.ps own.r3_pv.Kinds.r post (there_by rule) → There post rule
there s = record { says = s; one = λ κs a d e x y p q. both_told (s κs a d x p) (s κs a e y q) }

pub records_there : There own.r3_pv.Reads.Post pv_rule × There own.r3_th.Reads.Post Th_rule × There own.r3_ts.Reads.Post Ts_rule
records_there = (there (λ κs a e x p. p), there (λ κs a e x p. p), there (λ κs a e x p. p))

-- ---- calls of a shape of their own

pub cp_w_says : Says 3 own.r3_cp_w.Kinds.ps own.r3_cp_w.Kinds.r own.r3_cp_w.Reads.Post
    (λ κs a x e. Exported (cp_and_w_rule a.0 a.1.0).cp x e.1.1.0.now × Exported (cp_and_w_rule a.0 a.1.0).w e.1.1.1.1.0.now e.1.1.1.0.now)
cp_w_says κs a e x p = p

pub letter_says : Says 1 own.r3_letter.Kinds.ps own.r3_letter.Kinds.r own.r3_letter.Reads.Post
    (λ κs a x e. ExportedLetter (letter_rule a.0 a.1.0) x e.1.1.0.now)
letter_says κs a e x p = p

pub columns_says : Says 5 own.r3_columns.Kinds.ps own.r3_columns.Kinds.r own.r3_columns.Reads.Post
    (λ κs a x e. ExportedColumns (columns_rule a.0.now a.1.0.now (lent a.1.1.0.now a.1.1.1.0.now a.1.1.1.1.0.now)) x e.1.1.0.now e.1.1.1.0.now e.1.1.1.1.0.now)
columns_says κs a e x p = p

pub power_one : OneBehind 1 own.r3_power.Kinds.ps own.r3_power.Kinds.r own.r3_power.Reads.Post Float (λ κs d. d.1.1.0.now)
power_one κs a d e x y p q = both p q

pub property_one : OneBehind 1 own.r3_property.Kinds.ps own.r3_property.Kinds.r own.r3_property.Reads.Post Float (λ κs d. d.1.1.1.0.now)
property_one κs a d e x y p q = both p q

-- both numbers, and w's refusal
pub cp_w_one : (κs : Lfts 3) (a : Dens κs own.r3_cp_w.Kinds.ps) (d e : AtExit (ended_of 3 own.r3_cp_w.Kinds.ps own.r3_cp_w.Kinds.r) κs)
    (x y : (res_t own.r3_cp_w.Kinds.r κs).Denot) → own.r3_cp_w.Reads.Post κs a x d → own.r3_cp_w.Reads.Post κs a y e
    → (x ≡ y) × (d.1.1.0.now ≡ e.1.1.0.now) × (d.1.1.1.0.now ≡ e.1.1.1.0.now) × (d.1.1.1.1.0.now ≡ e.1.1.1.1.0.now)
cp_w_one κs a d e x y p q =
    let cp = both p.0 q.0 in
    let w = both p.1 q.1 in
    (cp.0, cp.1, w.1, w.0)

pub letter_one : OneBehind 1 own.r3_letter.Kinds.ps own.r3_letter.Kinds.r own.r3_letter.Reads.Post ℕ (λ κs d. d.1.1.0.now)
letter_one κs a d e x y p q = both p q

-- every byte of the three columns
pub columns_one : OneBehind 5 own.r3_columns.Kinds.ps own.r3_columns.Kinds.r own.r3_columns.Reads.Post Lent
    (λ κs d. lent d.1.1.0.now d.1.1.1.0.now d.1.1.1.1.0.now)
columns_one κs a d e x y p q = both p q

-- the pair's byte and every field of the record
pub read_one : OneBehind 3 own.r3_read.Kinds.ps own.r3_read.Kinds.r own.r3_read.Reads.Post (ℕ × List Float) (λ κs d. (d.1.0.now, d.1.1.0.now))
read_one κs a d e x y p q =
    let t = rw (one_exchange _ q.answer p.answer q.exchanged p.exchanged) at q.told in
    both_told p.told t

-- every byte of the room
pub write_one : OneBehind 1 own.r3_write.Kinds.ps own.r3_write.Kinds.r own.r3_write.Reads.Post (List ℕ) (λ κs d. d.1.1.1.0.now)
write_one κs a d e x y p q =
    let same = p ∙ sym q in
    (ap (λ (z : ℕ × List ℕ). z.0) same, ap (λ (z : ℕ × List ℕ). z.1) same)

-- ---- the version

abbrev pub OneVersion : Out 0 own.r3_library_version.Kinds.ps own.r3_library_version.Kinds.r → Type 0
OneVersion post =
    (κs : Lfts 0) (a : Dens κs own.r3_library_version.Kinds.ps) (d e : AtExit (ended_of 0 own.r3_library_version.Kinds.ps own.r3_library_version.Kinds.r) κs)
    (x y : (res_t own.r3_library_version.Kinds.r κs).Denot) → post κs a x d → post κs a y e → x ≡ y

pub versions_one : OneVersion own.r3_library_version.Reads.Post × OneVersion own.r3_library_version_0_3_0.Reads.Post
versions_one = (λ κs a d e x y p q. p ∙ sym q, λ κs a d e x y p q. p ∙ sym q)
