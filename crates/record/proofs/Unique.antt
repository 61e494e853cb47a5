-- Each contract admits one answer. Assumes nothing.
use mathlib.Core.Path.{◌≡◌, refl, sym, ap, ◌∙◌}
use Rattle.common.specs.Outcome.{Outcome}
use Rattle.std.specs.Prelude.{Result}
use Rattle.common.specs.declared.Refusal.{Refusal}
use Rattle.common.proofs.Same.{One, same_result}
use Rattle.record.specs.declared.Record.{Record}
use Rattle.record.specs.declared.RecordAnswer.{RecordAnswer}
use contract.Lifetimes.{Lfts}
use denote.Triple.Clauses.{AtExit}
use borrow.Fn.Kinds.{Dens, ended_of}
use lib.Ieee.{of_bits}
use Rattle.std.proofs.Common.{rules}
use Rattle.record.specs.Record.{paper_record, zero_record}
use Rattle.record.proofs as its

-- an answer is determined by its verdict's number and its record
pub same_record : (o : Outcome Unit × Record) (x y : RecordAnswer) → paper_record x ≡ o → paper_record y ≡ o → x ≡ y
same_record o x y p q =
    let e : paper_record x ≡ paper_record y = p ∙ sym q in
    let v = same_result _ x.verdict y.verdict (ap (λ (a : Outcome Unit × Record). a.0) e) refl in
    ap (λ (v : Result Unit Refusal). record { verdict = v; «record» = x.«record» }) v
    ∙ ap (λ (a : Outcome Unit × Record). record { verdict = y.verdict; «record» = a.1 }) e

pub refuse_one : One 0 its.records.refuse.Kinds.ps its.records.refuse.Kinds.r its.records.refuse.Reads.Post
refuse_one κs a e x y p q = same_record _ x y p q

-- the record with +0.0 in every field
pub default_zero : (κs : Lfts 0) (a : Dens κs its.RecordDefault.default.Kinds.ps) (e : AtExit (ended_of 0 its.RecordDefault.default.Kinds.ps its.RecordDefault.default.Kinds.r) κs) (r : Record) → its.RecordDefault.default.Reads.Post κs a r e → r ≡ zero_record
unfolding of_bits
default_zero κs a e r p = search rules

pub default_one : One 0 its.RecordDefault.default.Kinds.ps its.RecordDefault.default.Kinds.r its.RecordDefault.default.Reads.Post
default_one κs a e x y p q = default_zero κs a e x p ∙ sym (default_zero κs a e y q)

pub fields_one : One 0 its.records.ArrayF6410FromRecord.from.Kinds.ps its.records.ArrayF6410FromRecord.from.Kinds.r its.records.ArrayF6410FromRecord.from.Reads.Post
fields_one κs a e x y p q = p ∙ sym q

pub origin_byte_one : One 0 its.records.U8FromOrigin.from.Kinds.ps its.records.U8FromOrigin.from.Kinds.r its.records.U8FromOrigin.from.Reads.Post
origin_byte_one κs a e x y p q = p ∙ sym q

pub settle_p_one : One 0 its.state.settle_p.Kinds.ps its.state.settle_p.Kinds.r its.state.settle_p.Reads.Post
settle_p_one κs a e x y p q = same_result _ x y p q

pub settle_t_one : One 0 its.state.settle_t.Kinds.ps its.state.settle_t.Kinds.r its.state.settle_t.Reads.Post
settle_t_one κs a e x y p q = same_result _ x y p q

pub density_one : One 0 its.state.density.Kinds.ps its.state.density.Kinds.r its.state.density.Reads.Post
density_one κs a e x y p q = same_result _ x y p q

pub settle_v_one : One 0 its.state.settle_v.Kinds.ps its.state.settle_v.Kinds.r its.state.settle_v.Reads.Post
settle_v_one κs a e x y p q = same_result _ x y p q
