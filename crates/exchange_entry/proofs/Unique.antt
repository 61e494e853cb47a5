-- Each contract admits one answer and one content of the lent bytes. The theorems are about the contracts' own readings, `Reads.Post`. Assumes nothing.
use mathlib.Core.Path.{◌≡◌, refl, sym, ap, ◌∙◌}
use mathlib.Core.List.{List}
use Prim.Native.Nat.{ℕ}
use Rattle.std.specs.Prelude.{Result, Ok, Err}
use contract.Lifetimes.{Lfts}
use denote.Triple.Clauses.{AtExit}
use borrow.Fn.Kinds.{Dens, ended_of, res_t}
use Rattle.common.specs.Outcome.{Outcome, value, refused}
use Rattle.common.proofs.Same.{One, same, kind_of, kind_number}
use Rattle.record.specs.declared.Record.{Record}
use Rattle.record.proofs.Unique.{same_record}
use Rattle.exchange_record.specs.declared.Pair.{Pair}
use Rattle.exchange_record.proofs.Exchange.{one_outcome}
use Rattle.exchange_record.proofs.Unique.{read_kind, read_kind_lem}
use Rattle.exchange_writer.proofs.Unique.{same_written}
use Rattle.exchange_entry.specs.Call.{exchange_of, heard, paper_exchange, Exchanged}
use Rattle.exchange_entry.specs.declared.ExchangeRefusal.{ExchangeRefusal}
use Rattle.exchange_entry.specs.declared.ExchangeRefusal.TheVariants.{Reader, Entry}
use Rattle.exchange_entry.specs.declared.ExchangeAnswer.{ExchangeAnswer}
use Rattle.exchange_entry.proofs as own

verdict_of : Outcome Pair × Outcome Unit → Result Pair ExchangeRefusal
verdict_of (value p, value u) = Ok p
verdict_of (value p, refused k) = Err (Entry p (kind_of k))
verdict_of (refused n, o) = Err (Reader (read_kind n))

verdict_back : (v : Result Pair ExchangeRefusal) → verdict_of (heard v) ≡ v
unfolding verdict_of
verdict_back (Ok p) = refl
verdict_back (Err (Reader k)) = ap (λ x. Err (Reader x)) (read_kind_lem k)
verdict_back (Err (Entry p k)) = ap (λ x. Err (Entry p x)) (kind_number k)

answer_of : Outcome Pair × (Outcome Unit × Record) → ExchangeAnswer
answer_of a = record { verdict = verdict_of (a.0, a.1.0); «record» = a.1.1 }

answer_back : (a : ExchangeAnswer) → answer_of (paper_exchange a) ≡ a
unfolding answer_of
answer_back a = ap (λ (v : Result Pair ExchangeRefusal). record { verdict = v; «record» = a.«record» }) (verdict_back a.verdict)

pub same_exchange : (o : Outcome Pair × (Outcome Unit × Record)) (r s : ExchangeAnswer) → paper_exchange r ≡ o → paper_exchange s ≡ o → r ≡ s
same_exchange = same paper_exchange answer_of answer_back

pub ask_one : One 0 own.call.ask.Kinds.ps own.call.ask.Kinds.r own.call.ask.Reads.Post
ask_one κs a e x y p q = same_record _ x y p q

pub from_reader_one : One 0 own.ExchangeRefusalFromReadRefusal.from.Kinds.ps own.ExchangeRefusalFromReadRefusal.from.Kinds.r
    own.ExchangeRefusalFromReadRefusal.from.Reads.Post
from_reader_one κs a e x y p q = p ∙ sym q

pub refusal_number_one : One 0 own.U8FromExchangeRefusal.from.Kinds.ps own.U8FromExchangeRefusal.from.Kinds.r own.U8FromExchangeRefusal.from.Reads.Post
refusal_number_one κs a e x y p q = p ∙ sym q

pub verdict_number_one : One 0 own.call.verdict_number.Kinds.ps own.call.verdict_number.Kinds.r own.call.verdict_number.Reads.Post
verdict_number_one κs a e x y p q = p ∙ sym q

pub verdict_pair_one : One 0 own.call.verdict_pair.Kinds.ps own.call.verdict_pair.Kinds.r own.call.verdict_pair.Reads.Post
verdict_pair_one κs a e x y p q = p ∙ sym q

-- some bytes have one answer
pub one_exchange : (s : List ℕ) (a b : Outcome Pair × (Outcome Unit × Record)) → Exchanged s a → Exchanged s b → a ≡ b
one_exchange s a b p q = p.answer ∙ ap exchange_of (one_outcome s p.read q.read p.means q.means) ∙ sym q.answer

pub answer_one : One 1 own.call.answer.Kinds.ps own.call.answer.Kinds.r own.call.answer.Reads.Post
answer_one κs a e x y p q = same_exchange (paper_exchange x) x y refl (one_exchange _ (paper_exchange y) (paper_exchange x) q p)

pub write_one : (κs : Lfts 1) (a : Dens κs own.writing.write.Kinds.ps) (d e : AtExit (ended_of 1 own.writing.write.Kinds.ps own.writing.write.Kinds.r) κs)
    (x y : (res_t own.writing.write.Kinds.r κs).Denot) →
    own.writing.write.Reads.Post κs a x d → own.writing.write.Reads.Post κs a y e → (x ≡ y) × (d.1.0.now ≡ e.1.0.now)
write_one κs a d e x y p q = same_written _ x y _ _ p q

pub write_by_one : (κs : Lfts 1) (a : Dens κs own.writing.write_by.Kinds.ps)
    (d e : AtExit (ended_of 1 own.writing.write_by.Kinds.ps own.writing.write_by.Kinds.r) κs) (x y : (res_t own.writing.write_by.Kinds.r κs).Denot) →
    own.writing.write_by.Reads.Post κs a x d → own.writing.write_by.Reads.Post κs a y e → (x ≡ y) × (d.1.1.1.0.now ≡ e.1.1.1.0.now)
write_by_one κs a d e x y p q =
    let both = p ∙ sym q in
    (ap (λ (z : ℕ × List ℕ). z.0) both, ap (λ (z : ℕ × List ℕ). z.1) both)
