-- A promise on an outcome and one on the number and the values that a caller is told are the same promise, for every answer that is a Result. No refusal has
-- the number 0, so where an answer r is as a rule has it, every answer that is told as the rule is told is as the rule has it (`SamePromise`). Assumes nothing.
use Prim.Native.Nat.{ℕ}
use mathlib.Core.Path.{◌≡◌, sym, ap, ◌∙◌, subst}
use mathlib.Core.List.{List}
use mathlib.Core.Option.{none, some, some-injective, none-ne-some, some-ne-none}
use native.Mathlib.Omega.{arith}
use contract.Lifetimes.{Lfts}
use denote.Triple.Clauses.{AtExit}
use borrow.Fn.Kinds.{ParamKind, ResultKind, Out, Dens, ended_of, res_t}
use Rattle.std.specs.Prelude.{Result, Ok, Err}
use Rattle.common.specs.Outcome.{Outcome, value, refused, number_and_value}
use Rattle.common.specs.Answer.{number_of, paper}
use Rattle.common.specs.declared.Refusal.{Refusal}
use Rattle.common.specs.declared.Refusal.TheVariants.{NotFinite, First, Second, State, Step, Property, Columns, Border, Unfound}
use Rattle.exchange_record.specs.declared.ReadRefusal.{ReadRefusal}
use Rattle.exchange_record.specs.declared.ReadRefusal.TheVariants as read-refusals
use Rattle.exchange_record.specs.declared.NoPair.{NoPair}
use Rattle.exchange_record.specs.declared.Asked.{Asked}
use Rattle.exchange_record.specs.declared.Pair.{Pair}
use Rattle.exchange_record.specs.Reading.{read_number, paper_read, paper_named}
use Rattle.exchange_writer.specs.declared.WriteRefusal.{WriteRefusal}
use Rattle.exchange_writer.specs.declared.WriteRefusal.TheVariants as write-refusals
use Rattle.exchange_writer.specs.Written.{write_number, paper_write}
use Rattle.exchange_entry.specs.declared.ExchangeRefusal.{ExchangeRefusal}
use Rattle.exchange_entry.specs.declared.ExchangeRefusal.TheVariants as exchange-refusals
use Rattle.exchange_entry.specs.Call.{heard}
use Rattle.volume_at.proofs as calls
use Rattle.exchange_record.proofs as reader
use Rattle.points.specs.Told.{
  told_by,
  told_float,
  told_verdict,
  told_kind,
  told_state,
  told_tvd,
  told_two_sums,
  told_four_sums,
  told_proposal,
  told_asked,
  told_exchange,
}

-- ---- one law

-- refused with no 0, or not at all
abbrev Numbered : {A : Type 0} → Outcome A → Type 0
Numbered (value x) = Unit
Numbered (refused k) = k ≡ 0 → ⊥

-- of outcomes that are numbered so, what is told determines the outcome, where f of a value determines the value
outcome_by_told : {A B : Type 0} (f : A → B) → ((x y : A) → f x ≡ f y → x ≡ y) → (absent : B) (x y : Outcome A) → Numbered x → Numbered y →
    told_by f absent x ≡ told_by f absent y → x ≡ y
outcome_by_told f once absent (value x) (value y) h k e = ap value (once x y (ap (λ p. p.1) e))
outcome_by_told f once absent (value x) (refused j) h k e = absurd (k (sym (ap (λ p. p.0) e)))
outcome_by_told f once absent (refused i) (value y) h k e = absurd (h (ap (λ p. p.0) e))
outcome_by_told f once absent (refused i) (refused j) h k e = ap refused (ap (λ p. p.0) e)

-- where an answer r is as the rule has it, `paper r ≡ o`, an answer s is so as soon as it is told as the rule is
abbrev SamePromise : {R O T : Type 0} → (R → O) → (O → T) → Type 0
SamePromise {R} {O} read told = (o : O) (r s : R) → read r ≡ o → told (read s) ≡ told o → read s ≡ o

module _ {R A : Type 0} (read : R → Outcome A) (numbered : (r : R) → Numbered (read r)) where
  by_values : {B : Type 0} (f : A → B) → ((x y : A) → f x ≡ f y → x ≡ y) → (absent : B) → SamePromise read (told_by f absent)
  by_values f once absent o r s e = outcome_by_told f once absent (read s) o (numbered s) (subst Numbered e (numbered r))

  -- of a value that is told as it is, whatever stands for none
  by_value : (absent : A) → SamePromise read (number_and_value absent)
  by_value absent o r s e t = by_values (λ x. x) (λ x y h. h) absent o r s e (as_it_is (read s) o t)
    where
      as_it_is : (x y : Outcome A) → number_and_value absent x ≡ number_and_value absent y → told_by (λ x. x) absent x ≡ told_by (λ x. x) absent y
      as_it_is (value x) (value y) e = e
      as_it_is (value x) (refused k) e = e
      as_it_is (refused k) (value y) e = e
      as_it_is (refused j) (refused k) e = e

  by_kind : SamePromise read told_kind
  by_kind = by_values some some-injective none

-- ---- no refusal has the number 0

not_0 : (k : Refusal) → number_of k ≡ 0 → ⊥
not_0 NotFinite e = omega arith
not_0 First e = omega arith
not_0 Second e = omega arith
not_0 State e = omega arith
not_0 Step e = omega arith
not_0 Property e = omega arith
not_0 Columns e = omega arith
not_0 Border e = omega arith
not_0 Unfound e = omega arith

read_not_0 : (k : ReadRefusal) → read_number k ≡ 0 → ⊥
read_not_0 read-refusals.PastEnd e = omega arith
read_not_0 read-refusals.UnknownTag e = omega arith
read_not_0 read-refusals.WrongLength e = omega arith
read_not_0 read-refusals.OutOfOrder e = omega arith
read_not_0 read-refusals.NotAPair e = omega arith

write_not_0 : (k : WriteRefusal) → write_number k ≡ 0 → ⊥
write_not_0 (write-refusals.Entry k) e = not_0 k e
write_not_0 write-refusals.Room e = omega arith

-- ---- every answer that is a Result

paper_numbered : {A : Type 0} (r : Result A Refusal) → Numbered (paper r)
paper_numbered (Ok x) = tt
paper_numbered (Err k) = not_0 k

pub answer_told : SamePromise paper told_float
answer_told = by_value paper paper_numbered _

pub verdict_told : SamePromise paper told_verdict
verdict_told = by_value paper paper_numbered _

-- a letter, an origin, a side
pub kind_told : {A : Type 0} → SamePromise (paper {A = A}) told_kind
kind_told = by_kind paper paper_numbered

pub state_told : SamePromise paper told_state
state_told =
    by_values paper paper_numbered _
    (λ x y e i. record {
      origin = some-injective x.origin y.origin (ap (λ t. t.0) e) i;
      volume = record { 0 = (e i).1 };
      density = record { 0 = (e i).2 };
    }) _

pub tvd_told : SamePromise paper told_tvd
tvd_told = by_value paper paper_numbered _

pub two_sums_told : SamePromise paper told_two_sums
two_sums_told = by_value paper paper_numbered _

pub four_sums_told : SamePromise paper told_four_sums
four_sums_told = by_value paper paper_numbered _

pub proposal_told : SamePromise paper told_proposal
proposal_told = by_value paper paper_numbered _

read_numbered : (r : Result Asked ReadRefusal) → Numbered (paper_read r)
read_numbered (Ok q) = tt
read_numbered (Err k) = read_not_0 k

pub read_told : SamePromise paper_read told_asked
read_told =
    by_values paper_read read_numbered _
    (λ x y e i. record { pair = some-injective x.pair y.pair (ap (λ t. t.0) e) i; a = (e i).1; b = (e i).2 }) _

write_numbered : (r : Result Unit WriteRefusal) → Numbered (paper_write r)
write_numbered (Ok u) = tt
write_numbered (Err k) = write_not_0 k

pub write_told : SamePromise paper_write told_verdict
write_told = by_value paper_write write_numbered _

pair_numbered : (r : Result Pair NoPair) → Numbered (paper_named r)
pair_numbered (Ok p) = tt
pair_numbered (Err e) = λ e. omega arith

pub pair_told : SamePromise paper_named told_kind
pair_told = by_kind paper_named pair_numbered

-- the answer to an exchange record has two outcomes: the pair that was read, and the entry's
exchange_by_told : (r s : Result Pair ExchangeRefusal) → told_exchange (heard s) ≡ told_exchange (heard r) → heard s ≡ heard r
exchange_by_told (Ok p) (Ok q) e = ap (λ (x : Pair). (value x, value tt)) (some-injective q p (ap (λ t. t.1) e))
exchange_by_told (Ok p) (Err (exchange-refusals.Reader k)) e = absurd (read_not_0 k (ap (λ t. t.0) e))
exchange_by_told (Ok p) (Err (exchange-refusals.Entry q k)) e = absurd (not_0 k (ap (λ t. t.0) e))
exchange_by_told (Err (exchange-refusals.Reader k)) (Ok q) e = absurd (read_not_0 k (sym (ap (λ t. t.0) e)))
exchange_by_told (Err (exchange-refusals.Reader j)) (Err (exchange-refusals.Reader k)) e =
    ap (λ (n : ℕ). (refused n, refused n)) (ap (λ t. t.0) e)
exchange_by_told (Err (exchange-refusals.Reader j)) (Err (exchange-refusals.Entry q k)) e =
    absurd (some-ne-none q (ap (λ t. t.1) e))
exchange_by_told (Err (exchange-refusals.Entry p k)) (Ok q) e = absurd (not_0 k (sym (ap (λ t. t.0) e)))
exchange_by_told (Err (exchange-refusals.Entry p j)) (Err (exchange-refusals.Reader k)) e =
    absurd (none-ne-some p (ap (λ t. t.1) e))
exchange_by_told (Err (exchange-refusals.Entry p j)) (Err (exchange-refusals.Entry q k)) e =
    λ i. (value (some-injective q p (ap (λ t. t.1) e) i), refused (e i).0)

pub exchange_told : SamePromise heard told_exchange
exchange_told o r s e t = exchange_by_told r s (t ∙ ap told_exchange (sym e)) ∙ e

-- ---- on the contracts as they are generated: an answer that is told as one that meets the contract meets it too. Three calls, one for each shape of value;
-- every other contract on an answer goes by the same line

abbrev ByTold : (ps : List (ParamKind 0)) (r : ResultKind 0) → Out 0 ps r → {T : Type 0} → ((κs : Lfts 0) → (res_t r κs).Denot → T) → Type 0
ByTold ps r post told =
    (κs : Lfts 0) (a : Dens κs ps) (e : AtExit (ended_of 0 ps r) κs) (x y : (res_t r κs).Denot) → post κs a x e → told κs y ≡ told κs x → post κs a y e

pub pT2v_reg3_by_told : ByTold calls.pT2v_reg3.Kinds.ps calls.pT2v_reg3.Kinds.r calls.pT2v_reg3.Reads.Post (λ κs x. told_float (paper x))
pT2v_reg3_by_told κs a e x y p t = answer_told _ x y p (t ∙ ap told_float p)

pub found_pT_by_told : ByTold calls.found_pT.Kinds.ps calls.found_pT.Kinds.r calls.found_pT.Reads.Post (λ κs x. told_state (paper x))
found_pT_by_told κs a e x y p t = state_told _ x y p (t ∙ ap told_state p)

pub pair_by_by_told :
    ByTold reader.PairTryFromU8.try_from.Kinds.ps reader.PairTryFromU8.try_from.Kinds.r reader.PairTryFromU8.try_from.Reads.Post
    (λ κs x. told_kind (paper_named x))
pair_by_by_told κs a e x y p t = pair_told _ x y p (t ∙ ap told_kind p)
