-- Each contract admits one answer. Of the reader that rests on the rule: some bytes come to one outcome. The theorems are about the contracts' own readings,
-- `Reads.Post`. Assumes nothing.
use mathlib.Core.Path.{◌≡◌, refl, sym, ap, ◌∙◌}
use mathlib.Core.Bool.{cond}
use Prim.Native.Nat.{ℕ}
use Rattle.std.specs.Prelude.{Result, Ok, Err}
use lib.Dec.{eqb}
use Rattle.common.proofs.Same.{One, same}
use Rattle.common.specs.Outcome.{Outcome, value, refused}
use Rattle.exchange_record.specs.declared.Asked.{Asked}
use Rattle.exchange_record.specs.declared.ReadRefusal.{ReadRefusal}
use Rattle.exchange_record.specs.declared.ReadRefusal.TheVariants.{PastEnd, UnknownTag, WrongLength, OutOfOrder, NotAPair}
use Rattle.exchange_record.specs.declared.Pair.{Pair}
use Rattle.exchange_record.specs.declared.NoPair.{NoPair}
use Rattle.exchange_record.specs.Reading.{read_number, paper_read, paper_named}
use Rattle.exchange_record.proofs.Exchange.{one_outcome}
use Rattle.exchange_record.proofs as own

pub read_kind : ℕ → ReadRefusal
read_kind n = cond (eqb n 10) PastEnd (cond (eqb n 11) UnknownTag (cond (eqb n 12) WrongLength (cond (eqb n 13) OutOfOrder NotAPair)))

pub read_kind_lem : (k : ReadRefusal) → read_kind (read_number k) ≡ k
unfolding read_kind
read_kind_lem PastEnd = refl
read_kind_lem UnknownTag = refl
read_kind_lem WrongLength = refl
read_kind_lem OutOfOrder = refl
read_kind_lem NotAPair = refl

read_of : Outcome Asked → Result Asked ReadRefusal
read_of (value q) = Ok q
read_of (refused n) = Err (read_kind n)

read_back : (r : Result Asked ReadRefusal) → read_of (paper_read r) ≡ r
unfolding read_of
read_back (Ok q) = refl
read_back (Err k) = ap Err (read_kind_lem k)

pub same_read : (o : Outcome Asked) (r s : Result Asked ReadRefusal) → paper_read r ≡ o → paper_read s ≡ o → r ≡ s
same_read = same paper_read read_of read_back

named_of : Outcome Pair → Result Pair NoPair
named_of (value p) = Ok p
named_of (refused n) = Err (record {})

named_back : (r : Result Pair NoPair) → named_of (paper_named r) ≡ r
unfolding named_of
named_back (Ok p) = refl
named_back (Err e) = refl

pub read_number_one : One 0 own.U8FromReadRefusal.from.Kinds.ps own.U8FromReadRefusal.from.Kinds.r own.U8FromReadRefusal.from.Reads.Post
read_number_one κs a e x y p q = p ∙ sym q

pub pair_byte_one : One 0 own.U8FromPair.from.Kinds.ps own.U8FromPair.from.Kinds.r own.U8FromPair.from.Reads.Post
pair_byte_one κs a e x y p q = p ∙ sym q

pub pair_by_one : One 0 own.PairTryFromU8.try_from.Kinds.ps own.PairTryFromU8.try_from.Kinds.r own.PairTryFromU8.try_from.Reads.Post
pair_by_one κs a e x y p q = same paper_named named_of named_back _ x y p q

pub read_one : One 1 own.reader.read.Kinds.ps own.reader.read.Kinds.r own.reader.read.Reads.Post
read_one κs a e x y p q = same_read (paper_read x) x y refl (sym (one_outcome _ (paper_read x) (paper_read y) p q))
