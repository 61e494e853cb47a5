-- Each contract admits one answer and one content of the lent bytes. The theorems are about the contracts' own readings, `Reads.Post`. Assumes nothing.
use mathlib.Core.Path.{◌≡◌, refl, sym, ap, ◌∙◌}
use mathlib.Core.Bool.{false, cond}
use mathlib.Core.List.{List}
use Prim.Native.Nat.{ℕ}
use Rattle.std.specs.Prelude.{Result, Ok, Err}
use lib.Dec.{eqb}
use contract.Lifetimes.{Lfts}
use denote.Triple.Clauses.{AtExit}
use borrow.Fn.Kinds.{Dens, ended_of, res_t}
use Rattle.common.specs.Outcome.{Outcome, value, refused}
use Rattle.common.specs.Answer.{number_of}
use Rattle.common.proofs.Same.{One, same, kind_of, kind_number}
use Rattle.common.specs.declared.Refusal.{Refusal}
use Rattle.common.specs.declared.Refusal.TheVariants.{NotFinite, First, Second, State, Step, Property, Columns, Border, Unfound}
use Rattle.exchange_writer.specs.Written.{paper_write, write_number}
use Rattle.exchange_writer.specs.declared.WriteRefusal.{WriteRefusal}
use Rattle.exchange_writer.specs.declared.WriteRefusal.TheVariants.{Entry, Room}
use Rattle.exchange_writer.proofs as own

refusal_of : ℕ → WriteRefusal
refusal_of n = cond (eqb n 16) Room (Entry (kind_of n))

-- no entry refuses with 16
not_room : (k : Refusal) → eqb (number_of k) 16 ≡ false
not_room NotFinite = refl
not_room First = refl
not_room Second = refl
not_room State = refl
not_room Step = refl
not_room Property = refl
not_room Columns = refl
not_room Border = refl
not_room Unfound = refl

refusal_back : (k : WriteRefusal) → refusal_of (write_number k) ≡ k
unfolding refusal_of
refusal_back Room = refl
refusal_back (Entry k) = rw (not_room k) (ap Entry (kind_number k))

result_of : Outcome Unit → Result Unit WriteRefusal
result_of (value u) = Ok u
result_of (refused k) = Err (refusal_of k)

result_back : (r : Result Unit WriteRefusal) → result_of (paper_write r) ≡ r
unfolding result_of
result_back (Ok u) = refl
result_back (Err k) = ap Err (refusal_back k)

pub same_written : (z : Outcome Unit × List ℕ) (r s : Result Unit WriteRefusal) (l m : List ℕ) → (paper_write r, l) ≡ z → (paper_write s, m) ≡ z
    → (r ≡ s) × (l ≡ m)
same_written z r s l m p q =
    let first : Outcome Unit × List ℕ → Outcome Unit = λ x. x.0 in
    (same paper_write result_of result_back z.0 r s (ap first p) (ap first q), ap (λ (x : Outcome Unit × List ℕ). x.1) (p ∙ sym q))

pub write_if_one : (κs : Lfts 1) (a : Dens κs own.write_if.Kinds.ps) (d e : AtExit (ended_of 1 own.write_if.Kinds.ps own.write_if.Kinds.r) κs)
    (x y : (res_t own.write_if.Kinds.r κs).Denot) → own.write_if.Reads.Post κs a x d → own.write_if.Reads.Post κs a y e
    → (x ≡ y) × (d.1.1.0.now ≡ e.1.1.0.now)
write_if_one κs a d e x y p q = same_written _ x y _ _ p q

pub from_refusal_one : One 0 own.WriteRefusalFromRefusal.from.Kinds.ps own.WriteRefusalFromRefusal.from.Kinds.r own.WriteRefusalFromRefusal.from.Reads.Post
from_refusal_one κs a e x y p q = p ∙ sym q

pub refusal_number_one : One 0 own.U8FromWriteRefusal.from.Kinds.ps own.U8FromWriteRefusal.from.Kinds.r own.U8FromWriteRefusal.from.Reads.Post
refusal_number_one κs a e x y p q = p ∙ sym q

pub write_number_one : One 0 own.write_number.Kinds.ps own.write_number.Kinds.r own.write_number.Reads.Post
write_number_one κs a e x y p q = p ∙ sym q

pub point_at_one : One 0 own.points.point_at.Kinds.ps own.points.point_at.Kinds.r own.points.point_at.Reads.Post
point_at_one κs a e x y p q = p ∙ sym q

pub point_of_one : One 0 own.points.PointFromAsked.from.Kinds.ps own.points.PointFromAsked.from.Kinds.r own.points.PointFromAsked.from.Reads.Post
point_of_one κs a e x y p q = p ∙ sym q
