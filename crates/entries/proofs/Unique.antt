-- Each contract admits one answer and one content of the lent page. The theorems are about the contracts' own readings, `Reads.Post`.
-- Assumes nothing.
use mathlib.Core.Path.{◌≡◌, sym, ap, ◌∙◌}
use Prim.Native.Nat.{ℕ}
use lib.Seq.{sets}
use contract.Lifetimes.{Lfts}
use denote.Triple.Clauses.{AtExit}
use borrow.Fn.Kinds.{Dens, ended_of, res_t}
use Rattle.common.proofs.Same.{One}
use Rattle.entries.specs.Rows.{replies_to}
use Rattle.entries.proofs as own

pub answer_one : One 0 own.call.answer.Kinds.ps own.call.answer.Kinds.r own.call.answer.Reads.Post
answer_one κs a e x y p q = p ∙ sym q

pub answer_rows_one : (κs : Lfts 2) (a : Dens κs own.page.answer_rows.Kinds.ps) (d e : AtExit (ended_of 2 own.page.answer_rows.Kinds.ps own.page.answer_rows.Kinds.r) κs) (x y : (res_t own.page.answer_rows.Kinds.r κs).Denot) →
    own.page.answer_rows.Reads.Post κs a x d → own.page.answer_rows.Reads.Post κs a y e → (x ≡ y) × (d.1.0.now ≡ e.1.0.now)
answer_rows_one κs a d e x y p q =
    let n : x ≡ y = p.0 ∙ sym q.0 in
    (n, p.1 ∙ ap (λ (k : ℕ). sets a.1.0.now 0 (replies_to a.0.now k)) n ∙ sym q.1)
