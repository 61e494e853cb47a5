-- Each contract admits one answer and one content of the lent bytes. The theorems are about the contracts' own readings, `Reads.Post`. Assumes nothing.
use mathlib.Core.Path.{◌≡◌, sym, ◌∙◌}
use mathlib.Core.List.{List}
use Prim.Native.Nat.{ℕ}
use contract.Lifetimes.{Lfts}
use denote.Triple.Clauses.{AtExit}
use borrow.Fn.Kinds.{Dens, ended_of, res_t}
use Rattle.text.specs.Text.{Wrote}
use Rattle.text.proofs as own

pub wrote_one : {l xs m k : List ℕ} {at r q : ℕ} → Wrote l at xs m r → Wrote l at xs k q → (r ≡ q) × (m ≡ k)
wrote_one a b = (a.ends ∙ sym b.ends, a.holds ∙ sym b.holds)

pub put_one : (κs : Lfts 3) (a : Dens κs own.Writer.put.Kinds.ps) (d e : AtExit (ended_of 3 own.Writer.put.Kinds.ps own.Writer.put.Kinds.r) κs) (x y : (res_t own.Writer.put.Kinds.r κs).Denot) →
    own.Writer.put.Reads.Post κs a x d → own.Writer.put.Reads.Post κs a y e → (d.0.now.at ≡ e.0.now.at) × (d.0.now.out.now ≡ e.0.now.out.now)
put_one κs a d e x y p q = wrote_one p.0 q.0

pub put_decimal_one : (κs : Lfts 2) (a : Dens κs own.Writer.put_decimal.Kinds.ps) (d e : AtExit (ended_of 2 own.Writer.put_decimal.Kinds.ps own.Writer.put_decimal.Kinds.r) κs) (x y : (res_t own.Writer.put_decimal.Kinds.r κs).Denot) →
    own.Writer.put_decimal.Reads.Post κs a x d → own.Writer.put_decimal.Reads.Post κs a y e → (d.0.now.at ≡ e.0.now.at) × (d.0.now.out.now ≡ e.0.now.out.now)
put_decimal_one κs a d e x y p q = wrote_one p.0 q.0
