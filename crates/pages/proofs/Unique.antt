-- The contract of `go_on` admits one answer. The theorem is about the contract's own reading, `Reads.Post`. Assumes nothing.
use mathlib.Core.Path.{◌≡◌, sym, ◌∙◌}
use contract.Lifetimes.{Lfts}
use denote.Triple.Clauses.{AtExit}
use borrow.Fn.Kinds.{Dens, ended_of, res_t}
use Rattle.pages.proofs as own

pub go_on_one : (κs : Lfts 1) (a : Dens κs own.go_on.Kinds.ps) (e : AtExit (ended_of 1 own.go_on.Kinds.ps own.go_on.Kinds.r) κs) (x y : (res_t own.go_on.Kinds.r κs).Denot) →
    own.go_on.Reads.Post κs a x e → own.go_on.Reads.Post κs a y e → x ≡ y
go_on_one κs a e x y p q = p ∙ sym q
