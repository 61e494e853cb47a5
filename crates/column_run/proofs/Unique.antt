-- Each contract admits one answer, and one content of each byte of the three columns. The theorems are about the contracts' own
-- readings, `Reads.Post`.
use mathlib.Core.Path.{◌≡◌, refl, sym, ap, ◌∙◌}
use seplogic.Ra.Ura.{Ura}
use base.Logic.{SProp, ent, id⊢}
use prog.Memory.{Memory}
use prog.Routine.{Routine}
use types.Logic.{Logic}
use contract.Monad.{Fun, fact}
use denote.Triple.Entry.{Args}
use contract.Lifetimes.{Lfts}
use denote.Triple.Clauses.{AtExit}
use borrow.Fn.Kinds.{Dens, ended_of, res_t}
use Rattle.common.specs.Outcome.{Outcome}
use Rattle.std.specs.Prelude.{Result}
use Rattle.common.specs.Answer.{paper}
use Rattle.common.specs.declared.Refusal.{Refusal}
use Rattle.common.proofs.Same.{same_result}
use Rattle.column_run.specs.Columns.{Lent, lent, columns_rule}
use Rattle.column_run.proofs as own
use Rattle.column_run.specs.contracts.units.columns_of as columns_of

-- the answer, the letters, the densities and the refusals
same_run : (o : Outcome Unit × Lent) (x y : Result Unit Refusal) (l m : Lent) → (paper x, l) ≡ o → (paper y, m) ≡ o
    → (x ≡ y) × (l.letters ≡ m.letters) × (l.densities ≡ m.densities) × (l.refusals ≡ m.refusals)
same_run o x y l m p q =
    let h = p ∙ sym q in (
      same_result _ x y (ap (λ (o : Outcome Unit × Lent). o.0) h) refl,
      ap (λ (o : Outcome Unit × Lent). o.1.letters) h,
      ap (λ (o : Outcome Unit × Lent). o.1.densities) h,
      ap (λ (o : Outcome Unit × Lent). o.1.refusals) h,
    )

pub columns_one : (κs : Lfts 5) (a : Dens κs own.run.columns.Kinds.ps) (d e : AtExit (ended_of 5 own.run.columns.Kinds.ps own.run.columns.Kinds.r) κs)
    (x y : (res_t own.run.columns.Kinds.r κs).Denot)
    → own.run.columns.Reads.Post κs a x d → own.run.columns.Reads.Post κs a y e
    → (x ≡ y) × (d.1.1.0.now ≡ e.1.1.0.now) × (d.1.1.1.0.now ≡ e.1.1.1.0.now) × (d.1.1.1.1.0.now ≡ e.1.1.1.1.0.now)
columns_one κs a d e x y p q = same_run _ x y _ _ p q

-- what the `ensures` clause of `columns_of` says is read off the clause itself
module _ (κs : Lfts 5) (a : Args columns_of.signature κs) where
  abbrev pub Says : Result Unit Refusal → AtExit columns_of.ended κs → Type 0
  Says x d =
      (paper x, lent d.1.1.0.now d.1.1.1.0.now d.1.1.1.1.0.now)
      ≡ columns_rule a.0.0.now a.1.0.0.now (lent a.1.1.0.now a.1.1.1.0.now a.1.1.1.1.0.now)

  pub columns_of_says : {M : Type 1} {𝓤 : Ura M} (𝓛 : Logic 𝓤) (mem : Memory → SProp 𝓤) (run : Routine → Fun 𝓤)
      (x : Result Unit Refusal) (d : AtExit columns_of.ended κs)
      → ent 𝓤 ((columns_of.clauses 𝓛 mem run κs a).ensures tt x d) (fact 𝓤 (Says x d))
  columns_of_says {𝓤 = 𝓤} 𝓛 mem run x d = id⊢ 𝓤 _

  pub columns_of_one : (d e : AtExit columns_of.ended κs) (x y : Result Unit Refusal) → Says x d → Says y e
      → (x ≡ y) × (d.1.1.0.now ≡ e.1.1.0.now) × (d.1.1.1.0.now ≡ e.1.1.1.0.now) × (d.1.1.1.1.0.now ≡ e.1.1.1.1.0.now)
  columns_of_one d e x y p q = same_run _ x y _ _ p q
