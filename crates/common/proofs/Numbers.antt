-- The raw form of a rule gives its number or a NaN: what is tested once at its end is a Number, and so is the number of an outcome that is settled.
use mathlib.Core.Path.{◌≡◌, refl, sym, ap, ◌∙◌}
use lib.Ieee.{Float, nan, inf, fin}
use Rattle.common.specs.Outcome.{Outcome, check, or_nan}
use Rattle.common.specs.Formula.{Raw}
use Rattle.common.specs.Number.{Number}

-- the check of its own number: a finite number, or refusal 5
abbrev pub Settled : Outcome Float → Type 0
Settled o = check (or_nan o) ≡ o

pub check_settled : (x : Float) → Settled (check x)
check_settled nan = refl
check_settled (inf s) = refl
check_settled (fin s m e) = refl

module _ {o : Outcome Float} where
  pub tested : {x r : Float} → Raw o x → r ≡ or_nan (check x) → Number o r
  tested {x} p e = record {
    is = e ∙ ap or_nan (sym p.is);
    raw = record { is = p.is ∙ sym (check_settled x) ∙ ap check (sym e) };
  }

  pub settled_number : {s : Outcome Float} {r : Float} → Settled s → r ≡ or_nan s → Raw o r → Number o r
  settled_number h e p = record { is = e ∙ ap or_nan (sym h) ∙ ap (λ (x : Float). or_nan (check x)) (sym e) ∙ ap or_nan (sym p.is); raw = p }

  -- one r
  pub one_number : {r s : Float} → Number o r → Number o s → r ≡ s
  one_number p q = p.is ∙ sym q.is
