-- The theorems on the contracts themselves: what `T_atRegionBoundary` answers reaches the exact temperature, and under the premises of
-- demand 3 the one result that `sub_region3_pT` may give is the exact letter. Assumes nothing.
use mathlib.Core.Path.{◌≡◌, sym, ap, ◌∙◌, subst}
use lib.Dec.{T}
use lib.Ieee.{binary64, fits, le}
use contract.Lifetimes.{Lfts}
use denote.Triple.Clauses.{AtExit}
use borrow.Fn.Kinds.{Dens, ended_of, res_t}
use Rattle.std.specs.Prelude.{Result, Ok, Err}
use Rattle.common.specs.Outcome.{value}
use Rattle.common.specs.Answer.{paper}
use Rattle.common.specs.declared.Refusal.{Refusal}
use Rattle.common.proofs.Calls.{no_value}
use Rattle.common.specs.Decimal.{whole}
use Rattle.common.specs.Constant.{p_range_from}
use Rattle.rounding.specs.Fraction.{scaled_by}
use Rattle.boundaries.specs.Boundary.{boundary_rule}
use Rattle.boundaries.specs.declared.Boundary.{Boundary}
use Rattle.boundaries.proofs.T_atRegionBoundary.Kinds as line-kinds
use Rattle.boundaries.proofs.T_atRegionBoundary.Reads as line
use Rattle.boundary.proofs.sub_region3_pT.Kinds as choice-kinds
use Rattle.boundary.proofs.sub_region3_pT.Reads as choice
use Rattle.distance.specs.Exact.{Polynomial}
use Rattle.distance.specs.Distance.{kind, top, Reaches}
use Rattle.distance.specs.Letter.{exact_letter, Inside, Clear}
use Rattle.distance.proofs.Distances.{boundary_distance}
use Rattle.distance.proofs.Letters.{exact_letter_lem}

pub line_reaches : (κs : Lfts 0) (a : Dens κs line-kinds.ps) (e : AtExit (ended_of 0 line-kinds.ps line-kinds.r) κs)
    (r : (res_t line-kinds.r κs).Denot) → line.Post κs a r e
    → (b : Polynomial) → a.1.0 ≡ kind b → T (fits binary64 a.0.0) → T (le p_range_from a.0.0) → T (le a.0.0 (whole (top b)))
    → Reaches b (scaled_by 48 a.0.0) (paper r)
line_reaches κs a e r post b k held from to =
    subst (Reaches b (scaled_by 48 a.0.0)) (sym (post ∙ ap (λ (x : Boundary). boundary_rule x a.0.0) k)) (boundary_distance b a.0.0 held from to)

pub taken : {A : Type 0} (r : Result A Refusal) (x : A) → paper r ≡ value x → r ≡ Ok x
taken (Ok y) x e = cc
taken (Err k) x e = absurd (no_value e)

pub sub_region_exact : (κs : Lfts 0) (a : Dens κs choice-kinds.ps) (e : AtExit (ended_of 0 choice-kinds.ps choice-kinds.r) κs)
    (r : (res_t choice-kinds.r κs).Denot) → choice.Post κs a r e
    → Inside a.0.0 a.1.0.0 → Clear (scaled_by 48 a.0.0) (scaled_by 43 a.1.0.0)
    → r ≡ Ok (exact_letter (scaled_by 48 a.0.0) (scaled_by 43 a.1.0.0))
sub_region_exact κs a e r post i k = taken r (exact_letter (scaled_by 48 a.0.0) (scaled_by 43 a.1.0.0)) (post ∙ exact_letter_lem a.0.0 a.1.0.0 i k)
