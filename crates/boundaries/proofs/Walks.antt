-- The walk over a row, term by term: with the terms that are left the sum comes to the row's. Assumes nothing.
use Prim.Native.Nat.{ℕ, ◌+◌, ◌≤◌, ◌<◌}
use mathlib.Core.Path.{◌≡◌, sym, ap, ◌∙◌, subst}
use mathlib.Core.Bool.{Bool}
use mathlib.Core.List.{List, map, ◌++◌}
use native.Mathlib.Omega.{arith}
use lib.ListN.{length, drop, get_or}
use lib.Ieee.{Float, binary64, add}
use Rattle.std.specs.Prelude.{None, Some}
use Rattle.std.proofs.Common.{add-one, drop-cons}
use Rattle.std.proofs.lemmas.List.{drop_all}
use Rattle.common.specs.Sum.{raw_total}
use Rattle.boundaries.specs.Raw.{term_of, fifth_of, row_of, raw_term, raw_sum}
use Rattle.boundaries.specs.declared.table.Term.{Term}
use Rattle.boundaries.specs.declared.table.Row.{Row}

-- of a row's four terms k are added, and s is their sum
abbrev pub Left : Row → Bool → Float → ℕ → Float → Type 0
Left row bare x k s = raw_total (raw_term bare x) s (map term_of (drop k row.terms) ++ fifth_of row.fifth) ≡ raw_sum bare (row_of row) x

module _ (row : Row) (bare : Bool) (x : Float) (k : ℕ) (s : Float) (four : length row.terms ≡ 4) (e : Left row bare x k s) where
  abbrev with : List Term → Type 0
  with ts = raw_total (raw_term bare x) s (map term_of ts ++ fifth_of row.fifth) ≡ raw_sum bare (row_of row) x

  pub more : (d : Term) → k < 4 → Left row bare x (k + 1) (add binary64 s (raw_term bare x (term_of (get_or row.terms k d))))
  unfolding raw_total
  more d h = simp add-one (subst with (drop-cons row.terms k d (omega arith)) e)

  done : 4 ≤ k → raw_total (raw_term bare x) s (fifth_of row.fifth) ≡ raw_sum bare (row_of row) x
  done h = subst with (drop_all k row.terms (omega arith)) e

  pub no_fifth : row.fifth ≡ None → 4 ≤ k → s ≡ raw_sum bare (row_of row) x
  unfolding raw_total
  no_fifth n h = ap (λ f. raw_total (raw_term bare x) s (fifth_of f)) (sym n) ∙ done h

  pub with_fifth : {t : Term} → row.fifth ≡ Some t → 4 ≤ k → add binary64 s (raw_term bare x (term_of t)) ≡ raw_sum bare (row_of row) x
  unfolding raw_total
  with_fifth n h = ap (λ f. raw_total (raw_term bare x) s (fifth_of f)) (sym n) ∙ done h
