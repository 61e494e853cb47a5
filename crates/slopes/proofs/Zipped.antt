-- A loop over the three columns of a table, side by side, works the rows one by one. Assumes nothing.
use mathlib.Core.Path.{◌≡◌, refl, sym, ap, ◌∙◌}
use mathlib.Core.List.{List, [], ◌∷◌, ◌++◌}
use Prim.Native.Nat.{◌+◌, ◌<◌}
use native.Mathlib.Omega.{arith}
use lib.IntN.{ℤ}
use lib.ListN.{length, get_or, drop}
use lib.Ieee.{Float, binary64, add}
use denote.Ref.{Bor}
use Rattle.std.specs.List.{zip}
use Rattle.std.specs.Iterator.Adapters.{zip_first, zip_second}
use Rattle.std.specs.Slice.Iter.{iter_rest}
use Rattle.std.specs.declared.iter.Zip.{Zip}
use Rattle.std.proofs.Common.{Iter}
use Rattle.std.proofs.iter.Yields.{fronts}
use Rattle.std.proofs.lemmas.Iterator.{YieldsList, YieldsList-from_slice, YieldsList-from_zip, zips}
use Rattle.std.proofs.lemmas.List.{at_drop_more, at_drop_all, length_push}
use Rattle.common.specs.Outcome.{zero_f}
use Rattle.common.specs.Sum.{raw_total}
use Rattle.algo.specs.Table.{Row, row, rows_of}

-- what a turn of the loop is lent, and its numbers
abbrev pub Lent : Type 0
Lent = (Bor ℤ × Bor ℤ) × Bor Float

abbrev pub Entry : Type 0
Entry = (ℤ × ℤ) × Float

abbrev pub entry : Lent → Entry
entry x = ((x.0.0.now, x.0.1.now), x.1.now)

-- the columns side by side
abbrev pub beside : List ℤ → List ℤ → List Float → List Entry
beside is js ns = zip (zip is js) ns

abbrev pub Columns : Type 0
Columns = Zip (Zip (Iter ℤ) (Iter ℤ)) (Iter Float)

abbrev pub Inner : Type 0
Inner = Zip (Iter ℤ) (Iter ℤ)

-- the equations are what `iter`, the two `zip` and the `for` say of their iterators
pub yields_rows : (is js : List ℤ) (ns : List Float) {first : Iter ℤ} {inner : Inner} {both s : Columns}
    → iter_rest first ≡ is → zip_first inner ≡ first → iter_rest (zip_second inner) ≡ js → zip_first both ≡ inner → iter_rest (zip_second both) ≡ ns → s ≡ both
    → YieldsList (zips (zips fronts fronts) fronts) entry s (beside is js ns)
yields_rows is js ns p q r t u e =
    let is_inner = ap (λ (z : Columns). zip_first z) e ∙ t in
    YieldsList-from_zip
    (YieldsList-from_zip
    (YieldsList-from_slice is (ap (λ (z : Inner). iter_rest (zip_first z)) is_inner ∙ ap iter_rest q ∙ p))
    (YieldsList-from_slice js (ap (λ (z : Inner). iter_rest (zip_second z)) is_inner ∙ r)))
    (YieldsList-from_slice ns (ap (λ (z : Columns). iter_rest (zip_second z)) e ∙ u))

module _ (u : Row → Float) where
  abbrev of : Entry → Float
  of p = u (row p.0.0 p.0.1 p.1)

  by_rows : (s : Float) (is js : List ℤ) (ns : List Float) → raw_total u s (rows_of is js ns) ≡ raw_total of s (beside is js ns)
  unfolding raw_total rows_of
  by_rows s [] js ns = refl
  by_rows s (i ∷ is) [] ns = refl
  by_rows s (i ∷ is) (j ∷ js) [] = refl
  by_rows s (i ∷ is) (j ∷ js) (n ∷ ns) = by_rows (add binary64 s (u (row i j n))) is js ns

  module _ (is js : List ℤ) (ns : List Float) where
    -- what is left of the rows after those that were lent, added to the sum so far, is the whole sum
    abbrev pub LeftAfter : List Lent → Float → Type 0
    LeftAfter xs s = raw_total u zero_f (rows_of is js ns) ≡ raw_total of s (drop (length xs) (beside is js ns))

    pub none_yet : LeftAfter [] zero_f
    none_yet = by_rows zero_f is js ns

    pub one_more : (xs : List Lent) (x : Lent) (s w : Float)
        → (length xs < length (beside is js ns)) × (entry x ≡ get_or (beside is js ns) (length xs) (entry x))
        → w ≡ of (entry x) → LeftAfter xs s → LeftAfter (xs ++ x ∷ []) (add binary64 s w)
    unfolding raw_total
    one_more xs x s w h e l =
        let rest : List Entry = drop (length xs + 1) (beside is js ns) in
        rw (length_push xs x)
        (l ∙ at_drop_more (raw_total of s) (beside is js ns) (length xs) (entry x) h.0
        ∙ ap (λ (p : Entry). raw_total of (add binary64 s (of p)) rest) (sym h.1)
        ∙ ap (λ (y : Float). raw_total of (add binary64 s y) rest) (sym e))

    pub none_left : (xs : List Lent) (s : Float) → length xs ≡ length (beside is js ns) → LeftAfter xs s → s ≡ raw_total u zero_f (rows_of is js ns)
    unfolding raw_total
    none_left xs s e l = sym (l ∙ at_drop_all (raw_total of s) (beside is js ns) (length xs) (omega arith))
