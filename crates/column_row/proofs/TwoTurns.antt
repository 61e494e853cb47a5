-- A row worked in two turns is the row.
use mathlib.Core.Path.{◌≡◌, refl, ap, ◌∙◌}
use mathlib.Core.Bool.{false}
use native.Mathlib.Omega.{arith}
use lib.Dec.{eqb}
use lib.Ieee.{Float}
use borrow.Author.Tests.{ne_eqb}
use Rattle.common.specs.Outcome.{Outcome, value, refused, number_in, then}
use Rattle.subregion.specs.Letter.{ascii_of}
use Rattle.subregion.proofs.Bytes.{byte_of}
use Rattle.record.specs.declared.Origin.{Origin}
use Rattle.record.specs.declared.Origin.TheVariants.{Subregion, Critical}
use Rattle.origin.specs.Origin.{origin_rule}
use Rattle.volume.specs.State.{state_by}
use Rattle.volume_at.specs.Volumes.{found_rule}
use Rattle.column_row.specs.Row.{line_in, row_rule}
use Rattle.column_row.specs.TwoTurns.{mark_by, mark_of, of_mark, line_by}

-- a mark is none of a refused row, and gives its origin back
record Mark (o : Origin) : Type 0 where
  taken : eqb (mark_by o) 0 ≡ false
  back : of_mark (mark_by o) ≡ o

mark_of_lem : (o : Origin) → Mark o
mark_of_lem (Subregion l) =
    let b = byte_of l in
    let h = b.high in
    record { taken = ne_eqb (ascii_of l) 0 (λ e. omega arith); back = rw (ne_eqb (ascii_of l) 1 (λ e. omega arith), b.back) }
mark_of_lem Critical = record { taken = refl; back = refl }

line_is : (q : Outcome Origin) (p t : Float) → line_by (mark_of q) (number_in q) p t ≡ line_in (then q (λ o. state_by o p t))
unfolding line_by
line_is (value o) p t = let m = mark_of_lem o in rw (m.taken, m.back)
line_is (refused k) p t = refl

pub row_is : (q : Outcome Origin) (p t : Float) → q ≡ origin_rule p t → line_by (mark_of q) (number_in q) p t ≡ row_rule p t
unfolding row_rule found_rule
row_is q p t e = line_is q p t ∙ ap (λ (z : Outcome Origin). line_in (then z (λ o. state_by o p t))) e
