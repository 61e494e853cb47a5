-- `sum_rows::on_table` meets its contract: the columns that are lent are the table's.
use Rattle.std.proofs.Common.{ℕ, List, Option, ◌≡◌, ℤ, take, ◌∙◌}
use lib.Ieee.{Float}
use Rattle.sums_by_number.specs.declared.Sum.{Sum}
use Rattle.sums_by_number.specs.Sums.{asked_rule}
use Rattle.sum_rows.specs.Table.{table_reply}
use Rattle.sum_rows.proofs.table.on_table.Goals as goal

of_rows : {A : Type 0} (i n : ℕ) (xs ys : List A) → i ≡ n → xs ≡ ys → take i xs ≡ take n ys
of_rows i n xs ys e f = cc

of_columns : (s : Option Sum) (vi vj : Float) (is is' js js' : List ℤ) (ns ns' : List Float) →
    is ≡ is' → js ≡ js' → ns ≡ ns' → asked_rule s vi vj is js ns ≡ asked_rule s vi vj is' js' ns'
of_columns s vi vj is is' js js' ns ns' e f g = cc

pub returns : goal.returns
unfolding table_reply
returns c =
    c.work.ensures
    ∙ of_columns _ _ _ _ _ _ _ _ _
    (of_rows _ _ _ _ c.rows_in-i.ensures.0 c.wholes_from-is.ensures)
    (of_rows _ _ _ _ c.rows_in-j.ensures.0 c.wholes_from-js.ensures)
    (of_rows _ _ _ _ c.rows_in-n.ensures.0 c.floats_from-ns.ensures)
