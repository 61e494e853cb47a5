-- Each contract admits one answer. The theorems are about the contracts' own readings, `Reads.Post`, and not about a copy of them.
-- Assumes nothing.
use mathlib.Core.Path.{◌≡◌, refl, sym, ap, ◌∙◌}
use mathlib.Core.List.{List, [], ◌∷◌}
use lib.IntN.{ℤ}
use lib.Ieee.{Float}
use denote.RattleType.{RattleType}
use denote.Param.Laws.{Laws}
use mir.Syntax.{Dict}
use Rattle.common.proofs.Same.{One, same}
use Rattle.powers.proofs.Doubling.{written_once}
use Rattle.algo.specs.Table.{Row, row}
use Rattle.table_sums.specs.ByPowers.{rows_in}
use Rattle.table_sums.specs.declared.Table.{Ghosts}
use Rattle.table_sums.proofs as sums

-- the tables of powers are determined, and the sum by them
pub bare_sum_one : One 1 sums.bare_sum.Kinds.ps sums.bare_sum.Kinds.r sums.bare_sum.Reads.Post
bare_sum_one κs a e x y p q =
    let i : p.wi ≡ q.wi = written_once _ _ _ _ _ _ p.worked_i q.worked_i in
    let j : p.wj ≡ q.wj = written_once _ _ _ _ _ _ p.worked_j q.worked_j in
    p.is ∙ (rw (i, j) (sym q.is))

pub rule_sum_one : One 1 sums.rule_sum.Kinds.ps sums.rule_sum.Kinds.r sums.rule_sum.Reads.Post
rule_sum_one κs a e x y p q =
    let i : p.wi ≡ q.wi = written_once _ _ _ _ _ _ p.worked_i q.worked_i in
    let j : p.wj ≡ q.wj = written_once _ _ _ _ _ _ p.worked_j q.worked_j in
    p.is ∙ (rw (i, j) (sym q.is))

-- a table's rows, which `rows` lends
rows_out : List Row → List (ℤ × ℤ × Float)
rows_out [] = []
rows_out (row i j n ∷ rs) = (i, j, n) ∷ rows_out rs

out_in : (rs : List (ℤ × ℤ × Float)) → rows_out (rows_in rs) ≡ rs
unfolding rows_out
out_in [] = refl
out_in ((i, j, n) ∷ rs) = ap (λ (t : List (ℤ × ℤ × Float)). (i, j, n) ∷ t) (out_in rs)

pub rows_one : (rows : List Row) (x y : List (ℤ × ℤ × Float)) → rows_in x ≡ rows → rows_in y ≡ rows → x ≡ y
rows_one = same rows_in rows_out out_in

pub sum_one : (T : RattleType) (L : Laws T) (G : Ghosts T.Denot) (D : Dict) → One 1 (sums.sum.Kinds.ps T L) (sums.sum.Kinds.r T L) (sums.sum.Reads.Post T L G D)
sum_one T L G D κs a e x y p q = p ∙ sym q
