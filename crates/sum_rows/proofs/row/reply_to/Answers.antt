-- `sum_rows::reply_to` meets its contract: its test is the definition's, and the table that is lent is the one that the row names.
use Rattle.std.proofs.Common.{Option, None, Some, Bor, ℕ, List, ◌≡◌, ◌+◌, ◌*◌, ◌-◌, ◌≤◌, true, false, length, get_or, take, drop}
use Rattle.std.proofs.Common.{ap, ◌∙◌, subst, ⊎_elim}
use native.Mathlib.Omega.{arith}
use Rattle.std.proofs.lemmas.List.{length-drop, length-take-le, take_all}
use lib.Dec.{leb}
use borrow.Author.Tests.{le-leb, lt-leb}
use Rattle.std.specs.Slice.{IsGetRangeResult}
use Rattle.sums_by_number.specs.Sums.{sum_of}
use Rattle.sum_rows.specs.Row.{row_reply}
use Rattle.sum_rows.proofs.row.reply_to.Goals as goal

-- n bytes from a place on, where they are lent and where there are none
module _ (xs : List ℕ) (from n : ℕ) (r : Option (Bor (List ℕ))) (h : IsGetRangeResult xs from (from + n) r) where
  lent : (x : Bor (List ℕ)) → r ≡ Some x → (leb (from + n) (length xs) ≡ true) × (x.now ≡ take n (drop from xs))
  lent x e =
      let g = (subst (IsGetRangeResult xs from (from + n)) e h).0 in
      let m : from + n - from ≡ n = omega arith in
      (le-leb _ _ g.1, rw (← m) g.2)

  -- n of them, and no fewer
  whole : (x : Bor (List ℕ)) → r ≡ Some x → length x.now ≡ n
  whole x e =
      let g = (subst (IsGetRangeResult xs from (from + n)) e h).0 in
      let l : n ≤ length (drop from xs) = rw (length-drop from xs) (omega (arith, g.1)) in
      ap length (lent x e).1 ∙ length-take-le n (drop from xs) l

  missing : r ≡ None → leb (from + n) (length xs) ≡ false
  missing e = ⊎_elim (λ l. absurd (omega (arith, l))) (λ l. lt-leb _ _ l) (subst (IsGetRangeResult xs from (from + n)) e h).0

pub returns-in_default : goal.returns-in_default
unfolding row_reply
returns-in_default c =
    let a = c.args in
    let b : c.from-at.result ≡ get_or a.row.now 0 0 = c.from-at.ensures ∙ c.byte_at.ensures in
    let h : leb (1040 * get_or a.row.now 0 0 + 1040) (length a.tables.now) ≡ false = rw (← b) (missing _ _ 1040 _ c.get.ensures.lookup c.in_default.is) in
    rw h c.refused.ensures

pub slice_bounds-on_table-end : goal.slice_bounds-on_table-end
slice_bounds-on_table-end c =
    let l = whole _ _ 1040 _ c.get.ensures.lookup c.in-Some.table c.in-Some.is in
    omega (arith, length-take-le 1040 c.in-Some.table.now (omega (arith, l)))

pub returns : goal.returns
unfolding row_reply
returns c =
    let a = c.args in
    let b : c.from-at.result ≡ get_or a.row.now 0 0 = c.from-at.ensures ∙ c.byte_at.ensures in
    let m = lent _ _ 1040 _ c.get.ensures.lookup c.in-Some.table c.in-Some.is in
    let h : leb (1040 * get_or a.row.now 0 0 + 1040) (length a.tables.now) ≡ true = rw (← b) m.0 in
    let t : c.in-Some.table.now ≡ take 1040 (drop (1040 * get_or a.row.now 0 0) a.tables.now) = rw (← b) m.1 in
    let sum : c.sum_of.result ≡ sum_of (get_or a.row.now 1 0) = c.sum_of.ensures ∙ ap sum_of c.byte_at-2.ensures in
    let l = whole _ _ 1040 _ c.get.ensures.lookup c.in-Some.table c.in-Some.is in
    let same : take 1040 c.in-Some.table.now ≡ c.in-Some.table.now = take_all 1040 c.in-Some.table.now (omega (arith, l)) in
    rw h (rw (sum, c.float_at.ensures, c.float_at-2.ensures, same, t) at c.on_table.ensures)
