-- `rows::put::put_lines` meets its contract: each turn writes the line of one row more. Assumes nothing.
use mathlib.Core.Path.{refl, ◌∙◌}
use Prim.Native.Nat.{◌+◌}
use native.Mathlib.Omega.{arith}
use Rattle.text.proofs.Laws.{wrote_length}
use Rattle.rows.proofs.Laws.{lines_none, lines_step}
use Rattle.rows.proofs.put.put_lines.Goals as goal

pub loop-i-init : goal.loop-i-init
loop-i-init c =
    let a = c.args in
    record { upper_bound = omega arith; wrote = lines_none a.done a.ps.now a.ts.now a.out.now; lent = refl }

pub put_line-requires : goal.put_line-requires
put_line-requires c =
    let l = c.loop-i in
    omega (arith, l.invariant.upper_bound, wrote_length l.invariant.wrote)

pub loop-i-preserved : goal.loop-i-preserved
loop-i-preserved c =
    let a = c.args in
    let l = c.loop-i in
    let p = c.put_line in
    record {
      upper_bound = omega (arith, l.invariant.upper_bound, p.ensures.upper_bound);
      wrote = lines_step a.done a.ps.now a.ts.now l.i (a.done + l.i) _ refl c.sub_region3_pT.ensures l.invariant.wrote p.ensures.wrote;
      lent = p.ensures.lent ∙ l.invariant.lent;
    }
