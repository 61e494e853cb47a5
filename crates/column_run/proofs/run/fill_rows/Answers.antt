-- `column_run::fill_rows`: after i turns the first i rows of each column are written, and the others hold their marks.
use Prim.Native.Nat.{◌<◌}
use mathlib.Core.Path.{◌≡◌, refl, ap, ◌∙◌}
use native.Mathlib.Omega.{arith}
use lib.ListN.{length, get_or}
use lib.Ieee.{nan}
use Rattle.origin.specs.Origin.{origin_rule}
use Rattle.column_row.specs.declared.Line.{Line}
use Rattle.column_row.specs.Row.{row_rule}
use Rattle.column_run.specs.Columns.{letter_in, density_in, refusal_in}
use Rattle.column_row.specs.TwoTurns.{mark_in, stop_in}
use Rattle.column_row.proofs.TwoTurns.{row_is}
use Rattle.column_run.proofs.Rows.{filled_more, filled_all, left_less}
use Rattle.column_run.proofs.run.fill_rows.Goals as goal

pub loop-i-preserved : goal.loop-i-preserved
loop-i-preserved c =
    let a = c.args in
    let l = c.loop-i in
    let i = l.i in
    let v = l.invariant in
    let h : i < length a.ps.now = omega arith in
    let p = get_or a.ps.now i nan in
    let t = get_or a.ts.now i nan in
    let m : get_or l.letters i 0 ≡ mark_in p t = v.marks.each i (omega arith) h in
    let k : get_or l.refusals i 0 ≡ stop_in p t = v.stops.each i (omega arith) h in
    let e : c.line_of-line.result ≡ row_rule p t = c.line_of-line.ensures ∙ rw (m, k) (row_is (origin_rule p t) p t refl) in
    record {
      letters = filled_more letter_in 0 _ _ _ _ _ h v.letters (ap (λ (r : Line). r.letter) e);
      densities = filled_more density_in nan _ _ _ _ _ h v.densities (ap (λ (r : Line). r.density.0) e);
      refusals = filled_more refusal_in 0 _ _ _ _ _ h v.refusals (ap (λ (r : Line). r.refusal) e);
      marks = left_less mark_in 0 _ _ _ _ _ v.marks;
      stops = left_less stop_in 0 _ _ _ _ _ v.stops;
    }

pub returns : goal.returns
returns c =
    let v = c.loop-i.invariant in
    let e = c.requires.times_long in
    let o = c.loop-i-test.false in
    record {
      letters_after = filled_all letter_in 0 _ _ _ _ e o v.letters;
      densities_after = filled_all density_in nan _ _ _ _ e o v.densities;
      refusals_after = filled_all refusal_in 0 _ _ _ _ e o v.refusals;
    }
