-- `rows::take::take_rows` meets its contract: each turn sets one row more of both columns. Assumes nothing.
use Rattle.std.proofs.Common.{ℕ, List, ◌≡◌, ◌+◌, ◌*◌, ◌≤◌, length, refl, ap, ◌∙◌}
use native.Mathlib.Omega.{arith}
use Rattle.std.proofs.Math.ListN.{set, length-set}
use Rattle.std.specs.Prelude.{Float}
use borrow.Author.Tests.{le-leb}
use Rattle.rows.specs.Lines.{p_at, t_at}
use Rattle.buffer.specs.Bytes.{joined, float_at, float_in}
use Rattle.rows.proofs.Laws.{column_more}
use Rattle.rows.proofs.take.take_rows.Goals as goal

-- a float that lies in the bytes
float_in_lem : (s : List ℕ) (i : ℕ) → i + 8 ≤ length s → float_in s i ≡ float_at s i
float_in_lem s i h = rw (le-leb (i + 8) (length s) h)

pub loop-i-init : goal.loop-i-init
unfolding joined
loop-i-init c = record { ps_long = refl; ts_long = refl; ps_after = refl; ts_after = refl }

pub loop-i-preserved : goal.loop-i-preserved
loop-i-preserved c =
    let l = c.loop-i in
    let s = c.args.s.now in record {
      ps_long = length-set l.ps l.i c.float_at.result ∙ l.invariant.ps_long;
      ts_long = length-set l.ts l.i c.float_at-in-loop-i.result ∙ l.invariant.ts_long;
      ps_after =
          ap (λ (xs : List Float). set xs l.i c.float_at.result) l.invariant.ps_after
          ∙ column_more c.args.ps.now (p_at s) l.i c.float_at.result (c.float_at.ensures ∙ float_in_lem s (16 * l.i) (omega arith));
      ts_after =
          ap (λ (xs : List Float). set xs l.i c.float_at-in-loop-i.result) l.invariant.ts_after
          ∙ column_more c.args.ts.now (t_at s) l.i c.float_at-in-loop-i.result (c.float_at-in-loop-i.ensures ∙ float_in_lem s (16 * l.i + 8) (omega arith));
    }
