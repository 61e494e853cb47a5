-- `entries::answer_rows` meets its contract: after i turns the first i replies stand in the page. Assumes nothing.
use mathlib.Core.Path.{refl, sym, ap, ◌∙◌}
use mathlib.Core.List.{List}
use Prim.Native.Nat.{ℕ, ◌*◌}
use native.Mathlib.Nat.{zero-add}
use native.Mathlib.Omega.{arith}
use lib.Seq.{sets}
use Rattle.buffer.specs.Bytes.{joined}
use Rattle.buffer.proofs.Laws.{placed_all, pieces_more}
use Rattle.reply.specs.Bytes.{reply_bytes}
use Rattle.entries.specs.Rows.{reply_at, replies_to}
use Rattle.reply.specs.declared.Reply.{Reply}
use Rattle.reply.proofs.Laws.{reply_length}
use Rattle.entries.proofs.page.answer_rows.Goals as goal

pub loop-i-init : goal.loop-i-init
unfolding replies_to joined
loop-i-init c = record { same_length = refl; answered = refl }

pub loop-i-preserved : goal.loop-i-preserved
unfolding replies_to
loop-i-preserved c =
    let l = c.loop-i in
    let f : ℕ → List ℕ = λ k. reply_bytes (reply_at c.args.rows.now (24 * k)) in
    record {
      same_length = c.put_reply.auto.out ∙ l.invariant.same_length;
      answered =
          c.put_reply.ensures
          ∙ placed_all l.replies (88 * l.i) (reply_bytes c.reply_at.result) (rw (reply_length c.reply_at.result) (omega (arith, l.invariant.same_length)))
          ∙ ap (λ (r : Reply). sets l.replies (88 * l.i) (reply_bytes r)) c.reply_at.ensures
          ∙ pieces_more f 88 (λ k. reply_length (reply_at c.args.rows.now (24 * k))) c.args.replies.now l.replies 0 l.i (88 * l.i) l.invariant.answered
          (sym (zero-add (88 * l.i)));
    }
