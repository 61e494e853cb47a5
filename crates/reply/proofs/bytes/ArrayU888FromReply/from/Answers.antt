-- A reply's bytes: the head, then the ten numbers, eight bytes each. Assumes nothing.
use mathlib.Core.Path.{◌≡◌, refl, sym, ap, ◌∙◌}
use mathlib.Core.List.{List, ◌++◌}
use Prim.Native.Nat.{ℕ, ◌+◌, ◌*◌}
use native.Mathlib.Nat.{le_antisymm}
use native.Mathlib.Omega.{arith}
use lib.ListN.{replicate, set}
use lib.Seq.{sets}
use Rattle.buffer.specs.Bytes.{joined, placed}
use Rattle.buffer.proofs.Laws.{sets_append, sets_all, placed_all, pieces_more}
use Rattle.reply.proofs.Laws.{number_length, reply_length}
use Rattle.reply.specs.Bytes.{number_bytes, head_bytes, reply_bytes}
use Rattle.reply.proofs.bytes.ArrayU888FromReply.from.Goals as goal

pub loop-k-init : goal.loop-k-init
unfolding joined
loop-k-init c = refl

pub loop-k-preserved : goal.loop-k-preserved
loop-k-preserved c =
    let l = c.loop-k in
    let f = number_bytes c.args.r.numbers in
    c.put_float.ensures
    ∙ placed_all l.bytes (8 + 8 * l.k) (f l.k) (omega (arith, c.loop-k-test.array_long))
    ∙ pieces_more f 8 (number_length c.args.r.numbers) c.put_bytes.new.out l.bytes 8 l.k (8 + 8 * l.k) l.invariant refl

pub returns : goal.returns
unfolding reply_bytes
returns c =
    let r = c.args.r in
    let l = c.loop-k in
    let f = number_bytes r.numbers in
    let zeros : List ℕ = replicate 88 0 in
    let head = head_bytes r.refusal r.letter r.beside in
    let start : c.put_bytes.new.out ≡ sets zeros 0 head =
    c.put_bytes.ensures ∙ ap (λ (xs : List ℕ). placed (set (set zeros 0 r.refusal) 1 r.letter) 4 xs) c.to_le_bytes.ensures in
    l.invariant
    ∙ ap (λ (n : ℕ). sets c.put_bytes.new.out 8 (joined f n)) (le_antisymm l.auto.k-end c.loop-k-test.false)
    ∙ ap (λ (m : List ℕ). sets m 8 (joined f 10)) start
    ∙ sets_append head (joined f 10) zeros 0
    ∙ sets_all zeros (head ++ joined f 10) (sym (reply_length r))
