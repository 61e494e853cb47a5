-- `exchange_reply::asked_bytes` meets its contract: the pair, its two numbers, and the entry's own 88 bytes. Assumes nothing.
use mathlib.Core.Path.{◌≡◌, ap, ◌∙◌}
use mathlib.Core.List.{List, [], ◌∷◌, ◌++◌}
use Prim.Native.Nat.{ℕ}
use native.Mathlib.Omega.{arith}
use lib.ListN.{replicate, set}
use lib.Seq.{sets}
use Rattle.buffer.specs.Bytes.{eight, placed}
use Rattle.buffer.proofs.Laws.{sets_append, sets_all, placed_all}
use Rattle.reply.specs.declared.Reply.{Reply}
use Rattle.reply.specs.Bytes.{reply_bytes}
use Rattle.reply.proofs.Laws.{reply_length}
use Rattle.exchange_record.specs.Reading.{pair_byte}
use Rattle.exchange_reply.proofs.asked_bytes.Goals as goal

pub returns : goal.returns
returns c =
    let q = c.args.q in
    let r = reply_bytes c.record_reply.result in
    let zeros : List ℕ = replicate 112 0 in
    let head : List ℕ = (0 ∷ pair_byte q.pair ∷ 0 ∷ 0 ∷ 0 ∷ 0 ∷ 0 ∷ 0 ∷ []) ++ eight q.a ++ eight q.b in
    let start : c.put_word-2.new.out ≡ sets zeros 0 head =
    c.put_word-2.ensures
    ∙ ap (λ (xs : List ℕ). placed xs 16 (eight q.b)) c.put_word.ensures
    ∙ ap (λ (n : ℕ). placed (placed (set zeros 1 n) 8 (eight q.a)) 16 (eight q.b)) c.into.ensures in
    let all = reply_length c.record_reply.result in
    c.put_reply.ensures
    ∙ ap (λ (m : List ℕ). placed m 24 r) start
    ∙ placed_all (sets zeros 0 head) 24 r (omega (arith, all))
    ∙ sets_append head r zeros 0
    ∙ sets_all zeros (head ++ r) (omega (arith, all))
    ∙ ap (λ (x : Reply). head ++ reply_bytes x) c.record_reply.ensures
