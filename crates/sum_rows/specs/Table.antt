-- To believe: how a table lies in its 1040 bytes: the lengths of its columns I, J and n in the first three, then from byte 16 on 64 whole numbers I,
-- 64 whole numbers J and 64 floats n.
use Rattle.std.specs.Prelude.{ℕ, ◌+◌, ◌*◌, cond, List, [], ◌∷◌, ltb, ℤ, get_or, take, Option, Float}
use Rattle.buffer.specs.Bytes.{joined, int_in, float_in}
use Rattle.reply.specs.declared.Reply.{Reply}
use Rattle.sums_by_number.specs.declared.Sum.{Sum}
use Rattle.sums_by_number.specs.Sums.{asked_rule}

-- the length of a column, 64 at most
abbrev pub rows_in : List ℕ → ℕ → ℕ
rows_in table which = cond (ltb (get_or table which 0) 64) (get_or table which 0) 64

-- 64 whole numbers and 64 floats from a byte on
abbrev pub wholes : List ℕ → ℕ → List ℤ
wholes table at = joined (λ k. int_in table (at + 4 * k) ∷ []) 64

abbrev pub floats : List ℕ → ℕ → List Float
floats table at = joined (λ k. float_in table (at + 8 * k) ∷ []) 64

-- a sum on a table
unfoldable pub table_reply : Option Sum → Float → Float → List ℕ → Reply
table_reply sum vi vj table =
    asked_rule sum vi vj
    (take (rows_in table 0) (wholes table 16))
    (take (rows_in table 1) (wholes table 272))
    (take (rows_in table 2) (floats table 528))
