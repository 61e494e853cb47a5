-- To believe: what a row of 24 bytes comes to. Its first two bytes name the table and the sum; vi and vj stand from bytes 8 and 16 on.
use Rattle.std.specs.Prelude.{ℕ, ◌+◌, ◌*◌, cond, List, leb, length, get_or, take, drop}
use Rattle.buffer.specs.Bytes.{float_in}
use Rattle.reply.specs.declared.Reply.{Reply}
use Rattle.reply.specs.Shape.{refused_by}
use Rattle.sums_by_number.specs.Sums.{sum_of}
use Rattle.sum_rows.specs.Table.{table_reply}

-- a table that does not exist is refused as a sum that does not
unfoldable pub row_reply : List ℕ → List ℕ → Reply
row_reply row tables =
    cond (leb (1040 * get_or row 0 0 + 1040) (length tables))
    (table_reply (sum_of (get_or row 1 0)) (float_in row 8) (float_in row 16) (take 1040 (drop (1040 * get_or row 0 0) tables)))
    (refused_by 255)
