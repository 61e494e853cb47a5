-- Each table's `rows` lends one list: the contract's own reading, `Reads.Post`, admits one. Assumes nothing.
use Rattle.common.proofs.Same.{OneLent}
use Rattle.table_sums.proofs.Unique.{rows_one}
use Rattle.tables_h_m.proofs as own

pub v3h_one : OneLent 1 own.V3hTable.rows.Kinds.ps own.V3hTable.rows.Kinds.r own.V3hTable.rows.Reads.Post (λ κs x. x.now)
v3h_one κs a e x y p q = rows_one _ x.now y.now p.0 q.0

pub v3i_one : OneLent 1 own.V3iTable.rows.Kinds.ps own.V3iTable.rows.Kinds.r own.V3iTable.rows.Reads.Post (λ κs x. x.now)
v3i_one κs a e x y p q = rows_one _ x.now y.now p.0 q.0

pub v3j_one : OneLent 1 own.V3jTable.rows.Kinds.ps own.V3jTable.rows.Kinds.r own.V3jTable.rows.Reads.Post (λ κs x. x.now)
v3j_one κs a e x y p q = rows_one _ x.now y.now p.0 q.0

pub v3k_one : OneLent 1 own.V3kTable.rows.Kinds.ps own.V3kTable.rows.Kinds.r own.V3kTable.rows.Reads.Post (λ κs x. x.now)
v3k_one κs a e x y p q = rows_one _ x.now y.now p.0 q.0

pub v3l_one : OneLent 1 own.V3lTable.rows.Kinds.ps own.V3lTable.rows.Kinds.r own.V3lTable.rows.Reads.Post (λ κs x. x.now)
v3l_one κs a e x y p q = rows_one _ x.now y.now p.0 q.0

pub v3m_one : OneLent 1 own.V3mTable.rows.Kinds.ps own.V3mTable.rows.Kinds.r own.V3mTable.rows.Reads.Post (λ κs x. x.now)
v3m_one κs a e x y p q = rows_one _ x.now y.now p.0 q.0
