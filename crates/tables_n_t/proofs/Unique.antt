-- Each table's `rows` lends one list: the contract's own reading, `Reads.Post`, admits one. Assumes nothing.
use Rattle.common.proofs.Same.{OneLent}
use Rattle.table_sums.proofs.Unique.{rows_one}
use Rattle.tables_n_t.proofs as own

pub v3n_one : OneLent 1 own.V3nTable.rows.Kinds.ps own.V3nTable.rows.Kinds.r own.V3nTable.rows.Reads.Post (λ κs x. x.now)
v3n_one κs a e x y p q = rows_one _ x.now y.now p.0 q.0

pub v3o_one : OneLent 1 own.V3oTable.rows.Kinds.ps own.V3oTable.rows.Kinds.r own.V3oTable.rows.Reads.Post (λ κs x. x.now)
v3o_one κs a e x y p q = rows_one _ x.now y.now p.0 q.0

pub v3p_one : OneLent 1 own.V3pTable.rows.Kinds.ps own.V3pTable.rows.Kinds.r own.V3pTable.rows.Reads.Post (λ κs x. x.now)
v3p_one κs a e x y p q = rows_one _ x.now y.now p.0 q.0

pub v3q_one : OneLent 1 own.V3qTable.rows.Kinds.ps own.V3qTable.rows.Kinds.r own.V3qTable.rows.Reads.Post (λ κs x. x.now)
v3q_one κs a e x y p q = rows_one _ x.now y.now p.0 q.0

pub v3r_one : OneLent 1 own.V3rTable.rows.Kinds.ps own.V3rTable.rows.Kinds.r own.V3rTable.rows.Reads.Post (λ κs x. x.now)
v3r_one κs a e x y p q = rows_one _ x.now y.now p.0 q.0

pub v3s_one : OneLent 1 own.V3sTable.rows.Kinds.ps own.V3sTable.rows.Kinds.r own.V3sTable.rows.Reads.Post (λ κs x. x.now)
v3s_one κs a e x y p q = rows_one _ x.now y.now p.0 q.0

pub v3t_one : OneLent 1 own.V3tTable.rows.Kinds.ps own.V3tTable.rows.Kinds.r own.V3tTable.rows.Reads.Post (λ κs x. x.now)
v3t_one κs a e x y p q = rows_one _ x.now y.now p.0 q.0
