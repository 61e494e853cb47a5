-- Each table's `rows` lends one list: the contract's own reading, `Reads.Post`, admits one. Assumes nothing.
use Rattle.common.proofs.Same.{OneLent}
use Rattle.table_sums.proofs.Unique.{rows_one}
use Rattle.tables_ph.proofs as own

pub t3a_ph_one : OneLent 1 own.T3aPhTable.rows.Kinds.ps own.T3aPhTable.rows.Kinds.r own.T3aPhTable.rows.Reads.Post (λ κs x. x.now)
t3a_ph_one κs a e x y p q = rows_one _ x.now y.now p.0 q.0

pub t3b_ph_one : OneLent 1 own.T3bPhTable.rows.Kinds.ps own.T3bPhTable.rows.Kinds.r own.T3bPhTable.rows.Reads.Post (λ κs x. x.now)
t3b_ph_one κs a e x y p q = rows_one _ x.now y.now p.0 q.0

pub v3a_ph_one : OneLent 1 own.V3aPhTable.rows.Kinds.ps own.V3aPhTable.rows.Kinds.r own.V3aPhTable.rows.Reads.Post (λ κs x. x.now)
v3a_ph_one κs a e x y p q = rows_one _ x.now y.now p.0 q.0

pub v3b_ph_one : OneLent 1 own.V3bPhTable.rows.Kinds.ps own.V3bPhTable.rows.Kinds.r own.V3bPhTable.rows.Reads.Post (λ κs x. x.now)
v3b_ph_one κs a e x y p q = rows_one _ x.now y.now p.0 q.0
