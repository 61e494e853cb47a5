-- Each table's `rows` lends one list: the contract's own reading, `Reads.Post`, admits one. Assumes nothing.
use Rattle.common.proofs.Same.{OneLent}
use Rattle.table_sums.proofs.Unique.{rows_one}
use Rattle.tables_u_z.proofs as own

pub v3u_one : OneLent 1 own.V3uTable.rows.Kinds.ps own.V3uTable.rows.Kinds.r own.V3uTable.rows.Reads.Post (λ κs x. x.now)
v3u_one κs a e x y p q = rows_one _ x.now y.now p.0 q.0

pub v3v_one : OneLent 1 own.V3vTable.rows.Kinds.ps own.V3vTable.rows.Kinds.r own.V3vTable.rows.Reads.Post (λ κs x. x.now)
v3v_one κs a e x y p q = rows_one _ x.now y.now p.0 q.0

pub v3w_one : OneLent 1 own.V3wTable.rows.Kinds.ps own.V3wTable.rows.Kinds.r own.V3wTable.rows.Reads.Post (λ κs x. x.now)
v3w_one κs a e x y p q = rows_one _ x.now y.now p.0 q.0

pub v3x_one : OneLent 1 own.V3xTable.rows.Kinds.ps own.V3xTable.rows.Kinds.r own.V3xTable.rows.Reads.Post (λ κs x. x.now)
v3x_one κs a e x y p q = rows_one _ x.now y.now p.0 q.0

pub v3y_one : OneLent 1 own.V3yTable.rows.Kinds.ps own.V3yTable.rows.Kinds.r own.V3yTable.rows.Reads.Post (λ κs x. x.now)
v3y_one κs a e x y p q = rows_one _ x.now y.now p.0 q.0

pub v3z_one : OneLent 1 own.V3zTable.rows.Kinds.ps own.V3zTable.rows.Kinds.r own.V3zTable.rows.Reads.Post (λ κs x. x.now)
v3z_one κs a e x y p q = rows_one _ x.now y.now p.0 q.0
