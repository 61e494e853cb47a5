-- Each table's `rows` lends one list: the contract's own reading, `Reads.Post`, admits one. Assumes nothing.
use Rattle.common.proofs.Same.{OneLent}
use Rattle.table_sums.proofs.Unique.{rows_one}
use Rattle.tables_a_g.proofs as own

pub v3a_one : OneLent 1 own.V3aTable.rows.Kinds.ps own.V3aTable.rows.Kinds.r own.V3aTable.rows.Reads.Post (λ κs x. x.now)
v3a_one κs a e x y p q = rows_one _ x.now y.now p.0 q.0

pub v3b_one : OneLent 1 own.V3bTable.rows.Kinds.ps own.V3bTable.rows.Kinds.r own.V3bTable.rows.Reads.Post (λ κs x. x.now)
v3b_one κs a e x y p q = rows_one _ x.now y.now p.0 q.0

pub v3c_one : OneLent 1 own.V3cTable.rows.Kinds.ps own.V3cTable.rows.Kinds.r own.V3cTable.rows.Reads.Post (λ κs x. x.now)
v3c_one κs a e x y p q = rows_one _ x.now y.now p.0 q.0

pub v3d_one : OneLent 1 own.V3dTable.rows.Kinds.ps own.V3dTable.rows.Kinds.r own.V3dTable.rows.Reads.Post (λ κs x. x.now)
v3d_one κs a e x y p q = rows_one _ x.now y.now p.0 q.0

pub v3e_one : OneLent 1 own.V3eTable.rows.Kinds.ps own.V3eTable.rows.Kinds.r own.V3eTable.rows.Reads.Post (λ κs x. x.now)
v3e_one κs a e x y p q = rows_one _ x.now y.now p.0 q.0

pub v3f_one : OneLent 1 own.V3fTable.rows.Kinds.ps own.V3fTable.rows.Kinds.r own.V3fTable.rows.Reads.Post (λ κs x. x.now)
v3f_one κs a e x y p q = rows_one _ x.now y.now p.0 q.0

pub v3g_one : OneLent 1 own.V3gTable.rows.Kinds.ps own.V3gTable.rows.Kinds.r own.V3gTable.rows.Reads.Post (λ κs x. x.now)
v3g_one κs a e x y p q = rows_one _ x.now y.now p.0 q.0
