-- Each table's `rows` lends one list: the contract's own reading, `Reads.Post`, admits one. Assumes nothing.
use Rattle.common.proofs.Same.{OneLent}
use Rattle.table_sums.proofs.Unique.{rows_one}
use Rattle.tables_ps_hs.proofs as own

pub t3a_ps_one : OneLent 1 own.T3aPsTable.rows.Kinds.ps own.T3aPsTable.rows.Kinds.r own.T3aPsTable.rows.Reads.Post (λ κs x. x.now)
t3a_ps_one κs a e x y p q = rows_one _ x.now y.now p.0 q.0

pub t3b_ps_one : OneLent 1 own.T3bPsTable.rows.Kinds.ps own.T3bPsTable.rows.Kinds.r own.T3bPsTable.rows.Reads.Post (λ κs x. x.now)
t3b_ps_one κs a e x y p q = rows_one _ x.now y.now p.0 q.0

pub v3a_ps_one : OneLent 1 own.V3aPsTable.rows.Kinds.ps own.V3aPsTable.rows.Kinds.r own.V3aPsTable.rows.Reads.Post (λ κs x. x.now)
v3a_ps_one κs a e x y p q = rows_one _ x.now y.now p.0 q.0

pub v3b_ps_one : OneLent 1 own.V3bPsTable.rows.Kinds.ps own.V3bPsTable.rows.Kinds.r own.V3bPsTable.rows.Reads.Post (λ κs x. x.now)
v3b_ps_one κs a e x y p q = rows_one _ x.now y.now p.0 q.0

pub p3a_hs_one : OneLent 1 own.P3aHsTable.rows.Kinds.ps own.P3aHsTable.rows.Kinds.r own.P3aHsTable.rows.Reads.Post (λ κs x. x.now)
p3a_hs_one κs a e x y p q = rows_one _ x.now y.now p.0 q.0

pub p3b_hs_one : OneLent 1 own.P3bHsTable.rows.Kinds.ps own.P3bHsTable.rows.Kinds.r own.P3bHsTable.rows.Reads.Post (λ κs x. x.now)
p3b_hs_one κs a e x y p q = rows_one _ x.now y.now p.0 q.0
