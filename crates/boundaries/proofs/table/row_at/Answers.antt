-- `boundaries::table::row_at` meets its contract: antt computes that each row is the table's, the bits of each literal those of its decimal. Assumes nothing.
use mathlib.Core.Path.{refl}
use lib.Ieee.{of_bits, round, neg}
use Rattle.common.specs.Decimal.{scaled, plus, minus}
use Rattle.boundaries.specs.Boundary.{table, row_at}
use Rattle.boundaries.proofs.table.row_at.Goals as goal

pub returns-in-Ab : goal.returns-in-Ab
unfolding row_at table plus minus scaled round neg of_bits
returns-in-Ab c = rw c.in-Ab.is refl

pub returns-in-Cd : goal.returns-in-Cd
unfolding row_at table plus minus scaled round neg of_bits
returns-in-Cd c = rw c.in-Cd.is refl

pub returns-in-Gh : goal.returns-in-Gh
unfolding row_at table plus minus scaled round neg of_bits
returns-in-Gh c = rw c.in-Gh.is refl

pub returns-in-Ij : goal.returns-in-Ij
unfolding row_at table plus minus scaled round neg of_bits
returns-in-Ij c = rw c.in-Ij.is refl

pub returns-in-Jk : goal.returns-in-Jk
unfolding row_at table plus minus scaled round neg of_bits
returns-in-Jk c = rw c.in-Jk.is refl

pub returns-in-Mn : goal.returns-in-Mn
unfolding row_at table plus minus scaled round neg of_bits
returns-in-Mn c = rw c.in-Mn.is refl

pub returns-in-Op : goal.returns-in-Op
unfolding row_at table plus minus scaled round neg of_bits
returns-in-Op c = rw c.in-Op.is refl

pub returns-in-Qu : goal.returns-in-Qu
unfolding row_at table plus minus scaled round neg of_bits
returns-in-Qu c = rw c.in-Qu.is refl

pub returns-in-Rx : goal.returns-in-Rx
unfolding row_at table plus minus scaled round neg of_bits
returns-in-Rx c = rw c.in-Rx.is refl

pub returns-in-Uv : goal.returns-in-Uv
unfolding row_at table plus minus scaled round neg of_bits
returns-in-Uv c = rw c.in-Uv.is refl

pub returns-in-Wx : goal.returns-in-Wx
unfolding row_at table plus minus scaled round neg of_bits
returns-in-Wx c = rw c.in-Wx.is refl
