-- `column_sums::raw_four` meets its contract: the powers that are worked cover the rows.
use Rattle.powers.proofs.Looked.{powers_hold}
use Rattle.algo.specs.declared.Order.TheVariants.{Zero}
use Rattle.algo.specs.declared.Share.TheVariants.{I, Ii, Ij, Jj}
use Rattle.algo.specs.Table.{rows_of}
use Rattle.algo.proofs.Sums.{share_ends}
use Rattle.column_sums.specs.Farthest.{ups, downs}
use Rattle.column_sums.proofs.Farthest.{covered}
use Rattle.column_sums.proofs.raw.raw_four.Goals as goal

pub returns : goal.returns
returns c =
    let a = c.args in
    let is = a.table.is.now in
    let js = a.table.js.now in
    let p = powers_hold a.vi _ _ (ups Zero is) (downs Zero is) c.powers_for-wi.ensures in
    let q = powers_hold a.vj _ _ (ups Zero js) (downs Zero js) c.powers_for-wj.ensures in
    let rows = covered Zero Zero is js a.table.ns.now in
    let h = c.four_sums-p.ensures in (
      share_ends a.vi a.vj _ _ (ups Zero is) (downs Zero is) (ups Zero js) (downs Zero js) p q
          {a = Zero} {s = I} {rs = rows_of is js a.table.ns.now} rows h.0 c.finished.ensures,
      share_ends a.vi a.vj _ _ (ups Zero is) (downs Zero is) (ups Zero js) (downs Zero js) p q
          {a = Zero} {s = Ii} {rs = rows_of is js a.table.ns.now} rows h.1 c.finished-2.ensures,
      share_ends a.vi a.vj _ _ (ups Zero is) (downs Zero is) (ups Zero js) (downs Zero js) p q
          {a = Zero} {s = Ij} {rs = rows_of is js a.table.ns.now} rows h.2 c.finished-3.ensures,
      share_ends a.vi a.vj _ _ (ups Zero is) (downs Zero is) (ups Zero js) (downs Zero js) p q
          {a = Zero} {s = Jj} {rs = rows_of is js a.table.ns.now} rows h.3 c.finished-4.ensures,
    )
