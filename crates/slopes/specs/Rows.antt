-- What crates promise each other of a sum: the rows of a table that is lent by its columns. Assumes nothing: these are definitions.
use Rattle.std.specs.Prelude.{List}
use Rattle.algo.specs.Table.{Row, rows_of}
use Rattle.slopes.specs.declared.Columns.{Columns}

abbrev pub rows : Columns → List Row
rows t = rows_of t.is.now t.js.now t.ns.now
