-- To believe: a table whose exponents of a base are all even. Assumes nothing: these are definitions.
use Rattle.std.specs.Prelude.{Bool, not, List, nat_abs}
use Rattle.common.specs.Sum.{every}
use Rattle.rules.specs.Power.{odd}
use Rattle.algo.specs.declared.Order.{Order}
use Rattle.algo.specs.Table.{Row, row, left}

-- what is left of a row's exponent of the first base, of the second, in a sum that is differentiated so often by that base, is even
abbrev pub even_first : Order → Row → Bool
even_first d (row i j n) = not (odd (nat_abs (left d i)))

abbrev pub even_second : Order → Row → Bool
even_second d (row i j n) = not (odd (nat_abs (left d j)))

-- of every row
abbrev pub all_even_first : Order → List Row → Bool
all_even_first d rows = every (even_first d) rows

abbrev pub all_even_second : Order → List Row → Bool
all_even_second d rows = every (even_second d) rows
