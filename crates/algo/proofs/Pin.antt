-- The pin of a table's rows: I, J and n of each, in table order (common/proofs/Pin.antt).
use Prim.Native.Nat.{ℕ}
use mathlib.Core.List.{List}
use Rattle.common.proofs.Pin.{mix, shifted, mix_float, pin_from}
use Rattle.algo.specs.Table.{Row, row}

abbrev mix_row : ℕ → Row → ℕ
mix_row h (row i j n) = mix_float (mix (mix h (shifted i)) (shifted j)) n

abbrev pub pin_rows : List Row → ℕ
pin_rows = pin_from mix_row 0
