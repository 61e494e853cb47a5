-- To believe: the rows that are summed for a letter. Assumes nothing: these are definitions.
use Rattle.std.specs.Prelude.{List, take}
use Rattle.algo.specs.Table.{Row}
use Rattle.subregion.specs.declared.Letter.{Letter}
use Rattle.subregion.specs.declared.Letter.TheVariants as letters
use Rattle.printed.specs.Volumes.{table3a, table3b, table3c, table3d, table3e, table3f, table3g, table3h, table3i, table3j, table3k, table3l, table3m, table3n, table3o, table3p, table3q, table3r, table3s, table3t, table3u, table3v, table3w, table3x, table3y, table3z}

-- All rows of the letter's table. Of letter l the first 42 of its 43, as in the Rust, whose steps end there.
abbrev pub summed : Letter → List Row
summed letters.A = table3a
summed letters.B = table3b
summed letters.C = table3c
summed letters.D = table3d
summed letters.E = table3e
summed letters.F = table3f
summed letters.G = table3g
summed letters.H = table3h
summed letters.I = table3i
summed letters.J = table3j
summed letters.K = table3k
summed letters.L = take 42 table3l
summed letters.M = table3m
summed letters.N = table3n
summed letters.O = table3o
summed letters.P = table3p
summed letters.Q = table3q
summed letters.R = table3r
summed letters.S = table3s
summed letters.T = table3t
summed letters.U = table3u
summed letters.«V» = table3v
summed letters.W = table3w
summed letters.X = table3x
summed letters.Y = table3y
summed letters.Z = table3z
