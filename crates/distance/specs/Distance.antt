-- To believe: how far each boundary in f64 may lie from the exact one, and up to which p. Assumes nothing: these are definitions.
use Rattle.std.specs.Prelude.{ℕ, ◌^◌, Float}
use Rattle.common.specs.Outcome.{Outcome, value, refused}
use Rattle.rounding.specs.Fraction.{Near}
use Rattle.boundaries.specs.declared.Boundary.{Boundary}
use Rattle.boundaries.specs.declared.Boundary.TheVariants as boundaries
use Rattle.distance.specs.Exact.{Polynomial, cd, ef, gh, ij, jk, mn, qu, rx, uv, temperature}

abbrev pub kind : Polynomial → Boundary
kind cd = boundaries.Cd
kind ef = boundaries.Ef
kind gh = boundaries.Gh
kind ij = boundaries.Ij
kind jk = boundaries.Jk
kind mn = boundaries.Mn
kind qu = boundaries.Qu
kind rx = boundaries.Rx
kind uv = boundaries.Uv

-- in MPa, the end of the bands that use the boundary or the next whole number: those of 3qu, 3rx and 3uv end at 22.5
abbrev pub top : Polynomial → ℕ
top cd = 40
top ef = 40
top gh = 25
top ij = 25
top jk = 25
top mn = 23
top qu = 23
top rx = 23
top uv = 23

-- distances are in units of 1 / unit K: 5 is 5e-13 K, and 3200 is 3.2e-10 K
abbrev pub unit : ℕ
unit = 10 ^ 13

abbrev pub distance : Polynomial → ℕ
distance cd = 5
distance ef = 2
distance gh = 3200
distance ij = 7
distance jk = 12
distance mn = 5
distance qu = 5
distance rx = 5
distance uv = 6

-- accepted, with a number that is near the exact temperature at p = P / 2^48
abbrev pub Reaches : Polynomial → ℕ → Outcome Float → Type 0
Reaches b P (value y) = Near y (temperature b P) (distance b) unit
Reaches b P (refused k) = ⊥
