-- To believe: the volume equations of S05rev: table 4 and equations 4 and 5, in the Rust's order of operations (r3/region3_v_subregion_pT.rs).
-- Assumes nothing: these are definitions.
use Rattle.common.specs.Formula.{◌⊖◌, ◌⊗◌, ◌⊘◌}
use Rattle.std.specs.Prelude.{List, pos, Float}
use Rattle.common.specs.Outcome.{Outcome, value}
use Rattle.common.specs.Decimal.{decimal, whole}
use Rattle.rules.specs.Formula.{power_of, exponential_of}
use Rattle.inverses.specs.Formula.{root_of}
use Rattle.algo.specs.Table.{Row}
use Rattle.algo.specs.Table.{sum_of}
use Rattle.subregion.specs.declared.Letter.{Letter}
use Rattle.subregion.specs.declared.Letter.TheVariants as letters
use Rattle.tables.specs.Summed.{summed}
use Rattle.volume.specs.declared.Equation.{Equation}
use Rattle.volume.specs.declared.Equation.TheVariants.{Plain, RootP, FourthRootT, Fourth, RootPFourth, Exponential}

-- a reduced quantity less its shift: p / p* - a, T / T* - b
abbrev pub less : Float → Float → Float → Outcome Float
less x star shift = value x ⊘ value star ⊖ value shift

-- The volume at p and t: equation 4, and for the exponential equation 5. A power of one half is a root, of one quarter a root of a root,
-- and a power of one is no step.
unfoldable pub volume_by : Equation → List Row → Float → Float → Outcome Float
volume_by (Plain v ps ts a b) rows p t = sum_of (less p ps a) (less t ts b) rows ⊗ value v
volume_by (RootP v ps ts a b) rows p t = sum_of (root_of (less p ps a)) (less t ts b) rows ⊗ value v
volume_by (FourthRootT v ps ts a b) rows p t = sum_of (less p ps a) (root_of (root_of (less t ts b))) rows ⊗ value v
volume_by (Fourth v ps ts a b) rows p t = power_of (sum_of (less p ps a) (less t ts b) rows) (pos 4) ⊗ value v
volume_by (RootPFourth v ps ts a b) rows p t = power_of (sum_of (root_of (less p ps a)) (less t ts b) rows) (pos 4) ⊗ value v
volume_by (Exponential v ps ts a b) rows p t = exponential_of (sum_of (less p ps a) (less t ts b) rows) ⊗ value v

-- table 4: v*, p*, T*, a and b of each letter
abbrev pub equation_of : Letter → Equation
equation_of letters.A = Plain (decimal 0_0024 4) (whole 100) (whole 760) (decimal 0_085 3) (decimal 0_817 3)
equation_of letters.B = Plain (decimal 0_0041 4) (whole 100) (whole 860) (decimal 0_280 3) (decimal 0_779 3)
equation_of letters.C = Plain (decimal 0_0022 4) (whole 40) (whole 690) (decimal 0_259 3) (decimal 0_903 3)
equation_of letters.D = Fourth (decimal 0_0029 4) (whole 40) (whole 690) (decimal 0_559 3) (decimal 0_939 3)
equation_of letters.E = Plain (decimal 0_0032 4) (whole 40) (whole 710) (decimal 0_587 3) (decimal 0_918 3)
equation_of letters.F = RootPFourth (decimal 0_0064 4) (whole 40) (whole 730) (decimal 0_587 3) (decimal 0_891 3)
equation_of letters.G = Fourth (decimal 0_0027 4) (whole 25) (whole 660) (decimal 0_872 3) (decimal 0_971 3)
equation_of letters.H = Fourth (decimal 0_0032 4) (whole 25) (whole 660) (decimal 0_898 3) (decimal 0_983 3)
equation_of letters.I = RootPFourth (decimal 0_0041 4) (whole 25) (whole 660) (decimal 0_910 3) (decimal 0_984 3)
equation_of letters.J = RootPFourth (decimal 0_0054 4) (whole 25) (whole 670) (decimal 0_875 3) (decimal 0_964 3)
equation_of letters.K = Plain (decimal 0_0077 4) (whole 25) (whole 680) (decimal 0_802 3) (decimal 0_935 3)
equation_of letters.L = Fourth (decimal 0_0026 4) (whole 24) (whole 650) (decimal 0_908 3) (decimal 0_989 3)
equation_of letters.M = FourthRootT (decimal 0_0028 4) (whole 23) (whole 650) (whole 1) (decimal 0_997 3)
equation_of letters.N = Exponential (decimal 0_0031 4) (whole 23) (whole 650) (decimal 0_976 3) (decimal 0_997 3)
equation_of letters.O = RootP (decimal 0_0034 4) (whole 23) (whole 650) (decimal 0_974 3) (decimal 0_996 3)
equation_of letters.P = RootP (decimal 0_0041 4) (whole 23) (whole 650) (decimal 0_972 3) (decimal 0_997 3)
equation_of letters.Q = Fourth (decimal 0_0022 4) (whole 23) (whole 650) (decimal 0_848 3) (decimal 0_983 3)
equation_of letters.R = Plain (decimal 0_0054 4) (whole 23) (whole 650) (decimal 0_874 3) (decimal 0_982 3)
equation_of letters.S = Fourth (decimal 0_0022 4) (whole 21) (whole 640) (decimal 0_886 3) (decimal 0_990 3)
equation_of letters.T = Plain (decimal 0_0088 4) (whole 20) (whole 650) (decimal 0_803 3) (decimal 1_02 2)
equation_of letters.U = Plain (decimal 0_0026 4) (whole 23) (whole 650) (decimal 0_902 3) (decimal 0_988 3)
equation_of letters.«V» = Plain (decimal 0_0031 4) (whole 23) (whole 650) (decimal 0_960 3) (decimal 0_995 3)
equation_of letters.W = Fourth (decimal 0_0039 4) (whole 23) (whole 650) (decimal 0_959 3) (decimal 0_995 3)
equation_of letters.X = Plain (decimal 0_0049 4) (whole 23) (whole 650) (decimal 0_910 3) (decimal 0_988 3)
equation_of letters.Y = Fourth (decimal 0_0031 4) (whole 22) (whole 650) (decimal 0_996 3) (decimal 0_994 3)
equation_of letters.Z = Fourth (decimal 0_0038 4) (whole 22) (whole 650) (decimal 0_993 3) (decimal 0_994 3)

-- the volume at p and t by a letter's equation, inside another call
unfoldable pub volume_at : Letter → Float → Float → Outcome Float
unfolding volume_by
volume_at l p t = volume_by (equation_of l) (summed l) p t
