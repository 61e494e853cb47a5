-- Points of the rule by number, worked out by antt. At T = 750 K and d = 500 kg/m3, where table 33 prints p, h, u, s, cp and w, each of the 25 numbers
-- has a value that no other has: those of the numbers beyond table 33 are worked by the relations of thermodynamics, apart from the program.
-- OPC and OALFAP are one quantity by two formulas, and differ in the last bit. Then the refusals in their order: 6 before 1, 2, 3.
use mathlib.Core.Path.{◌≡◌, refl}
use mathlib.Core.Bool.{true, false}
use mathlib.Core.List.{List, [], ◌∷◌, map}
use lib.IntN.{pos, negsuc}
use lib.Ieee.{Float, nan, inf, round, neg, add, sub, sum, mul, div, of_int, le}
use Rattle.common.specs.Outcome.{number_in}
use Rattle.common.specs.Decimal.{scaled, decimal, whole, plus, minus}
use Rattle.common.specs.Sum.{total, every}
use Rattle.inverses.specs.Units.{in_units}
use Rattle.rules.specs.Power.{power_rule}
use Rattle.inverses.specs.Log.{logarithm_rule, L}
use Rattle.rules.specs.Exp.{exponential_rule}
use Rattle.inverses.specs.Root.{root_rule, nearest_root, whole_root}
use Rattle.algo.specs.Table.{sum_rule}
use Rattle.algo.specs.Joint.{share_rule}
use Rattle.printed.specs.Table30.{table30}
use Rattle.helmholtz.specs.Hfe.{slope, share, phi, phi_delta, phi_deltadelta, joint_phi, joint_delta, four_delta, four_deltadelta}
use Rattle.properties.specs.Td.{Td2v, Td2p, Td2h, Td2u, Td2s, Td2cv, Td2cp, Td2w, state_pressure}
use Rattle.extended.specs.Ext.{Td2f, Td2g, Td2kt, Td2ec, Td2joule, Td2iJTC, Td2dvdpct, Td2dpdtcv, Td2dvdtcp, Td2e, Td2fi}
use Rattle.extended_with_p.specs.WithP.{Td2z, Td2ks, Td2pc, Td2batap, Td2fu, Td2alfap}
use Rattle.common.proofs.Printed.{Value, prints, prints_minus, agrees}
use Rattle.by_number.specs.Property.{boxed, property_rule}

abbrev T : Float
T = whole 750

abbrev d : Float
d = whole 500

pub values : List Value
values =
    prints (property_rule (pos 0) T d) 78_3095639 7  -- OP
    ∷ prints (property_rule (pos 3) T d) 0_00200000000 11  -- OV
    ∷ prints (property_rule (pos 4) T d) 2258_68845 5  -- OH
    ∷ prints (property_rule (pos 5) T d) 4_46971906 8  -- OS
    ∷ prints (property_rule (pos 6) T d) 928_679147 6  -- OE
    ∷ prints (property_rule (pos 7) T d) 2102_06932 5  -- OU
    ∷ prints (property_rule (pos 8) T d) 6_34165359 8  -- OCP
    ∷ prints (property_rule (pos 9) T d) 2_71701677 8  -- OCV
    ∷ prints (property_rule (pos 10) T d) 760_696041 6  -- OW
    ∷ prints (property_rule (pos 11) T d) 3_69468579 8  -- OKS
    ∷ prints_minus (property_rule (pos 12) T d) 1250_21997 5  -- OF
    ∷ prints_minus (property_rule (pos 13) T d) 1093_60085 5  -- OG
    ∷ prints (property_rule (pos 14) T d) 0_452467475 9  -- OZ
    ∷ prints (property_rule (pos 17) T d) 0_00441515098 11  -- OEC
    ∷ prints (property_rule (pos 18) T d) 0_00806710817 11  -- OKT
    ∷ prints (property_rule (pos 19) T d) 0_00000883030197 14  -- ODVDT
    ∷ prints_minus (property_rule (pos 20) T d) 0_0000161342163 13  -- ODVDP
    ∷ prints (property_rule (pos 21) T d) 0_547302812 9  -- ODPDT
    ∷ prints_minus (property_rule (pos 22) T d) 0_00462272648 11  -- OIJTC
    ∷ prints (property_rule (pos 23) T d) 0_728946545 9  -- OJTC
    ∷ prints (property_rule (pos 31) T d) 0_00698896513553637702 20  -- OPC
    ∷ prints (property_rule (pos 32) T d) 791_475213 6  -- OBETAP
    ∷ prints (property_rule (pos 33) T d) 0_0424521959 10  -- OFI
    ∷ prints (property_rule (pos 34) T d) 3_32441295 8  -- OFU
    ∷ prints (property_rule (pos 35) T d) 0_00698896513553637615 20  -- OALFAP
    ∷ []

pub values_agree : every agrees values ≡ true
unfolding values every boxed Td2v Td2p Td2h Td2u Td2s Td2cv Td2cp Td2w state_pressure Td2f Td2g Td2z Td2ks Td2kt Td2ec Td2joule Td2iJTC Td2pc Td2dvdpct Td2dpdtcv Td2dvdtcp Td2e Td2batap Td2fi Td2fu Td2alfap slope share phi phi_delta phi_deltadelta joint_phi joint_delta four_delta four_deltadelta table30 sum_rule share_rule total power_rule root_rule nearest_root whole_root logarithm_rule L exponential_rule in_units scaled decimal whole plus minus round neg add sub sum mul div of_int le
values_agree = refl

-- no property has the numbers 1, 2, 15, 16, 24, 30, 36 and -1, whatever T and d are; a lost T or d is refused with 1, T with 2, d with 3
pub refusals : map number_in
    (property_rule (pos 1) T d ∷ property_rule (pos 2) T d ∷ property_rule (pos 15) T d ∷ property_rule (pos 16) T d ∷ property_rule (pos 24) T d ∷ property_rule (pos 30) T d
    ∷ property_rule (pos 36) T d ∷ property_rule (negsuc 0) T d ∷ property_rule (pos 1) nan d ∷ property_rule (pos 1) T (whole 99)
    ∷ property_rule (pos 4) nan (whole 99) ∷ property_rule (pos 4) (whole 600) (inf false) ∷ property_rule (pos 4) (whole 600) (whole 99) ∷ property_rule (pos 4) T (whole 99) ∷ [])
    ≡ 6 ∷ 6 ∷ 6 ∷ 6 ∷ 6 ∷ 6 ∷ 6 ∷ 6 ∷ 6 ∷ 6 ∷ 1 ∷ 1 ∷ 2 ∷ 3 ∷ []
unfolding boxed le decimal whole scaled
refusals = refl
