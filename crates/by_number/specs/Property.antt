-- To believe: the calls at a T and a d, a property by itself (`called`) and by its number (`property_rule`), with the list of the 25 numbers.
use Rattle.std.specs.Prelude.{ℕ, Bool, false, cond, List, [], ◌∷◌, eqb, ℤ, pos, negsuc, Float}
use Rattle.common.specs.Outcome.{Outcome, value, refused, check, then}
use Rattle.common.specs.Range.{Td_box}
use Rattle.properties.specs.Td.{Formula, Td2v, Td2h, Td2s, Td2u, Td2cv, Td2cp, Td2w, state_pressure}
use Rattle.extended.specs.Ext.{Td2f, Td2g, Td2kt, Td2ec, Td2joule, Td2iJTC, Td2dvdpct, Td2dpdtcv, Td2dvdtcp, Td2e, Td2fi}
use Rattle.extended_with_p.specs.WithP.{Td2z, Td2ks, Td2pc, Td2batap, Td2fu, Td2alfap}

-- the checks 1, 2, 3 of T and d, then the steps of o
unfoldable pub boxed : {A : Type 0} → Float → Float → Outcome A → Outcome A
boxed t d o = then (Td_box t d) (λ _. o)

-- a formula at T and d
abbrev pub called : Formula → Float → Float → Outcome Float
called f t d = boxed t d (f (check t) (check d))

pub data Named : Type 0 where
  named : ℕ → Formula → Named

-- the 25 numbers of common/property_id.rs that `Td_thermal_reg3` and `Td_ext_reg3` name
abbrev pub properties : List Named
properties =
    named 0 state_pressure ∷  -- OP
    named 3 Td2v ∷  -- OV
    named 4 Td2h ∷  -- OH
    named 5 Td2s ∷  -- OS
    named 6 Td2e ∷  -- OE
    named 7 Td2u ∷  -- OU
    named 8 Td2cp ∷  -- OCP
    named 9 Td2cv ∷  -- OCV
    named 10 Td2w ∷  -- OW
    named 11 Td2ks ∷  -- OKS
    named 12 Td2f ∷  -- OF
    named 13 Td2g ∷  -- OG
    named 14 Td2z ∷  -- OZ
    named 17 Td2ec ∷  -- OEC
    named 18 Td2kt ∷  -- OKT
    named 19 Td2dvdtcp ∷  -- ODVDT
    named 20 Td2dvdpct ∷  -- ODVDP
    named 21 Td2dpdtcv ∷  -- ODPDT
    named 22 Td2iJTC ∷  -- OIJTC
    named 23 Td2joule ∷  -- OJTC
    named 31 Td2pc ∷  -- OPC
    named 32 Td2batap ∷  -- OBETAP
    named 33 Td2fi ∷  -- OFI
    named 34 Td2fu ∷  -- OFU
    named 35 Td2alfap ∷  -- OALFAP
    []

abbrev pub is_number : ℕ → ℤ → Bool
is_number k (pos n) = eqb n k
is_number k (negsuc n) = false

-- the formula of a number, or 6 where it is none of them
abbrev pub formula_in : List Named → ℤ → Outcome Formula
formula_in [] n = refused 6
formula_in (named k f ∷ rs) n = cond (is_number k n) (value f) (formula_in rs n)

-- a property by number: 6 comes before 1, 2, 3
abbrev pub property_rule : ℤ → Float → Float → Outcome Float
property_rule n t d = then (formula_in properties n) (λ f. called f t d)
