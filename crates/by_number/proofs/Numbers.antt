-- The property of a number: which formula a known number has, that any other has none, and what an arm of the match answers.
use mathlib.Core.Path.{◌≡◌, refl, sym, ap, ◌∙◌}
use mathlib.Core.Bool.{false}
use mathlib.Core.List.{List, [], ◌∷◌}
use Prim.Native.Nat.{ℕ}
use lib.IntN.{ℤ, pos, negsuc}
use lib.Ieee.{Float}
use mir.Syntax.{w32}
use mir.Val.{SFits, of_z, to_z}
use mir.Facts.{to_z-of_z}
use borrow.Author.Tests.{ne_eqb}
use Rattle.common.specs.Outcome.{Outcome, refused, check, then}
use Rattle.common.proofs.Arms.{Rest, NoneOf, none_of}
use Rattle.common.specs.Number.{Number}
use Rattle.properties.specs.Td.{Formula, Td2cp, Td2w}
use Rattle.properties.specs.Together.{CpAndW}
use Rattle.properties.proofs.Together.{cp_half, w_half}
use Rattle.by_number.specs.Property.{Named, named, is_number, properties, formula_in, property_rule, boxed, called}
use Rattle.by_number.specs.Together.{cp_and_w_rule}

-- the numbers of a list of properties
abbrev pub keys : List Named → List ℕ
keys [] = []
keys (named k f ∷ rs) = k ∷ keys rs

other : (k : ℕ) (n : ℤ) → (of_z w32 n ≡ k → ⊥) → is_number k n ≡ false
other k (pos m) h = ne_eqb m k h
other k (negsuc m) h = refl

none : (n : ℤ) (ns : List Named) → NoneOf (of_z w32 n) (keys ns) → formula_in ns n ≡ refused 6
none n [] p = refl
none n (named k f ∷ ns) p = rw (other k n p.0) (none n ns p.1)

-- a number that is none of the 25, as the last arm of the match knows it
pub unknown : (n : ℤ) (t d : Float) → Rest Unit (of_z w32 n) (keys properties) → refused 6 ≡ property_rule n t d
unknown n t d p = sym (ap (λ (o : Outcome Formula). then o (λ f. called f t d)) (none n properties (none_of (of_z w32 n) (keys properties) p)))

-- what the arm for k answers, for a number with the bits of k, as the match goes by them
module _ (t d : Float) {n : ℤ} {k : ℕ} (f : SFits w32 n) (h : of_z w32 n ≡ k) where
  numbered : property_rule n t d ≡ property_rule (to_z w32 k) t d
  numbered = ap (λ (m : ℤ). property_rule m t d) (sym (to_z-of_z f) ∙ ap (to_z w32) h)

  pub arm : {q a o : Outcome Float} → q ≡ boxed t d a → a ≡ o → property_rule (to_z w32 k) t d ≡ boxed t d o → q ≡ property_rule n t d
  arm e a r = e ∙ ap (boxed t d) a ∙ sym r ∙ sym numbered

  pub raw_arm : {q o : Outcome Float} {r : Float} → q ≡ boxed t d (check r) → Number o r → property_rule (to_z w32 k) t d ≡ boxed t d o → q ≡ property_rule n t d
  raw_arm e a = arm e (sym a.raw.is)

  -- what a half of the joint call answers is what its property does
  pub arm_cp : {r : CpAndW} → r ≡ cp_and_w_rule t d → property_rule (to_z w32 k) t d ≡ called Td2cp t d → r.cp ≡ property_rule n t d
  arm_cp e = arm (ap (λ (r : CpAndW). r.cp) e) (cp_half t d)

  pub arm_w : {r : CpAndW} → r ≡ cp_and_w_rule t d → property_rule (to_z w32 k) t d ≡ called Td2w t d → r.w ≡ property_rule n t d
  arm_w e = arm (ap (λ (r : CpAndW). r.w) e) (w_half t d)
