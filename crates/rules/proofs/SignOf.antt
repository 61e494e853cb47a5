-- The sign of n: r itself, 1/r as f leaves it, or r where that is lost; and how large |n| is. Assumes nothing.
use mathlib.Core.Path.{◌≡◌, refl, sym, ap, ◌∙◌}
use mathlib.Core.Bool.{true, false}
use Prim.Native.Nat.{ℕ, suc, ◌<◌, ◌^◌}
use native.Mathlib.Omega.{arith}
use lib.IntN.{ℤ, pos, negsuc, nat_abs}
use lib.Signed.{lt_z}
use lib.Ieee.{Float, nan, inf, fin, binary64, size, div}
use lib.Ieee.Digits.{size-lt}
use mir.Syntax.{w32}
use mir.Val.{SFits, to_z, of_z}
use mir.ValLaws.{to_z-of_z}
use borrow.Author.Tests.{ltb-true}
use Rattle.common.specs.Outcome.{finite}
use Rattle.common.proofs.Laws.{never}
use Rattle.rules.specs.Power.{one, lowest, bits}
use Rattle.rules.specs.RawPower.{over_bits, by_sign_of}
use Rattle.rules.proofs.Powers.{enough}

pub small : (z : ℤ) → SFits w32 z → nat_abs z < 2 ^ 32
small (pos a) f = omega arith
small (negsuc a) f = omega arith

module _ (g : Float → Float) where
  -- m is |n|, and r what comes of all its bits
  pub all_bits : (n : ℤ) → SFits w32 n → (a r : Float) (m : ℕ) → m ≡ nat_abs (to_z w32 (of_z w32 n)) → ((k : ℕ) → m < 2 ^ suc k → r ≡ over_bits g one a (lowest (suc k) m))
      → r ≡ over_bits g one a (bits (nat_abs n))
  all_bits n s a r m e h =
      let same : m ≡ nat_abs n = e ∙ ap nat_abs (to_z-of_z w32 n s) in
      let l : nat_abs n < 2 ^ 32 = small n s in
      h 31 (omega arith) ∙ ap (λ (m : ℕ). over_bits g one a (lowest 32 m)) same ∙ enough g 32 (size (nat_abs n)) one a (nat_abs n) l (size-lt (nat_abs n))

  pub whole : (n : ℤ) (r : Float) → lt_z n (pos 0) ≡ false → by_sign_of g n r ≡ r
  whole (pos a) r h = refl
  whole (negsuc a) r h = never h

  pub inverse : (n : ℤ) (r : Float) → lt_z n (pos 0) ≡ true → finite r ≡ true → by_sign_of g n r ≡ g (div binary64 one r)
  inverse (pos a) r h f = let l : a < 0 = ltb-true a 0 h in absurd (omega arith)
  inverse (negsuc a) nan h f = never (sym f)
  inverse (negsuc a) (inf s) h f = never (sym f)
  inverse (negsuc a) (fin s m e) h f = refl

  pub lost : (n : ℤ) (r : Float) → finite r ≡ false → by_sign_of g n r ≡ r
  lost (pos a) r f = refl
  lost (negsuc a) nan f = refl
  lost (negsuc a) (inf s) f = refl
  lost (negsuc a) (fin s m e) f = never f
