-- No power of p up to 4 either way is lost, where p is a whole number of 2^-48 and at most 100: it is 0, or from 2^-48 to 2^48. Assumes nothing.
use mathlib.Core.Path.{◌≡◌, refl, sym, subst}
use mathlib.Core.Logic.{inl, inr}
use mathlib.Core.Bool.{true, false}
use Prim.Native.Nat.{ℕ, ◌*◌, ◌^◌, ◌≤◌, ◌<◌}
use native.Mathlib.Nat.{eq-zero-or-pos, le_trans, le_of_eq, mul-le-mul_right, le_of_mul-le-mul_right, mul_right_comm, mul-pos, one-mul}
use native.Mathlib.Omega.{arith}
use lib.Dec.{leb}
use lib.IntN.{ℤ, nat_abs}
use lib.Pow.{pow_pos}
use lib.Ieee.{Float, nan, inf, fin, up, down}
use lib.Ieee.Exact.{HasValue}
use lib.Ieee.Fits.{up_pos}
use borrow.Author.Tests.{leb-true, le-leb, eq-eqb}
use Rattle.common.specs.Outcome.{check}
use Rattle.rules.specs.Power.{power_rule}
use Rattle.rules.specs.RawPower.{raw_power}
use Rattle.rules.proofs.Usual.{power_band, power_zero}
use Rattle.boundaries.specs.Raw.{Bare}
use Rattle.distance.specs.Exact.{Q}

-- over any Q above 0
least : (A D P Q : ℕ) → 0 < P → A * Q ≡ P * D → D ≤ A * Q
least A D P Q p e = le_trans (le_of_eq (sym (one-mul D))) (le_trans (mul-le-mul_right D p) (le_of_eq (sym e)))

most : (A D P N Q : ℕ) → 0 < Q → A * Q ≡ P * D → P ≤ N * Q → A ≤ N * D
most A D P N Q q e l = le_of_mul-le-mul_right (le_trans (le_of_eq e) (le_trans (mul-le-mul_right D l) (le_of_eq (mul_right_comm N Q D)))) q

none : (m u Q D : ℕ) → 0 < u → 0 < Q → m * u * Q ≡ 0 * D → m ≡ 0
none m u Q D up-p q-p e = elim (eq-zero-or-pos m) [ inl z ↦ z | inr p ↦ absurd (clash (m * u * Q) D (mul-pos (mul-pos p up-p) q-p) e) ]
  where
    clash : (x D : ℕ) → 0 < x → x ≡ 0 * D → ⊥
    clash x D p e = omega arith

kept_of : (p : Float) (P N : ℕ) → HasValue p false P Q → P ≤ N * Q → N ≤ 100 → (i : ℤ) → leb (nat_abs i) 4 ≡ true → power_rule p i ≡ check (raw_power p i)
kept_of nan P N h l few i small = absurd h
kept_of (inf s) P N h l few i small = absurd h
kept_of (fin s m e) P N h l few i small =
    let four : nat_abs i ≤ 4 = leb-true (nat_abs i) 4 small in
    let ok : leb (nat_abs i) 64 ≡ true = le-leb (nat_abs i) 64 (omega arith) in
    elim (eq-zero-or-pos P) [
      | inl z ↦ power_zero (fin s m e) i (eq-eqb m 0
          (none m (up e) Q (down e) (up_pos e) (pow_pos 48) (subst (λ (x : ℕ). m * up e * Q ≡ x * down e) z h.1))) ok
      | inr q ↦
          power_band 48 (fin s m e) i
          (record {
            kept = refl;
            least = least (m * up e) (down e) P Q q h.1;
            most = le_trans (most (m * up e) (down e) P N Q (pow_pos 48) h.1 l)
                (mul-le-mul_right (down e) (le_trans few hundred));
          })
          ok (omega arith)
    ]
  where
    hundred : 100 ≤ 2 ^ 48
    hundred = omega arith

pub bare_of : (p : Float) (P N : ℕ) → HasValue p false P Q → P ≤ N * Q → N ≤ 100 → Bare p
bare_of p P N h l few = kept_of p P N h l few
