-- What a check that accepts has shown, whoever proposed the state: T and d are in their ranges, the property is worked there, and its rounded difference from the
-- asked one is at most 1e-6. Assumes nothing.
use mathlib.Core.Path.{◌≡◌, refl}
use mathlib.Core.Bool.{Bool, true, false, cond}
use Prim.Native.Nat.{ℕ}
use lib.Ieee.{Float, nan, inf, fin, binary64, sub, le}
use Rattle.common.specs.Outcome.{Outcome, value, refused, finite, check}
use Rattle.common.specs.Formula.{◌⊖◌, size_of}
use Rattle.common.specs.Range.{Td_box}
use Rattle.common.proofs.Calls.{no_value, went_on}
use Rattle.properties.specs.Td.{Td2h, Td2s, state_pressure}
use Rattle.checks.specs.Checks.{NEAR, held_to, asked_box, check_p_rule, check_h_rule, check_s_rule}

-- the property that was worked is within 1e-6 of the asked y
pub record Within (worked : Outcome Float) (y : Float) : Type 0 where
  pub number : Float
  pub is : worked ≡ value number
  pub near : le (size_of (sub binary64 number y)) NEAR ≡ true

taken : {A : Type 0} (b : Bool) (x : A) (n : ℕ) (u : A) → cond b (value x) (refused n) ≡ value u → b ≡ true
taken true x n u e = refl
taken false x n u e = absurd (no_value e)

checked_is : (x z : Float) → check x ≡ value z → x ≡ z
checked_is nan z e = absurd (no_value e)
checked_is (inf s) z e = absurd (no_value e)
checked_is (fin s m k) z e = cc

pub held : (y : Float) (worked : Outcome Float) (u : Unit) → held_to y worked ≡ value u → Within worked y
unfolding held_to
held y worked u e =
    went_on (worked ⊖ value y) _ u _ e (λ z h k.
    went_on worked (λ x. check (sub binary64 x y)) z _ h (λ x g l.
    let i : sub binary64 x y ≡ z = checked_is (sub binary64 x y) z l in
    record { number = x; is = g; near = rw i (taken (le (size_of z) NEAR) tt 15 u k) }))

module _ (t d : Float) where
  -- the arguments that a check takes are in the box of (T,d)
  pub in_box : (y : Float) (u : Unit) → asked_box t d y ≡ value u → Td_box t d ≡ value u
  in_box y u e = by (finite y) e
    where
      by : (b : Bool) → cond b (Td_box t d) (refused 1) ≡ value u → Td_box t d ≡ value u
      by true k = k
      by false k = absurd (no_value k)

  pub p_within : (p : Float) (u : Unit) → check_p_rule t d p ≡ value u → Within (state_pressure (check t) (check d)) p
  unfolding check_p_rule
  p_within p u e = went_on (asked_box t d p) _ u _ e (λ _ _ k. held p _ u k)

  pub h_within : (h : Float) (u : Unit) → check_h_rule t d h ≡ value u → Within (Td2h (check t) (check d)) h
  unfolding check_h_rule
  h_within h u e = went_on (asked_box t d h) _ u _ e (λ _ _ k. held h _ u k)

  pub s_within : (s : Float) (u : Unit) → check_s_rule t d s ≡ value u → Within (Td2s (check t) (check d)) s
  unfolding check_s_rule
  s_within s u e = went_on (asked_box t d s) _ u _ e (λ _ _ k. held s _ u k)
