-- A call whose first step is handed on by `?` goes on with its steps, or answers that step's refusal; and a call that answers a value went through every step.
-- Assumes nothing.
use mathlib.Core.Path.{◌≡◌, refl, sym}
use Prim.Native.Nat.{ℕ}
use native.Mathlib.Omega.{arith}
use Rattle.common.specs.Outcome.{Outcome, value, refused, then}
use Rattle.std.specs.Prelude.{Result, IsErrAnd}
use Rattle.std.proofs.lemmas.Result.{err_from_is_err_and}
use Rattle.common.specs.Answer.{paper, number_of}
use Rattle.common.specs.declared.Refusal.{Refusal}

-- a call whose first step was `s()?`: it goes on from the step's value, or passes its refusal on
module _ {A B : Type 0} {o : Outcome A} where
  pub went_in : {x : A} (f : A → Outcome B) → value x ≡ o → then o f ≡ f x
  went_in f e = rw (sym e)

  pub passed_on : (f : A → Outcome B) (r : Result B Refusal) (k : Refusal) → IsErrAnd r (λ e. e ≡ k) → refused (number_of k) ≡ o → paper r ≡ then o f
  passed_on f r k h e = let p = err_from_is_err_and r h in rw (p.1, p.2) (rw (sym e))

-- a refusal is no value
pub no_value : {A : Type 0} {x : A} {k : ℕ} → ◌≡◌ {A = Outcome A} (refused k) (value x) → ⊥
no_value e = let z : ◌≡◌ {A = ℕ} 0 1 = cc in omega arith

-- where a step goes on to a value, it gave one
pub went_on : {A B : Type 0} (o : Outcome A) (f : A → Outcome B) (b : B) (C : Type 0) → then o f ≡ value b → ((a : A) → o ≡ value a → f a ≡ value b → C) → C
went_on (value a) f b C e k = k a refl e
went_on (refused n) f b C e k = absurd (no_value e)
