-- An answer is determined by the paper's number and value, so a contract `paper r ≡ rule arguments` admits one answer. Assumes nothing.
use mathlib.Core.Path.{◌≡◌, refl, sym, ap, ◌∙◌}
use Prim.Native.Nat.{ℕ}
use mathlib.Core.List.{List, [], ◌∷◌}
use lib.ListN.{get_or}
use contract.Lifetimes.{Lfts}
use denote.Triple.Clauses.{AtExit}
use borrow.Fn.Kinds.{ParamKind, ResultKind, Out, Dens, ended_of, res_t}
use Rattle.common.specs.Outcome.{Outcome, value, refused}
use Rattle.std.specs.Prelude.{Result, Ok, Err}
use Rattle.common.specs.Answer.{paper, number_of}
use Rattle.common.specs.declared.Refusal.{Refusal}
use Rattle.common.specs.declared.Refusal.TheVariants.{NotFinite, First, Second, State, Step, Property, Columns, Border, Unfound}

-- the refusals by their numbers, from 0 on; Step stands where no refusal has the number
kinds : List Refusal
kinds =
    Step ∷ NotFinite ∷ First ∷ Second ∷ State ∷ Step ∷ Property ∷ Columns ∷ Border ∷ Step
    ∷ Step ∷ Step ∷ Step ∷ Step ∷ Step ∷ Unfound ∷ []

pub kind_of : ℕ → Refusal
unfolding kinds
kind_of n = get_or kinds n Step

pub kind_number : (k : Refusal) → kind_of (number_of k) ≡ k
unfolding kind_of kinds
kind_number NotFinite = refl
kind_number First = refl
kind_number Second = refl
kind_number State = refl
kind_number Step = refl
kind_number Property = refl
kind_number Columns = refl
kind_number Border = refl
kind_number Unfound = refl

-- what has a way back from the paper's number and value is determined by them
pub same : {R O : Type 0} (f : R → O) (g : O → R) → ((r : R) → g (f r) ≡ r) → (o : O) (r s : R) → f r ≡ o → f s ≡ o → r ≡ s
same f g back o r s p q = sym (back r) ∙ ap g (p ∙ sym q) ∙ back s

module _ {A : Type 0} where
  result_of : Outcome A → Result A Refusal
  result_of (value x) = Ok x
  result_of (refused k) = Err (kind_of k)

  result_back : (r : Result A Refusal) → result_of (paper r) ≡ r
  unfolding result_of
  result_back (Ok x) = refl
  result_back (Err k) = ap Err (kind_number k)

  pub same_result : (o : Outcome A) (r s : Result A Refusal) → paper r ≡ o → paper s ≡ o → r ≡ s
  same_result = same paper result_of result_back

-- of any arguments, a contract admits one result (for a function with no `&mut`)
abbrev pub One : (n : ℕ) (ps : List (ParamKind n)) (r : ResultKind n) → Out n ps r → Type 0
One n ps r post =
    (κs : Lfts n) (a : Dens κs ps) (e : AtExit (ended_of n ps r) κs) (x y : (res_t r κs).Denot) → post κs a x e → post κs a y e → x ≡ y

-- of any arguments, a contract admits one value of what its result lends
abbrev pub OneLent : (n : ℕ) (ps : List (ParamKind n)) (r : ResultKind n) → Out n ps r → {A : Type 0} → ((κs : Lfts n) → (res_t r κs).Denot → A) → Type 0
OneLent n ps r post behind =
    (κs : Lfts n) (a : Dens κs ps) (e : AtExit (ended_of n ps r) κs) (x y : (res_t r κs).Denot) → post κs a x e → post κs a y e → behind κs x ≡ behind κs y
