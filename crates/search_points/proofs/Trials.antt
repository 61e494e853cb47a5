-- What is found was proposed by the search and accepted by the check. Its trials are counted: their count is the length of the list of trials, and at most 20000.
-- Assumes nothing.
use Prim.Native.Nat.{ℕ, zero, suc, ◌≤◌}
use native.Mathlib.Omega.{arith}
use mathlib.Core.Path.{◌≡◌, ap}
use mathlib.Core.Bool.{Bool, true, false, cond}
use mathlib.Core.List.{List, [], ◌∷◌}
use lib.ListN.{length}
use lib.Ieee.{Float}
use Rattle.std.specs.Prelude.{Option, None, Some}
use Rattle.common.specs.Outcome.{value, refused}
use Rattle.secant.specs.Secant.{max_iter, start_of, turn_of, after_turn, trials_from, last_or, proposal_from, proposal_rule}
use Rattle.secant.specs.declared.Proposal.{Proposal}
use Rattle.secant.specs.declared.Curve.{Curve}
use Rattle.secant.specs.declared.Secant.{Secant}
use Rattle.common.proofs.Calls.{went_on, no_value}
use Rattle.place.specs.AcceptedPlace.{starts_of, proposed_for, in_range, check_on, accepted_at, found_on}

-- the place and the count of a search, by its start points and its list of trials
pub record Trials (curve : Curve) (q : Proposal) : Type 0 where
  pub first : Float
  pub second : Float
  pub are_ends : starts_of curve ≡ value (record { first = first; second = second })
  pub start : Secant
  pub begun : start_of curve first second ≡ value start
  pub places : List Float
  pub are : trials_from curve max_iter start ≡ value places
  pub last : q.place ≡ last_or start.x places
  pub count : q.trials ≡ length places
  pub most : length places ≤ max_iter

module _ (curve : Curve) where
  after : (n : ℕ) (next : Option Secant) (xs : List Float) → ((s : Secant) (ys : List Float) → trials_from curve n s ≡ value ys → length ys ≤ n) → after_turn next (trials_from curve n) ≡ value xs → length xs ≤ suc n
  after n None xs h e = let nil : xs ≡ [] = cc in rw nil (omega arith)
  after n (Some s) xs h e =
      went_on (trials_from curve n s) _ xs _ e (λ ys k g.
      let l = h s ys k in
      let longer : xs ≡ s.x ∷ ys = cc in
      rw longer (omega arith))

  bounded : (n : ℕ) (s : Secant) (xs : List Float) → trials_from curve n s ≡ value xs → length xs ≤ n
  unfolding trials_from
  bounded zero s xs e = let nil : xs ≡ [] = cc in rw nil (omega arith)
  bounded (suc n) s xs e = went_on (turn_of curve s) _ xs _ e (λ next _ k. after n next xs (bounded n) k)

  -- what was found was proposed by the search and accepted by the check
  pub found_trials : (q : Proposal) → found_on curve ≡ value q → Trials curve q
  unfolding found_on proposed_for proposal_rule proposal_from
  found_trials q e =
      went_on (proposed_for curve) _ q _ e (λ q₁ h k.
      went_on (accepted_at curve q₁.place) _ q _ k (λ _ _ g.
      went_on (starts_of curve) _ q₁ _ h (λ ends a h₁.
      went_on (start_of curve ends.first ends.second) _ q₁ _ h₁ (λ start b h₂.
      went_on (trials_from curve max_iter start) _ q₁ _ h₂ (λ xs c h₃.
      let made : ◌≡◌ {A = Proposal} q (record { place = last_or start.x xs; trials = length xs }) = cc in
      record {
        first = ends.first;
        second = ends.second;
        are_ends = a;
        start = start;
        begun = b;
        places = xs;
        are = c;
        last = ap (λ (z : Proposal). z.place) made;
        count = ap (λ (z : Proposal). z.trials) made;
        most = bounded max_iter start xs c;
      })))))

  pub found_accepted : (q : Proposal) (C : Type 0) → found_on curve ≡ value q → ((u : Unit) → accepted_at curve q.place ≡ value u → C) → C
  unfolding found_on
  found_accepted q C e f =
      went_on (proposed_for curve) _ q _ e (λ q₁ h k.
      went_on (accepted_at curve q₁.place) _ q _ k (λ u g l.
      let same : q ≡ q₁ = cc in
      f u (rw same g)))

-- what is accepted has passed the check
pub passed : (curve : Curve) (x : Float) (u : Unit) → accepted_at curve x ≡ value u → check_on curve x ≡ value u
unfolding accepted_at
passed curve x u e = by (in_range curve x) e
  where
    by : (b : Bool) → cond b (check_on curve x) (refused 4) ≡ value u → check_on curve x ≡ value u
    by true k = k
    by false k = absurd (no_value k)
