-- An array of what a closure answers at each index, where it answers f of the index and stays as it is. Assumes nothing.
use mathlib.Core.Path.{◌≡◌, refl, sym, ap, ◌∙◌, subst}
use mathlib.Core.Bool.{Bool, true, false}
use mathlib.Core.List.{List, [], ◌∷◌, ◌++◌, map}
use Prim.Native.Nat.{ℕ, zero, suc, ◌+◌, ◌<◌, ◌≤◌}
use native.Mathlib.Numerals.{add-one}
use native.Mathlib.Omega.{arith}
use lib.Dec.{ltb}
use lib.ListN.{get_or}
use borrow.Author.Tests.{ltb-true, ltb-false}
use denote.Param.Members.{Mut, Called}
use Rattle.std.specs.Array.{IsFromFnResultFrom, IsFromFnResult}
use Rattle.std.specs.List.{range_with_len}
use Rattle.std.proofs.lemmas.List.FromFn.{fill_by_all, map-range_with_len_more}
use Rattle.buffer.specs.Bytes.{joined}

module _ {F A : Type 0} (g : Mut F (ℕ × Unit {0}) A) (c : F) (f : ℕ → A) (pure : (i : ℕ) (x : A) (q : F) → Called g c (i, tt) x q → (q ≡ c) × (x ≡ f i)) (xs : List A) where
  each : (n i : ℕ) → IsFromFnResultFrom g c xs i n → (k : ℕ) (d : A) → i ≤ k → k < i + n → get_or xs k d ≡ f k
  each zero i t k d a b = absurd (omega arith)
  each (suc n) i t k d a b =
      let p = pure i t.1 t.0 t.3 in
      let rest = subst (λ (q : F). IsFromFnResultFrom g q xs (i + 1) n) p.0 t.4 in
      here_or (ltb i k) refl (λ l. each n (i + 1) rest k d l (omega arith))
    where
      here_or : (s : Bool) → ltb i k ≡ s → (i + 1 ≤ k → get_or xs k d ≡ f k) → get_or xs k d ≡ f k
      here_or true e later = let l : i < k = ltb-true i k e in later (omega arith)
      here_or false e later =
          let l : k ≤ i = ltb-false i k e in
          let same : i ≡ k = omega arith in
          rw (← same) (t.2.1 d ∙ (pure i t.1 t.0 t.3).1)

pieces : {A : Type 0} (f : ℕ → A) (n : ℕ) → map f (range_with_len 0 n) ≡ joined (λ k. f k ∷ []) n
unfolding joined
pieces f zero = refl
pieces f (suc n) = ap (λ (m : ℕ). map f (range_with_len 0 m)) (sym (add-one n)) ∙ map-range_with_len_more f 0 n n (omega arith) ∙ ap (λ (l : List _). l ++ f n ∷ []) (pieces f n)

pub made : {F A : Type 0} (g : Mut F (ℕ × Unit {0}) A) (c : F) (f : ℕ → A) (d : A) → ((i : ℕ) (x : A) (q : F) → Called g c (i, tt) x q → (q ≡ c) × (x ≡ f i))
    → (xs : List A) (n : ℕ) → IsFromFnResult g c xs n → xs ≡ joined (λ k. f k ∷ []) n
made g c f d pure xs n r = fill_by_all f xs n d r.long (λ k l. each g c f pure xs n 0 r.each k d (omega arith) (omega arith)) ∙ pieces f n
