-- Columns and lines row by row. Assumes nothing.
use mathlib.Core.Path.{◌≡◌, refl, sym, ap, ◌∙◌, subst}
use mathlib.Core.List.{List, [], ◌∷◌, ◌++◌}
use mathlib.Core.Logic.{◌⊎◌, inl, inr}
use Prim.Native.Nat.{ℕ, zero, suc, ◌+◌, ◌<◌, ◌≤◌}
use native.Mathlib.Nat.{zero-add, not-suc-le-zero, le_of_suc-le-suc, eq-or-lt_of_le, ne_of_lt}
use native.Mathlib.Numerals.{add-one}
use native.Mathlib.Omega.{arith}
use lib.ListN.{length, get_or, set, length-append}
use lib.Seq.{sets, lt-length-sets, get_or-set_same, get_or-set_other}
use lib.Ieee.{Float, nan}
use Rattle.common.specs.Outcome.{Outcome}
use Rattle.subregion.specs.declared.Letter.{Letter}
use Rattle.boundary.specs.Choice.{letter_rule}
use Rattle.buffer.specs.Bytes.{joined}
use Rattle.buffer.proofs.Laws.{sets_then, joined_more}
use Rattle.text.specs.Text.{Wrote}
use Rattle.text.proofs.Laws.{wrote_then}
use Rattle.rows.specs.Lines.{line_of, lines_of, block_of, p_at, t_at, p_column, t_column}

-- ---- rows

column_length : {A : Type 0} (g : ℕ → A) (n : ℕ) → length (joined (λ i. g i ∷ []) n) ≡ n
unfolding joined
column_length g zero = refl
column_length g (suc n) = length-append (joined (λ i. g i ∷ []) n) (g n ∷ []) ∙ ap (λ (k : ℕ). k + 1) (column_length g n) ∙ add-one n

pub column_more : {A : Type 0} (l : List A) (g : ℕ → A) (i : ℕ) (v : A) → v ≡ g i →
    set (sets l 0 (joined (λ k. g k ∷ []) i)) i v ≡ sets l 0 (joined (λ k. g k ∷ []) (i + 1))
column_more {A} l g i v e =
    ap (λ (x : A). set (sets l 0 (joined (λ k. g k ∷ []) i)) i x) e
    ∙ sets_then (joined (λ k. g k ∷ []) i) (g i ∷ []) l 0 i (sym (zero-add _ ∙ column_length g i))
    ∙ ap (λ (xs : List A). sets l 0 xs) (sym (joined_more (λ k. g k ∷ []) i))

pub joined_same : {A : Type 0} (f g : ℕ → List A) (n : ℕ) → ((i : ℕ) → i < n → f i ≡ g i) → joined f n ≡ joined g n
unfolding joined
joined_same f g zero h = refl
joined_same {A} f g (suc n) h =
    let a : joined f n ≡ joined g n = joined_same f g n (λ i l. h i (omega arith)) in
    let b : f n ≡ g n = h n (omega arith) in
    rw (a, b)

-- what a column holds at a row
column_at : {A : Type 0} (l : List A) (g : ℕ → A) (n i : ℕ) (d : A) → n ≤ length l → i < n → get_or (sets l 0 (joined (λ k. g k ∷ []) n)) i d ≡ g i
unfolding joined
column_at l g zero i d r h = absurd (not-suc-le-zero h)
column_at {A} l g (suc n) i d r h =
    ap (λ (xs : List A). get_or xs i d) (sym (column_more l g n (g n) refl ∙ ap (λ (k : ℕ). sets l 0 (joined (λ j. g j ∷ []) k)) (add-one n)))
    ∙ go (sets l 0 (joined (λ k. g k ∷ []) n)) (lt-length-sets l 0 (joined (λ k. g k ∷ []) n) r) (eq-or-lt_of_le (le_of_suc-le-suc h)) (λ k. column_at l g n i d (omega arith) k)
  where
    go : (m : List A) → n < length m → (i ≡ n) ⊎ (i < n) → (i < n → get_or m i d ≡ g i) → get_or (set m n (g n)) i d ≡ g i
    go m len (inl e) f = ap (λ (k : ℕ). get_or (set m n (g n)) k d) e ∙ get_or-set_same m n (g n) d len ∙ ap g (sym e)
    go m len (inr k) f = get_or-set_other m n i (g n) d (ne_of_lt k) ∙ f k

-- ---- the lines of the rows

pub lines_none : (done : ℕ) (p t : List Float) (out : List ℕ) → Wrote out 0 (lines_of done p t 0) out 0
unfolding lines_of joined
lines_none done p t out = record { ends = refl; holds = refl }

-- one row more
pub lines_step : (done : ℕ) (p t : List Float) (i : ℕ) {l m k : List ℕ} {at r : ℕ} (row : ℕ) (o : Outcome Letter) →
    row ≡ done + i → o ≡ letter_rule (get_or p i nan) (get_or t i nan) →
    Wrote l 0 (lines_of done p t i) m at → Wrote m at (line_of (row + 1) o) k r → Wrote l 0 (lines_of done p t (i + 1)) k r
unfolding lines_of
lines_step done p t i {l} {m} {k} {at} {r} row o e f a b =
    subst (λ (xs : List ℕ). Wrote l 0 xs k r)
    (ap (λ (x : ℕ). lines_of done p t i ++ line_of (x + 1) o) e
    ∙ ap (λ (x : Outcome Letter). lines_of done p t i ++ line_of (done + i + 1) x) f
    ∙ sym (joined_more (λ j. line_of (done + j + 1) (letter_rule (get_or p j nan) (get_or t j nan))) i))
    (wrote_then a b)

-- the lines of the columns that the bytes hold are the lines of the bytes
pub lines_of_bytes : (done : ℕ) (s : List ℕ) (n : ℕ) (p t : List Float) → n ≤ length p → n ≤ length t →
    lines_of done (sets p 0 (p_column s n)) (sets t 0 (t_column s n)) n ≡ block_of done s n
unfolding lines_of block_of
lines_of_bytes done s n p t hp ht =
    joined_same _ _ n
    (λ i l. ap (λ (x : Float). line_of (done + i + 1) (letter_rule x (get_or (sets t 0 (t_column s n)) i nan))) (column_at p (p_at s) n i nan hp l)
    ∙ ap (λ (x : Float). line_of (done + i + 1) (letter_rule (p_at s i) x)) (column_at t (t_at s) n i nan ht l))
