-- Runs of stores joined, pieces joined, the bytes of a number and their room, and NaN patterns. Assumes nothing.
use mathlib.Core.Path.{◌≡◌, refl, sym, ap, ◌∙◌}
use mathlib.Core.Bool.{true, false}
use mathlib.Core.List.{List, [], ◌∷◌, ◌++◌, append-nil, append_assoc}
use Prim.Native.Nat.{ℕ, zero, suc, ◌+◌, ◌*◌, ◌%◌, ◌≤◌, ◌<◌}
use native.Mathlib.Nat.{add-zero, add_assoc, add-suc, suc-add, mul-suc}
use native.Mathlib.Numerals.{add-one}
use native.Mathlib.Omega.{arith}
use lib.Dec.{ltb, lit<}
use lib.ListN.{length, get_or, set, take, drop, length-append, drop_of_length-le}
use lib.Seq.{sets, sets-eq}
use Rattle.std.proofs.lemmas.List.{drop-drop}
use lib.Ieee.{Float, nan, inf, fin, Format, of_bits, is_nan, ones, hid, top}
use lib.Ieee.Bits.{nan_bits_is, nan_bits_above}
use borrow.Author.Tests.{le-leb}
use borrow.Rule.Slice.PartMut.{put_mid}
use mir.Syntax.{w32, w64}
use Rattle.std.specs.Int.{from_le_bytes}
use Rattle.buffer.specs.Bytes.{joined, half_at, word_at, placed}

-- ---- runs of stores

pub sets_append : {A : Type 0} (xs ys l : List A) (i : ℕ) → sets (sets l i xs) (i + length xs) ys ≡ sets l i (xs ++ ys)
sets_append [] ys l i = ap (λ (k : ℕ). sets l k ys) (add-zero i)
sets_append (a ∷ xs) ys l i =
    ap (λ (k : ℕ). sets (sets (set l i a) (suc i) xs) k ys) (add-suc i (length xs) ∙ sym (suc-add i (length xs)))
    ∙ sets_append xs ys (set l i a) (suc i)

-- the run `ys` at `at`, the place where the run `xs` from i ends
pub sets_then : {A : Type 0} (xs ys l : List A) (i at : ℕ) → at ≡ i + length xs → sets (sets l i xs) at ys ≡ sets l i (xs ++ ys)
sets_then xs ys l i at e = ap (λ (k : ℕ). sets (sets l i xs) k ys) e ∙ sets_append xs ys l i

-- a run as long as the list replaces it
pub sets_all : {A : Type 0} (l xs : List A) → length l ≡ length xs → sets l 0 xs ≡ xs
sets_all {A} l xs e =
    let h : length l ≤ 0 + length xs = omega arith in
    sets-eq xs l 0 (omega arith)
    ∙ ap (λ (r : List A). xs ++ r) (drop_of_length-le l h)
    ∙ append-nil xs

-- a run that lies in the bytes is stored
pub placed_all : (s : List ℕ) (i : ℕ) (xs : List ℕ) → i + length xs ≤ length s → placed s i xs ≡ sets s i xs
placed_all s i xs h = rw (le-leb (i + length xs) (length s) h)

-- ---- pieces

pub joined_more : {A : Type 0} (f : ℕ → List A) (n : ℕ) → joined f (n + 1) ≡ joined f n ++ f n
unfolding joined
joined_more f n = ap (joined f) (add-one n)

pub joined_length : {A : Type 0} (f : ℕ → List A) (b n : ℕ) → ((i : ℕ) → length (f i) ≡ b) → length (joined f n) ≡ b * n
unfolding joined
joined_length f b zero h = omega arith
joined_length f b (suc n) h =
    let r : length (joined f n) ≡ b * n = joined_length f b n h in
    simp (length-append, mul-suc) (omega (arith, h n))

-- pieces of one length, stored one after the other
pub pieces_more : {A : Type 0} (f : ℕ → List A) (b : ℕ) → ((i : ℕ) → length (f i) ≡ b) →
    (l m : List A) (i k at : ℕ) → m ≡ sets l i (joined f k) → at ≡ i + b * k → sets m at (f k) ≡ sets l i (joined f (k + 1))
pieces_more {A} f b size l m i k at e h =
    ap (λ (x : List A). sets x at (f k)) e
    ∙ sets_then (joined f k) (f k) l i at (h ∙ ap (λ (n : ℕ). i + n) (sym (joined_length f b k size)))
    ∙ ap (λ (x : List A). sets l i x) (sym (joined_more f k))

-- bytes written over a part of a list
pub put_mid_sets : {A : Type 0} (l xs : List A) (i k : ℕ) → k ≡ length xs → i + length xs ≤ length l → put_mid i k l xs ≡ sets l i xs
put_mid_sets {A} l xs i k e h =
    ap (λ (r : List A). take i l ++ (xs ++ r)) (drop-drop k i l ∙ ap (λ (n : ℕ). drop (i + n) l) e)
    ∙ sym (append_assoc (take i l) xs (drop (i + length xs) l))
    ∙ sym (sets-eq xs l i h)

-- ---- numbers read

-- the bytes of an array are those of a list from an index on
abbrev pub Copied : List ℕ → List ℕ → ℕ → ℕ → Type 0
Copied b s at n = (i : ℕ) → i < n → get_or b i 0 ≡ get_or s (at + i) 0

pub word_read : (s b : List ℕ) (at : ℕ) → Copied b s at 8 → from_le_bytes w64 b ≡ word_at s at
word_read s b at h =
    let further : (k i : ℕ) → get_or s (at + (k + i)) 0 ≡ get_or s (at + k + i) 0 = λ k i. ap (λ (j : ℕ). get_or s j 0) (sym (add_assoc at k i)) in
    omega (
      arith,
      h 0 (lit< tt) ∙ ap (λ (k : ℕ). get_or s k 0) (add-zero at),
      h 1 (lit< tt),
      h 2 (lit< tt),
      h 3 (lit< tt),
      h 4 (lit< tt),
      h 5 (lit< tt) ∙ further 4 1,
      h 6 (lit< tt) ∙ further 4 2,
      h 7 (lit< tt) ∙ further 4 3,
    )

pub half_read : (s b : List ℕ) (at : ℕ) → Copied b s at 4 → from_le_bytes w32 b ≡ half_at s at
half_read s b at h =
    omega (arith, h 0 (lit< tt) ∙ ap (λ (k : ℕ). get_or s k 0) (add-zero at), h 1 (lit< tt), h 2 (lit< tt), h 3 (lit< tt))

-- ---- NaN patterns

pub only_nan : (x : Float) → is_nan x ≡ true → x ≡ nan
unfolding is_nan
only_nan nan e = refl
only_nan (inf s) e = let z : false ≡ true = e in cc
only_nan (fin s m k) e = let z : false ≡ true = e in cc

pub nan_read : (f : Format) (n : ℕ) → ltb (ones f * hid f) (n % top f) ≡ true → nan ≡ of_bits f n
nan_read f n e = sym (only_nan (of_bits f n) (sym (nan_bits_is f n) ∙ nan_bits_above f n ∙ e))
