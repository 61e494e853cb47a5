-- What a field's course shows of it, and the first field of some bytes. Assumes nothing.
use mathlib.Core.Path.{◌≡◌, refl, sym, ap, ◌∙◌}
use mathlib.Core.Bool.{Bool, true, false, cond, ◌&&◌}
use mathlib.Core.Logic.{inl, inr}
use mathlib.Core.List.{List, [], ◌∷◌, ◌++◌}
use Prim.Native.Nat.{◌*◌, ℕ, ◌+◌, ◌-◌, ◌≤◌, ◌<◌}
use native.Mathlib.Omega.{arith}
use lib.Dec.{leb, ltb, eqb}
use lib.ListN.{length, get_or, take, drop, take-append-drop}
use Rattle.std.proofs.lemmas.List.{take_all}
use borrow.Author.Tests.{eqb-true, eq-eqb, lt-leb, le-leb, lt-ltb}
use Rattle.std.specs.List.{IsSplitAt}
use Rattle.exchange_record.specs.declared.Seen.{Seen}
use Rattle.exchange_record.specs.Walk.{last_of, added, Passed, Stops}
use Rattle.exchange_record.specs.Grammar.{Field, spelt, word, Cut, tag_alone, half_a_length, short, Course, skipped, taken, stopped, fate_of}

-- ---- what a field's course shows of it

pub skipped_taken : skipped ≡ taken → ⊥
skipped_taken e = let z : ◌≡◌ {A = ℕ} 0 1 = cc in omega arith

pub stopped_taken : (n : ℕ) → stopped n ≡ taken → ⊥
stopped_taken n e = let z : ◌≡◌ {A = ℕ} 0 1 = cc in omega arith

pub stopped_skipped : (n : ℕ) → stopped n ≡ skipped → ⊥
stopped_skipped n e = let z : ◌≡◌ {A = ℕ} 0 1 = cc in omega arith

abbrev course : Bool → Bool → Bool → Bool → Course
course p q t u = cond p skipped (cond q (cond t (cond u (stopped 13) taken) (stopped 12)) (stopped 11))

if_taken : (p q t u : Bool) → course p q t u ≡ taken → (p ≡ false) × (t ≡ true)
if_taken true q t u e = absurd (skipped_taken e)
if_taken false false t u e = absurd (stopped_taken 11 e)
if_taken false true false u e = absurd (stopped_taken 12 e)
if_taken false true true u e = (refl, refl)

if_skipped : (p q t u : Bool) → course p q t u ≡ skipped → p ≡ true
if_skipped true q t u e = refl
if_skipped false false t u e = absurd (stopped_skipped 11 e)
if_skipped false true false u e = absurd (stopped_skipped 12 e)
if_skipped false true true true e = absurd (stopped_skipped 13 e)
if_skipped false true true false e = absurd (skipped_taken (sym e))

module _ (last tag n : ℕ) where
  pub taken_size : fate_of last tag n ≡ taken → n ≡ 8
  unfolding fate_of
  taken_size e = eqb-true n 8 (if_taken (leb 128 tag) (ltb 0 tag && leb tag 5) (eqb n 8) (leb tag last) e).1

  pub taken_known : fate_of last tag n ≡ taken → leb 128 tag ≡ false
  unfolding fate_of
  taken_known e = (if_taken (leb 128 tag) (ltb 0 tag && leb tag 5) (eqb n 8) (leb tag last) e).0

  pub skipped_unknown : fate_of last tag n ≡ skipped → leb 128 tag ≡ true
  unfolding fate_of
  skipped_unknown e = if_skipped (leb 128 tag) (ltb 0 tag && leb tag 5) (eqb n 8) (leb tag last) e

  pub is_skipped : leb 128 tag ≡ true → fate_of last tag n ≡ skipped
  unfolding fate_of
  is_skipped e = rw e

  pub is_taken : 1 ≤ tag → tag ≤ 5 → n ≡ 8 → last < tag → fate_of last tag n ≡ taken
  unfolding fate_of
  is_taken a b e h =
      rw (lt-leb 128 tag (omega arith), lt-ltb 0 tag a, le-leb tag 5 b, eq-eqb n 8 e, lt-leb tag last h)

-- ---- the first field, by the bytes that a pattern takes apart

-- what follows a header
abbrev pub tail : List ℕ → List ℕ
tail s = take (length s - 3) (drop 3 s)

headed : (s : List ℕ) → 3 ≤ length s → s ≡ get_or s 0 0 ∷ get_or s 1 0 ∷ get_or s 2 0 ∷ tail s
headed [] k = absurd (omega arith)
headed (t ∷ []) k = absurd (omega arith)
headed (t ∷ h ∷ []) k = absurd (omega arith)
headed (t ∷ h ∷ l ∷ b) k =
    let e : length (t ∷ h ∷ l ∷ b) - 3 ≡ length b = omega arith in
    ap (λ (r : List ℕ). t ∷ h ∷ l ∷ r) (sym (ap (λ (n : ℕ). take n b) e ∙ take_all (length b) b (omega arith)))

pub cut_header : (s : List ℕ) → 0 < length s → length s < 3 → Cut s
cut_header [] a b = absurd (omega arith)
cut_header (t ∷ []) a b = tag_alone t
cut_header (t ∷ h ∷ []) a b = half_a_length t h
cut_header (t ∷ h ∷ n ∷ l) a b = absurd (omega arith)

module _ (s : List ℕ) (n : ℕ) (long : 3 ≤ length s) (size : n ≡ 256 * get_or s 1 0 + get_or s 2 0) where
  pub cut_body : length (tail s) < n → Cut s
  cut_body k = rw (headed s long) (short (get_or s 0 0) (get_or s 1 0) (get_or s 2 0) (tail s) (omega arith))

  module _ (seen : Seen) (last : ℕ) (latest : last ≡ last_of seen) (front rest : List ℕ) (parts : IsSplitAt (tail s) n front rest) where
    first : Field
    first = record { tag = get_or s 0 0; high = get_or s 1 0; low = get_or s 2 0; body = front }

    bytes_are : s ≡ spelt first ++ rest
    unfolding first
    bytes_are =
        headed s long
        ∙ ap (λ (l : List ℕ). get_or s 0 0 ∷ get_or s 1 0 ∷ get_or s 2 0 ∷ l) (sym (take-append-drop n (tail s)) ∙ rw (parts.1, parts.2))

    course_here : (o : Course) → fate_of last (get_or s 0 0) n ≡ o → fate_of (last_of seen) (get_or s 0 0) (256 * get_or s 1 0 + get_or s 2 0) ≡ o
    course_here o e = rw (← latest, ← size) e

    pub passes : fate_of last (get_or s 0 0) n ≡ skipped → Passed s seen seen rest
    unfolding first
    passes e = record { field = first; whole = parts.3 ∙ size; bytes = bytes_are; course = inl (course_here skipped e, refl) }

    pub takes : fate_of last (get_or s 0 0) n ≡ taken → (after : Seen) → after ≡ added seen (record { tag = get_or s 0 0; bits = word front })
        → Passed s seen after rest
    unfolding first
    takes e after k = record { field = first; whole = parts.3 ∙ size; bytes = bytes_are; course = inr (course_here taken e, k) }

    pub stops : (k : ℕ) → fate_of last (get_or s 0 0) n ≡ stopped k → Stops s seen k
    unfolding first
    stops k e = inr (record { field = first; rest = rest; whole = parts.3 ∙ size; bytes = bytes_are; course = course_here (stopped k) e })
