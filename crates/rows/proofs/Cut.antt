-- A stream may be cut at any row: the lines of its parts, joined, are its lines, and so the pages of `letters` are the output of the whole
-- stream. Assumes nothing.
use mathlib.Core.Path.{◌≡◌, sym, ap, ◌∙◌}
use mathlib.Core.List.{List, [], ◌∷◌, ◌++◌, foldr, append-nil, append_assoc}
use Prim.Native.Nat.{ℕ, zero, suc, ◌+◌, ◌*◌, ◌-◌, ◌/◌, ◌%◌, ◌^◌, ◌<◌, ◌≤◌}
use native.Mathlib.Nat.{add-zero, add-suc, add_assoc}
use native.Mathlib.Omega.{arith}
use lib.ListN.{length, drop, length-append, get_or-append}
use lib.Seq.{get_or-drop, drop_at}
use Rattle.boundary.specs.Choice.{letter_rule}
use Rattle.rows.specs.Lines.{p_at, t_at, line_of, block_of, rows_in, last_line, output_of, turns_of, Full}
use Rattle.buffer.specs.Bytes.{joined, half_at, float_at}
use Rattle.rows.proofs.Laws.{joined_same}

joined_cut : {A : Type 0} (f : ℕ → List A) (m n : ℕ) → joined f (m + n) ≡ joined f m ++ joined (λ i. f (m + i)) n
unfolding joined
joined_cut f m zero = ap (joined f) (add-zero m) ∙ sym (append-nil (joined f m))
joined_cut {A} f m (suc n) =
    ap (joined f) (add-suc m n)
    ∙ ap (λ (xs : List A). xs ++ f (m + n)) (joined_cut f m n)
    ∙ append_assoc (joined f m) (joined (λ i. f (m + i)) n) (f (m + n))

-- the float at an index past the first k bytes
float_drop : (k : ℕ) (s : List ℕ) (i : ℕ) → float_at (drop k s) i ≡ float_at s (k + i)
unfolding float_at
float_drop k s i = simp (get_or-drop, add_assoc)

-- bytes past the float do not matter
half_front : (a b : List ℕ) (i : ℕ) → i + 4 ≤ length a → half_at (a ++ b) i ≡ half_at a i
half_front a b i h =
    rw (
      get_or-append a b 0 i (omega arith),
      get_or-append a b 0 (i + 1) (omega arith),
      get_or-append a b 0 (i + 2) (omega arith),
      get_or-append a b 0 (i + 3) (omega arith),
    )

float_front : (a b : List ℕ) (i : ℕ) → i + 8 ≤ length a → float_at (a ++ b) i ≡ float_at a i
unfolding float_at
float_front a b i h = rw (half_front a b i (omega arith), half_front a b (i + 4) (omega arith))

-- the lines of m + n rows are those of the first m, then those of the bytes after them, numbered on
block_cut : (done : ℕ) (s : List ℕ) (m n : ℕ) → block_of done s (m + n) ≡ block_of done s m ++ block_of (done + m) (drop (16 * m) s) n
unfolding block_of
block_cut done s m n =
    joined_cut (λ i. line_of (done + i + 1) (letter_rule (p_at s i) (t_at s i))) m n
    ∙ ap (λ (xs : List ℕ). joined (λ i. line_of (done + i + 1) (letter_rule (p_at s i) (t_at s i))) m ++ xs)
    (joined_same _ _ n
    (λ i l.
    let p : p_at s (m + i) ≡ p_at (drop (16 * m) s) i = ap (float_at s) (omega arith) ∙ sym (float_drop (16 * m) s (16 * i)) in
    let t : t_at s (m + i) ≡ t_at (drop (16 * m) s) i = ap (float_at s) (omega arith) ∙ sym (float_drop (16 * m) s (16 * i + 8)) in
    rw (p, t, add_assoc done m i)))

-- bytes past the rows do not matter
block_front : (done : ℕ) (a b : List ℕ) (n : ℕ) → 16 * n ≤ length a → block_of done (a ++ b) n ≡ block_of done a n
unfolding block_of
block_front done a b n h =
    joined_same _ _ n
    (λ i l.
    let p : p_at (a ++ b) i ≡ p_at a i = float_front a b (16 * i) (omega arith) in
    let t : t_at (a ++ b) i ≡ t_at a i = float_front a b (16 * i + 8) (omega arith) in
    rw (p, t))

-- a stream cut after n rows: their lines, then the output of the rest, numbered on
pub output_cut : (done : ℕ) (a b : List ℕ) (n : ℕ) → length a ≡ 16 * n → output_of done (a ++ b) ≡ block_of done a n ++ output_of (done + n) b
unfolding output_of
output_cut done a b n e =
    let l = length-append a b in
    let q : length (a ++ b) / 16 ≡ n + length b / 16 = omega arith in
    let r : length (a ++ b) % 16 ≡ length b % 16 = omega arith in
    let x : block_of done (a ++ b) (length (a ++ b) / 16) ≡ block_of done a n ++ block_of (done + n) b (length b / 16) =
    ap (block_of done (a ++ b)) q
    ∙ block_cut done (a ++ b) n (length b / 16)
    ∙ ap (λ (xs : List ℕ). xs ++ block_of (done + n) (drop (16 * n) (a ++ b)) (length b / 16)) (block_front done a b n (omega arith))
    ∙ ap (λ (xs : List ℕ). block_of done a n ++ block_of (done + n) xs (length b / 16)) (drop_at a b (16 * n) e) in
    let y : last_line (done + length (a ++ b) / 16) (length (a ++ b) % 16) ≡ last_line (done + n + length b / 16) (length b % 16) =
    ap (last_line (done + length (a ++ b) / 16)) r ∙ ap (λ (k : ℕ). last_line k (length b % 16)) (ap (λ (k : ℕ). done + k) q ∙ sym (add_assoc done n (length b / 16))) in
    ap (λ (xs : List ℕ). xs ++ last_line (done + length (a ++ b) / 16) (length (a ++ b) % 16)) x
    ∙ ap (λ (xs : List ℕ). (block_of done a n ++ block_of (done + n) b (length b / 16)) ++ xs) y
    ∙ append_assoc (block_of done a n) (block_of (done + n) b (length b / 16)) (last_line (done + n + length b / 16) (length b % 16))

-- a page of at most 512 rows leaves none out
page_rows : (done n : ℕ) → n ≤ 8192 → done + n / 16 < 2 ^ 64 → rows_in done n ≡ n / 16
page_rows done n h r = omega arith

-- what `letters` writes turn by turn is the output of the stream that it read
pub turns : (done : ℕ) (blocks : List (List ℕ)) (rest : List ℕ) → Full blocks → length rest ≤ 8192 → done + 512 * length blocks + 512 < 2 ^ 64 →
    turns_of done blocks rest ≡ output_of done (foldr ◌++◌ rest blocks)
unfolding turns_of output_of Full
turns done [] rest f h r =
    let n = length rest in
    let e = page_rows done n h (omega arith) in
    let l : n - 16 * rows_in done n ≡ n % 16 = omega arith in
    ap (λ (k : ℕ). block_of done rest k ++ last_line (done + k) (n - 16 * rows_in done n)) e
    ∙ ap (λ (k : ℕ). block_of done rest (n / 16) ++ last_line (done + n / 16) k) l
turns done (s ∷ blocks) rest f h r =
    let full : length s ≡ 16 * 512 = f.0 in
    let rows : rows_in done (length s) ≡ 512 = page_rows done (length s) (omega arith) (omega arith) ∙ omega arith in
    ap (λ (k : ℕ). block_of done s k ++ turns_of (done + 512) blocks rest) rows
    ∙ ap (λ (xs : List ℕ). block_of done s 512 ++ xs) (turns (done + 512) blocks rest f.1 h (omega arith))
    ∙ sym (output_cut done s (foldr ◌++◌ rest blocks) 512 full)
