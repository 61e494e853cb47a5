-- Both ways between a point and its record, over what the contracts of the reader and the writer speak of. What is written reads back as the same pair bit for
-- bit (`written_read`, `read_back`); a record without skipped tags that reads as a pair which its entry accepts is written as its own bytes (`read_written`).
-- Assumes nothing.
use mathlib.Core.Path.{◌≡◌, refl, sym, ap, ◌∙◌}
use mathlib.Core.Bool.{Bool, true, false, cond, not, ◌&&◌}
use mathlib.Core.List.{List, [], ◌∷◌, ◌++◌}
use Prim.Native.Nat.{ℕ, ◌+◌, ◌≤◌}
use native.Mathlib.Nat.{zero-add}
use native.Mathlib.Omega.{arith}
use lib.Dec.{T, eqb, ltb}
use lib.IntN.{ℤ}
use lib.ListN.{length, take, drop}
use lib.Seq.{sets, sets-eq, take_at}
use lib.Ieee.{Float, nan, inf, fin, binary64, fits, is_nan, to_bits, of_bits}
use lib.Ieee.Bits.{to_bits-lt, to_bits-of_bits}
use borrow.Author.Tests.{le-ltb, ltb-false, eqb-true}
use Rattle.common.specs.Outcome.{Outcome, value, refused}
use Rattle.record.specs.declared.Record.{Record}
use Rattle.record.specs.Record.{report}
use Rattle.origin.specs.Origin.{origin_rule}
use Rattle.volume_at.specs.Volumes.{found_rule}
use Rattle.backward.specs.Backward.{hs2p_reg3_rule}
use Rattle.td_record.specs.Steps.{record_rule}
use Rattle.region3.specs.Entries.{pT_rule, ph_rule, ps_rule, hs_rule}
use Rattle.exchange_record.specs.declared.Pair.{Pair}
use Rattle.exchange_record.specs.declared.Pair.TheVariants as pair
use Rattle.exchange_record.specs.declared.Asked.{Asked}
use Rattle.exchange_record.specs.Grammar.{Field, Whole, AllWhole, spelt, encoded, word, known, Tagged, tagged, pairs, pair_in, pair_of, Accepted}
use Rattle.exchange_record.specs.Reading.{Means}
use Rattle.exchange_record.proofs.Exchange.{one_outcome}
use Rattle.exchange_writer.specs.declared.Point.{Point}
use Rattle.exchange_writer.specs.declared.Point.TheVariants as at
use Rattle.exchange_writer.specs.Point.{point_at, point_of}
use Rattle.exchange_writer.specs.Written.{high, number_field, two_fields, record_of, room_rule, after, asked_for}
use Rattle.exchange_writer.proofs.Laws.{record_length}
use Rattle.exchange_entry.proofs.Bytes.{AllBytes, all_left, all_right, word_high, eight_bytes}
use Rattle.exchange_entry.specs.Call.{entry_rule}
use Rattle.exchange_entry.specs.Write.{write_rule}
use Rattle.common.proofs.Calls.{no_value}

-- ---- written, then read

-- the two numbers of a point are f64, as every number of a program is
abbrev pub AreF64 : Point → Type 0
AreF64 (at.PT p t) = T (fits binary64 p.0) × T (fits binary64 t.0)
AreF64 (at.TD t d) = T (fits binary64 t.0) × T (fits binary64 d.0)
AreF64 (at.PH p h) = T (fits binary64 p.0) × T (fits binary64 h.0)
AreF64 (at.PS p s) = T (fits binary64 p.0) × T (fits binary64 s.0)
AreF64 (at.HS h s) = T (fits binary64 h.0) × T (fits binary64 s.0)

bits_back : (x : Float) → T (fits binary64 x) → to_bits binary64 x ≡ word (high (to_bits binary64 x))
bits_back x h = sym (word_high (to_bits binary64 x) (to_bits-lt binary64 x h))

two_read : (i j : ℕ) (a b : Float) (p : Pair) → T (fits binary64 a) → T (fits binary64 b)
    → known (number_field i a ∷ number_field j b ∷ []) ≡ number_field i a ∷ number_field j b ∷ [] → pair_of i j ≡ value p
    → Accepted (two_fields i a j b) (record { pair = p; a = to_bits binary64 a; b = to_bits binary64 b })
two_read i j a b p ha hb k e =
    record {
      fields = number_field i a ∷ number_field j b ∷ [];
      bytes = refl;
      whole = (refl, (refl, tt));
      forms =
          record {
            first = number_field i a;
            second = number_field j b;
            two = k;
            pair = e;
            eight_a = refl;
            eight_b = refl;
            a = bits_back a ha;
            b = bits_back b hb;
          };
    }

-- a point's record is accepted as its pair and the bits of its two numbers
pub written_read : (x : Point) → AreF64 x → Accepted (record_of x) (asked_for x)
written_read (at.PT p t) h = two_read 1 2 p.0 t.0 pair.PT h.0 h.1 refl refl
written_read (at.TD t d) h = two_read 2 3 t.0 d.0 pair.TD h.0 h.1 refl refl
written_read (at.PH p e) h = two_read 1 4 p.0 e.0 pair.PH h.0 h.1 refl refl
written_read (at.PS p s) h = two_read 1 5 p.0 s.0 pair.PS h.0 h.1 refl refl
written_read (at.HS e s) h = two_read 4 5 e.0 s.0 pair.HS h.0 h.1 refl refl

-- what an accepted call of the writer leaves at the front is that record
pub front_written : (x : Point) (found out : List ℕ) → write_rule x found ≡ (value tt, out) → take 22 out ≡ record_of x
front_written x found out e = go (report (entry_rule x)).0 e
  where
    by : (b : Bool) → ltb (length found) 22 ≡ b
        → ◌≡◌ {A = Outcome Unit × List ℕ} (cond b (refused 16, found) (value tt, sets found 0 (record_of x))) (value tt, out)
        → take 22 out ≡ record_of x
    by true t h = absurd (no_value (ap (λ (z : Outcome Unit × List ℕ). z.0) h))
    by false t h =
        let l : 22 ≤ length found = ltb-false (length found) 22 t in
        let n : length (record_of x) ≡ 22 = record_length x in
        ap (take 22) (sym (ap (λ (z : Outcome Unit × List ℕ). z.1) h) ∙ sets-eq (record_of x) found 0 (omega arith))
        ∙ take_at (record_of x) (drop (0 + length (record_of x)) found) 22 n

    go : (o : Outcome Unit) → after o x found ≡ (value tt, out) → take 22 out ≡ record_of x
    go (refused k) h = absurd (no_value (ap (λ (z : Outcome Unit × List ℕ). z.0) h))
    go (value u) h = by (ltb (length found) 22) refl h

-- so whatever the reader may answer to it is that pair with those bits
pub read_back : (x : Point) → AreF64 x → (found out : List ℕ) → write_rule x found ≡ (value tt, out) → (o : Outcome Asked) → Means (take 22 out) o
    → o ≡ value (asked_for x)
read_back x h found out e o m =
    one_outcome (take 22 out) o (value (asked_for x)) m (rw (front_written x found out e) (written_read x h))

-- ---- read, then written

-- an entry accepts no NaN: its first test is of its two numbers
module _ (rule : Float → Float → Outcome Record) (n : (b : Float) → rule nan b ≡ refused 1) (i : (s : Bool) → rule (inf s) nan ≡ refused 1)
    (f : (s : Bool) (m : ℕ) (x : ℤ) → rule (fin s m x) nan ≡ refused 1) where
  two_numbers : (a b : Float) (r : Record) → rule a b ≡ value r → T (not (is_nan a)) × T (not (is_nan b))
  unfolding is_nan
  two_numbers nan b r e = absurd (no_value (sym (n b) ∙ e))
  two_numbers (inf s) nan r e = absurd (no_value (sym (i s) ∙ e))
  two_numbers (fin s m x) nan r e = absurd (no_value (sym (f s m x) ∙ e))
  two_numbers (inf s) (inf t) r e = (tt, tt)
  two_numbers (inf s) (fin t k y) r e = (tt, tt)
  two_numbers (fin s m x) (inf t) r e = (tt, tt)
  two_numbers (fin s m x) (fin t k y) r e = (tt, tt)

numbers : (p : Pair) (a b : Float) (r : Record) → entry_rule (point_at p a b) ≡ value r → T (not (is_nan a)) × T (not (is_nan b))
unfolding pT_rule found_rule origin_rule record_rule ph_rule ps_rule hs_rule hs2p_reg3_rule
numbers pair.PT = two_numbers pT_rule (λ b. refl) (λ s. refl) (λ s m x. refl)
numbers pair.TD = two_numbers record_rule (λ b. refl) (λ s. refl) (λ s m x. refl)
numbers pair.PH = two_numbers ph_rule (λ b. refl) (λ s. refl) (λ s m x. refl)
numbers pair.PS = two_numbers ps_rule (λ b. refl) (λ s. refl) (λ s m x. refl)
numbers pair.HS = two_numbers hs_rule (λ b. refl) (λ s. refl) (λ s m x. refl)

-- a pair is written with the tags that it is read by
Matched : List Tagged → Type 0
Matched [] = Unit
Matched (tagged i j p ∷ rs) = ((a b : Float) → record_of (point_at p a b) ≡ two_fields i a j b) × Matched rs

same_tags : (rs : List Tagged) → Matched rs → (x y : ℕ) (p : Pair) (a b : Float) → pair_in rs x y ≡ value p → record_of (point_at p a b) ≡ two_fields x a y b
unfolding Matched
same_tags [] m x y p a b e = absurd (no_value e)
same_tags (tagged i j q ∷ rs) m x y p a b e = go (eqb x i) (eqb y j) refl refl (same_tags rs m.1 x y p a b) e
  where
    go : (s t : Bool) → eqb x i ≡ s → eqb y j ≡ t → (pair_in rs x y ≡ value p → record_of (point_at p a b) ≡ two_fields x a y b)
        → cond (s && t) (value q) (pair_in rs x y) ≡ value p → record_of (point_at p a b) ≡ two_fields x a y b
    go true true f g later h =
        let ex : x ≡ i = eqb-true x i f in
        let ey : y ≡ j = eqb-true y j g in
        let ep : q ≡ p = cc in
        rw (ex, ey, ← ep) (m.0 a b)
    go true false f g later h = later h
    go false t f g later h = later h

all_matched : Matched pairs
unfolding Matched
all_matched = (λ a b. refl, (λ a b. refl, (λ a b. refl, (λ a b. refl, (λ a b. refl, tt)))))

-- eight bytes that no entry calls a NaN are the bytes of their number
body_back : (xs : List ℕ) → length xs ≡ 8 → AllBytes xs → T (not (is_nan (of_bits binary64 (word xs))))
    → high (to_bits binary64 (of_bits binary64 (word xs))) ≡ xs
body_back xs l h n =
    let w = eight_bytes xs l h in
    ap high (to_bits-of_bits binary64 (word xs) w.1 n) ∙ w.0

field_back : (f : Field) → Whole f → length f.body ≡ 8 → AllBytes f.body → T (not (is_nan (of_bits binary64 (word f.body))))
    → number_field f.tag (of_bits binary64 (word f.body)) ≡ f
field_back f w l h n =
    let eh : f.high ≡ 0 = omega arith in
    let el : f.low ≡ 8 = omega arith in
    rw (body_back f.body l h n, ← eh, ← el)

-- a record without skipped tags that reads as a pair which its entry accepts is that pair's record
pub record_back : (s : List ℕ) (q : Asked) (r : Record) → AllBytes s → (a : Accepted s q) → known a.fields ≡ a.fields
    → entry_rule (point_of q) ≡ value r → record_of (point_of q) ≡ s
record_back s q r h a k e =
    let m = a.forms in
    let f = m.first in
    let g = m.second in
    let two : a.fields ≡ f ∷ g ∷ [] = sym k ∙ m.two in
    let bytes : s ≡ encoded (f ∷ g ∷ []) = a.bytes ∙ ap encoded two in
    let whole : AllWhole (f ∷ g ∷ []) = rw two at a.whole in
    let all : AllBytes (encoded (f ∷ g ∷ [])) = rw bytes at h in
    let f-bytes : AllBytes f.body = all_left f.body (spelt g ++ []) all.1.1.1 in
    let rest : AllBytes (spelt g ++ []) = all_right f.body (spelt g ++ []) all.1.1.1 in
    let g-bytes : AllBytes g.body = all_left g.body [] rest.1.1.1 in
    let n = numbers q.pair (of_bits binary64 q.a) (of_bits binary64 q.b) r e in
    let f-back = field_back f whole.0 m.eight_a f-bytes (rw m.a at n.0) in
    let g-back = field_back g whole.1.0 m.eight_b g-bytes (rw m.b at n.1) in
    same_tags pairs all_matched f.tag g.tag q.pair (of_bits binary64 q.a) (of_bits binary64 q.b) m.pair
    ∙ ap (λ (w : ℕ). encoded (number_field f.tag (of_bits binary64 w) ∷ number_field g.tag (of_bits binary64 q.b) ∷ [])) m.a
    ∙ ap (λ (x : Field). encoded (x ∷ number_field g.tag (of_bits binary64 q.b) ∷ [])) f-back
    ∙ ap (λ (w : ℕ). encoded (f ∷ number_field g.tag (of_bits binary64 w) ∷ [])) m.b
    ∙ ap (λ (x : Field). encoded (f ∷ x ∷ [])) g-back
    ∙ sym bytes

-- so it is of 22 bytes, and the writer puts them at the front of any room that has so many
pub read_written : (s : List ℕ) (q : Asked) (r : Record) → AllBytes s → (a : Accepted s q) → known a.fields ≡ a.fields → entry_rule (point_of q) ≡ value r
    → (found : List ℕ) → 22 ≤ length found → (length s ≡ 22) × (write_rule (point_of q) found ≡ (value tt, s ++ drop 22 found))
read_written s q r h a k e found l =
    let b = record_back s q r h a k e in
    let n : length (record_of (point_of q)) ≡ 22 = record_length (point_of q) in (
      sym (ap length b) ∙ n,
      ap (λ (o : Outcome Record). after (report o).0 (point_of q) found) e
          ∙ in_room (point_of q) n
          ∙ ap (λ (x : List ℕ). (value tt, x ++ drop 22 found)) b,
    )
  where
    in_room : (x : Point) → length (record_of x) ≡ 22 → room_rule x found ≡ (value tt, record_of x ++ drop 22 found)
    in_room x n =
        rw (le-ltb (length found) 22 l)
        (ap (λ (o : List ℕ). (value tt, o))
        (sets-eq (record_of x) found 0 (omega arith) ∙ ap (λ (i : ℕ). record_of x ++ drop i found) (zero-add (length (record_of x)) ∙ n)))
