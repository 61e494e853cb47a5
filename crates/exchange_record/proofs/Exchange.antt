-- The exchange record's rule: all bytes are accepted or refused (`always_one`), none are both (`never_both`), and with one pair (`one_pair`) or one number
-- (`one_number`) at most. A decision of the rule, made here and by no program, carries the proof: whatever the grammar or the relation says of some bytes is
-- what it decides. Assumes nothing.
use mathlib.Core.Path.{◌≡◌, refl, sym, ap, ◌∙◌}
use mathlib.Core.Bool.{Bool, true, false, cond}
use mathlib.Core.List.{List, [], ◌∷◌, ◌++◌}
use Prim.Native.Nat.{ℕ, zero, suc, ◌+◌, ◌*◌, ◌≤◌, ◌<◌}
use native.Mathlib.Decide.{dec_le}
use native.Mathlib.Omega.{arith}
use lib.Dec.{leb, lit<}
use lib.ListN.{length, drop, length-append, take-append-drop}
use lib.ListN.{take as front}
use lib.Seq.{length-take-le, take_at, drop_at}
use borrow.Author.Tests.{le-leb, lt-leb}
use Rattle.common.specs.Outcome.{Outcome, value, refused}
use Rattle.exchange_record.specs.declared.Asked.{Asked}
use Rattle.exchange_record.specs.Grammar.{Field, said, Whole, AllWhole, spelt, encoded, word, known, Forms, Accepted, Cut, tag_alone, half_a_length, short}
use Rattle.exchange_record.specs.Grammar.{Course, skipped, taken, stopped, fate_of, last_tag, pair_among, RefusedAfter, cut, stop, skip, take, unpaired}
use Rattle.exchange_record.specs.Grammar.{Refused}
use Rattle.exchange_record.specs.Reading.{Means}
use Rattle.exchange_record.specs.Walk.{seen_of, asked_by, finished}
use Rattle.exchange_record.proofs.Pairs.{rising, no_asked}
use Rattle.exchange_record.proofs.Fields.{taken_size, is_skipped, is_taken}
use Rattle.exchange_record.proofs.Walk.{onto, MeansAfter, from_none, skipping, taking, AllEight, at_end}

-- ---- the field at the front of some bytes

pub data Front : Type 0 where
  ended : Front
  broken : Front
  headed : Field → List ℕ → Front

unfoldable pub body : ℕ → ℕ → ℕ → List ℕ → Bool → Front
body t h l b true =
    headed (record { tag = t; high = h; low = l; body = front (256 * h + l) b }) (drop (256 * h + l) b)
body t h l b false = broken

unfoldable pub front_of : List ℕ → Front
front_of [] = ended
front_of (t ∷ []) = broken
front_of (t ∷ h ∷ []) = broken
front_of (t ∷ h ∷ l ∷ b) = body t h l b (leb (256 * h + l) (length b))

front_field : (f : Field) (rest s : List ℕ) → s ≡ spelt f ++ rest → Whole f → front_of s ≡ headed f rest
unfolding front_of body
front_field f rest s e w =
    let long : length (f.body ++ rest) ≡ length f.body + length rest = length-append f.body rest in
    let fits : leb (said f) (length (f.body ++ rest)) ≡ true = le-leb (said f) (length (f.body ++ rest)) (omega arith) in
    rw (e, fits, take_at f.body rest (said f) w, drop_at f.body rest (said f) w)

front_cut : (s : List ℕ) → Cut s → front_of s ≡ broken
unfolding front_of body
front_cut s (tag_alone t) = refl
front_cut s (half_a_length t h) = refl
front_cut s (short t h l b k) = rw (lt-leb (256 * h + l) (length b) k)

-- ---- the decision

unfoldable pub on_course : (List Field → List ℕ → Outcome Asked) → List Field → Field → List ℕ → Course → Outcome Asked
on_course go before f rest skipped = go before rest
on_course go before f rest taken = go (f ∷ before) rest
on_course go before f rest (stopped n) = refused n

unfoldable pub on_front : (List Field → List ℕ → Outcome Asked) → List Field → Front → Outcome Asked
on_front go before ended = finished (seen_of before)
on_front go before broken = refused 10
on_front go before (headed f rest) = on_course go before f rest (fate_of (last_tag before) f.tag (said f))

unfoldable pub decided : ℕ → List Field → List ℕ → Outcome Asked
decided zero before s = refused 10
decided (suc k) before s = on_front (decided k) before (front_of s)

at_field : (k : ℕ) (before : List Field) (s : List ℕ) (f : Field) (rest : List ℕ) (c : Course) → s ≡ spelt f ++ rest → Whole f
    → fate_of (last_tag before) f.tag (said f) ≡ c → decided (suc k) before s ≡ on_course (decided k) before f rest c
unfolding decided on_front
at_field k before s f rest c e w h = rw (front_field f rest s e w, h)

-- ---- what the relation refuses

fewer : (s : List ℕ) (f : Field) (rest : List ℕ) → s ≡ spelt f ++ rest → length rest < length s
fewer s f rest e =
    let long : length (f.body ++ rest) ≡ length f.body + length rest = length-append f.body rest in
    let whole : length s ≡ length (spelt f ++ rest) = ap length e in
    omega arith

shorter : (s : List ℕ) (f : Field) (rest : List ℕ) (k : ℕ) → s ≡ spelt f ++ rest → length s ≤ suc k → length rest ≤ k
shorter s f rest k e h = let l = fewer s f rest e in omega arith

none_left : {a b : ℕ} → a ≤ 0 → a ≡ suc b → ⊥
none_left h e = omega arith

unpaired_end : (before : List Field) → pair_among before ≡ refused 14 → finished (seen_of before) ≡ refused 14
unpaired_end [] e = refl
unpaired_end (x ∷ []) e = refl
unpaired_end (y ∷ x ∷ []) e = no_asked x.tag (word x.body) y.tag (word y.body) e
unpaired_end (z ∷ y ∷ x ∷ fs) e = refl

decides_refused : (before : List Field) (s : List ℕ) (n k : ℕ) → length s ≤ k → RefusedAfter before s n → decided (suc k) before s ≡ refused n
unfolding decided on_front on_course front_of
decides_refused before s n k h (cut c) = rw (front_cut s c)
decides_refused before s n k h (stop f rest e w c) = at_field k before s f rest (stopped n) e w c
decides_refused before s n zero h (skip f rest e w c r) = let z = ap length e in absurd (none_left h z)
decides_refused before s n (suc k) h (skip f rest e w c r) =
    at_field (suc k) before s f rest skipped e w c ∙ decides_refused before rest n k (shorter s f rest k e h) r
decides_refused before s n zero h (take f rest e w c r) = let z = ap length e in absurd (none_left h z)
decides_refused before s n (suc k) h (take f rest e w c r) =
    at_field (suc k) before s f rest taken e w c ∙ decides_refused (f ∷ before) rest n k (shorter s f rest k e h) r
decides_refused before s n k h (unpaired c) = unpaired_end before c

-- ---- what the grammar accepts

onto_length : (before ks : List Field) → length (onto before ks) ≡ length before + length ks
onto_length [] ks = omega arith
onto_length (f ∷ fs) ks = let r = onto_length fs (f ∷ ks) in omega arith

too_many : (before ks : List Field) (x y : Field) → onto before ks ≡ x ∷ y ∷ [] → 2 < length before + length ks → ⊥
too_many before ks x y e h = let r = onto_length before ks in let z = ap length e in omega arith

too_few : (n : ℕ) → n < 2 → n ≡ 2 → ⊥
too_few n h e = omega arith

-- a known field of an accepted record is taken
forms_taken : (before : List Field) (f : Field) (ks : List Field) (q : Asked) → Whole f → Forms (onto before (f ∷ ks)) q
    → fate_of (last_tag before) f.tag (said f) ≡ taken
forms_taken [] f ks q w m =
    let e : f ≡ m.first = cc in
    let r = rising m.first.tag m.second.tag q.pair m.pair in
    let t : f.tag ≡ m.first.tag = ap (λ g. g.tag) e in
    let z : length f.body ≡ 8 = rw e m.eight_a in
    is_taken 0 f.tag (said f) (omega arith) (omega arith) (omega arith) (omega arith)
forms_taken (g ∷ []) f ks q w m =
    let d : g ≡ m.first = cc in
    let e : f ≡ m.second = cc in
    let r = rising m.first.tag m.second.tag q.pair m.pair in
    let u : g.tag ≡ m.first.tag = ap (λ x. x.tag) d in
    let t : f.tag ≡ m.second.tag = ap (λ x. x.tag) e in
    let z : length f.body ≡ 8 = rw e m.eight_b in
    is_taken g.tag f.tag (said f) (omega arith) (omega arith) (omega arith) (omega arith)
forms_taken (g ∷ h ∷ fs) f ks q w m = absurd (too_many (g ∷ h ∷ fs) (f ∷ ks) m.first m.second m.two (omega arith))

forms_end : (before : List Field) (q : Asked) → Forms (onto before []) q → finished (seen_of before) ≡ value q
unfolding asked_by
forms_end [] q m = absurd (too_few 0 (lit< tt) (ap length m.two))
forms_end (x ∷ []) q m = absurd (too_few 1 (lit< tt) (ap length m.two))
forms_end (y ∷ x ∷ []) q m =
    let d : x ≡ m.first = cc in
    let e : y ≡ m.second = cc in
    rw (d, e, m.pair, ← m.a, ← m.b)
forms_end (z ∷ y ∷ x ∷ fs) q m = absurd (too_many (z ∷ y ∷ x ∷ fs) [] m.first m.second m.two (omega arith))

decides_accepted : (fields before : List Field) (s : List ℕ) (q : Asked) (k : ℕ) → length s ≤ k → s ≡ encoded fields → AllWhole fields
    → Forms (onto before (known fields)) q → decided (suc k) before s ≡ value q
unfolding decided on_front on_course front_of
decides_accepted [] before s q k h e w m = rw e (forms_end before q m)
decides_accepted (f ∷ fs) before s q zero h e w m = let z = ap length e in absurd (none_left h z)
decides_accepted (f ∷ fs) before s q (suc k) h e w m =
    go (leb 128 f.tag) refl (decides_accepted fs before (encoded fs) q k (shorter s f (encoded fs) k e h) refl w.1)
    (decides_accepted fs (f ∷ before) (encoded fs) q k (shorter s f (encoded fs) k e h) refl w.1) m
  where
    go : (b : Bool) → leb 128 f.tag ≡ b
        → (Forms (onto before (known fs)) q → decided (suc k) before (encoded fs) ≡ value q)
        → (Forms (onto (f ∷ before) (known fs)) q → decided (suc k) (f ∷ before) (encoded fs) ≡ value q)
        → Forms (onto before (cond b (known fs) (f ∷ known fs))) q → decided (suc (suc k)) before s ≡ value q
    go true t over into m =
        at_field (suc k) before s f (encoded fs) skipped e w.0 (is_skipped (last_tag before) f.tag (said f) t) ∙ over m
    go false t over into m =
        at_field (suc k) before s f (encoded fs) taken e w.0 (forms_taken before f (known fs) q w.0 m) ∙ into m

-- ---- the theorems

decides : (s : List ℕ) (o : Outcome Asked) → Means s o → decided (suc (length s)) [] s ≡ o
decides s (value q) a = decides_accepted a.fields [] s q (length s) (omega arith) a.bytes a.whole a.forms
decides s (refused n) r = decides_refused [] s n (length s) (omega arith) r

-- some bytes come to one outcome at most
pub one_outcome : (s : List ℕ) (o p : Outcome Asked) → Means s o → Means s p → o ≡ p
one_outcome s o p a b = sym (decides s o a) ∙ decides s p b

pub never_both : (s : List ℕ) (q : Asked) (n : ℕ) → Accepted s q → Refused s n → ⊥
never_both s q n a r =
    let e : value q ≡ refused n = one_outcome s (value q) (refused n) a r in
    let z : ◌≡◌ {A = ℕ} 0 1 = cc in
    omega arith

pub one_pair : (s : List ℕ) (q r : Asked) → Accepted s q → Accepted s r → q ≡ r
one_pair s q r a b = let e : value q ≡ value r = one_outcome s (value q) (value r) a b in cc

pub one_number : (s : List ℕ) (n m : ℕ) → Refused s n → Refused s m → n ≡ m
one_number s n m a b = let e : ◌≡◌ {A = Outcome Asked} (refused n) (refused m) = one_outcome s (refused n) (refused m) a b in cc

-- and to one at least
data Opened (s : List ℕ) : Type 0 where
  nothing : s ≡ [] → Opened s
  torn : Cut s → Opened s
  field : (f : Field) (rest : List ℕ) → s ≡ spelt f ++ rest → Whole f → Opened s

opened : (s : List ℕ) → Opened s
opened [] = nothing refl
opened (t ∷ []) = torn (tag_alone t)
opened (t ∷ h ∷ []) = torn (half_a_length t h)
opened (t ∷ h ∷ l ∷ b) = go (dec_le (256 * h + l) (length b))
  where
    go : Dec (256 * h + l ≤ length b) → Opened (t ∷ h ∷ l ∷ b)
    go (yes k) =
        field (record { tag = t; high = h; low = l; body = front (256 * h + l) b }) (drop (256 * h + l) b)
        (ap (λ (r : List ℕ). t ∷ h ∷ l ∷ r) (sym (take-append-drop (256 * h + l) b))) (length-take-le (256 * h + l) b k)
    go (no k) = torn (short t h l b (omega (arith, k)))

-- the first field, and what the rest comes to
module _ (before : List Field) (s : List ℕ) (eight : AllEight before)
    (later : (b : List Field) (r : List ℕ) → AllEight b → length r < length s → (o : Outcome Asked) × MeansAfter b r o) where
  with_field : (f : Field) (rest : List ℕ) (e : s ≡ spelt f ++ rest) (w : Whole f) (c : Course) → fate_of (last_tag before) f.tag (said f) ≡ c
      → (o : Outcome Asked) × MeansAfter before s o
  with_field f rest e w skipped t =
      let r = later before rest eight (fewer s f rest e) in (r.0, skipping before s f rest e w t r.0 r.1)
  with_field f rest e w taken t =
      let r = later (f ∷ before) rest (w ∙ taken_size (last_tag before) f.tag (said f) t, eight) (fewer s f rest e) in
      (r.0, taking before s f rest e w t r.0 r.1)
  with_field f rest e w (stopped n) t = (refused n, stop f rest e w t)

  first_then : Opened s → (o : Outcome Asked) × MeansAfter before s o
  first_then (nothing e) = (finished (seen_of before), rw e (at_end before eight))
  first_then (torn c) = (refused 10, cut c)
  first_then (field f rest e w) = with_field f rest e w (fate_of (last_tag before) f.tag (said f)) refl

some_after : (k : ℕ) (before : List Field) (s : List ℕ) → AllEight before → length s ≤ k → (o : Outcome Asked) × MeansAfter before s o
some_after zero before s eight h = first_then before s eight (λ b r a l. absurd (none_before l h)) (opened s)
  where
    none_before : {a b : ℕ} → a < b → b ≤ 0 → ⊥
    none_before l h = omega arith
some_after (suc k) before s eight h = first_then before s eight (λ b r a l. some_after k b r a (omega arith)) (opened s)

pub always_one : (s : List ℕ) → (o : Outcome Asked) × Means s o
always_one s = let r = some_after (length s) [] s tt (omega arith) in (r.0, from_none s r.0 r.1)

-- so what it decides is what the bytes come to
pub decided_means : (s : List ℕ) → Means s (decided (suc (length s)) [] s)
decided_means s = let r = always_one s in rw (decides s r.0 r.1) r.1
