-- The reader's way through the fields: what it has passed, and that what follows decides the whole. Assumes nothing.
use mathlib.Core.Path.{◌≡◌, refl, ap, ◌∙◌}
use mathlib.Core.Logic.{◌⊎◌, inl, inr, ⊎_elim}
use mathlib.Core.List.{List, [], ◌∷◌, ◌++◌}
use Prim.Native.Nat.{ℕ}
use lib.ListN.{length}
use Rattle.common.specs.Outcome.{Outcome, value, refused}
use Rattle.exchange_record.specs.declared.Asked.{Asked}
use Rattle.exchange_record.specs.declared.Pair.{Pair}
use Rattle.exchange_record.specs.Grammar.{Field, said, Whole, AllWhole, spelt, encoded, word, known, pair_of, Forms, skipped, taken, fate_of, last_tag}
use Rattle.exchange_record.specs.Grammar.{RefusedAfter, cut, stop, skip, take, unpaired, Refused}
use Rattle.exchange_record.specs.Reading.{Means}
use Rattle.exchange_record.specs.Walk.{last_of, added, kept, seen_of, asked_by, finished, Passed, Stops}
use Rattle.exchange_record.specs.declared.Seen.{Seen}
use Rattle.exchange_record.specs.declared.Seen.TheVariants.{Nothing}
use Rattle.std.proofs.lemmas.List.{nil_from_length}
use Rattle.exchange_record.proofs.Pairs.{paired_or_not}
use Rattle.exchange_record.proofs.Fields.{taken_size, taken_known, skipped_unknown}

-- ---- what follows the known fields `before`, newest first

abbrev pub onto : List Field → List Field → List Field
onto [] ks = ks
onto (f ∷ fs) ks = onto fs (f ∷ ks)

pub record AcceptedAfter (before : List Field) (s : List ℕ) (q : Asked) : Type 0 where
  pub fields : List Field
  pub bytes : s ≡ encoded fields
  pub whole : AllWhole fields
  pub forms : Forms (onto before (known fields)) q

abbrev pub MeansAfter : List Field → List ℕ → Outcome Asked → Type 0
MeansAfter before s (value q) = AcceptedAfter before s q
MeansAfter before s (refused n) = RefusedAfter before s n

pub from_none : (s : List ℕ) (o : Outcome Asked) → MeansAfter [] s o → Means s o
from_none s (value q) a = record { fields = a.fields; bytes = a.bytes; whole = a.whole; forms = a.forms }
from_none s (refused n) r = r

module _ (before : List Field) (s : List ℕ) (f : Field) (rest : List ℕ) (e : s ≡ spelt f ++ rest) (w : Whole f) where
  -- a field that is skipped
  pub skipping : fate_of (last_tag before) f.tag (said f) ≡ skipped → (o : Outcome Asked) → MeansAfter before rest o → MeansAfter before s o
  skipping c (value q) a =
      record {
        fields = f ∷ a.fields;
        bytes = e ∙ ap (λ (l : List ℕ). spelt f ++ l) a.bytes;
        whole = (w, a.whole);
        forms = rw (skipped_unknown (last_tag before) f.tag (said f) c) a.forms;
      }
  skipping c (refused n) r = skip f rest e w c r

  -- and one that is taken
  pub taking : fate_of (last_tag before) f.tag (said f) ≡ taken → (o : Outcome Asked) → MeansAfter (f ∷ before) rest o → MeansAfter before s o
  taking c (value q) a =
      record {
        fields = f ∷ a.fields;
        bytes = e ∙ ap (λ (l : List ℕ). spelt f ++ l) a.bytes;
        whole = (w, a.whole);
        forms = rw (taken_known (last_tag before) f.tag (said f) c) a.forms;
      }
  taking c (refused n) r = take f rest e w c r

-- ---- the end of the record

abbrev pub AllEight : List Field → Type 0
AllEight [] = Unit
AllEight (f ∷ fs) = (length f.body ≡ 8) × AllEight fs

two_fields_lem : (x y : Field) → length x.body ≡ 8 → length y.body ≡ 8 → ((p : Pair) × (pair_of x.tag y.tag ≡ value p)) ⊎ (pair_of x.tag y.tag ≡ refused 14)
    → MeansAfter (y ∷ x ∷ []) [] (asked_by x.tag (word x.body) y.tag (word y.body))
unfolding asked_by
two_fields_lem x y hx hy (inl (p, e)) =
    rw e
    (record {
      fields = [];
      bytes = refl;
      whole = tt;
      forms = record { first = x; second = y; two = refl; pair = e; eight_a = hx; eight_b = hy; a = refl; b = refl };
    })
two_fields_lem x y hx hy (inr e) = rw e (unpaired e)

pub at_end : (before : List Field) → AllEight before → MeansAfter before [] (finished (seen_of before))
at_end [] h = unpaired refl
at_end (x ∷ []) h = unpaired refl
at_end (y ∷ x ∷ []) h = two_fields_lem x y h.1.0 h.0 (paired_or_not x.tag y.tag)
at_end (z ∷ y ∷ x ∷ fs) h = unpaired refl

-- ---- what the reader keeps

last_seen : (before : List Field) → last_of (seen_of before) ≡ last_tag before
last_seen [] = refl
last_seen (x ∷ []) = refl
last_seen (y ∷ x ∷ []) = refl
last_seen (z ∷ y ∷ x ∷ fs) = refl

add_seen : (f : Field) (before : List Field) → added (seen_of before) (kept f) ≡ seen_of (f ∷ before)
add_seen f [] = refl
add_seen f (x ∷ []) = refl
add_seen f (y ∷ x ∷ []) = refl
add_seen f (z ∷ y ∷ x ∷ fs) = refl

pub record Reached (s : List ℕ) (seen : Seen) (rest : List ℕ) : Type 0 where
  pub before : List Field
  pub eight : AllEight before
  pub kept : seen ≡ seen_of before
  pub means : (o : Outcome Asked) → MeansAfter before rest o → Means s o

module _ (s : List ℕ) (seen : Seen) (rest : List ℕ) (r : Reached s seen rest) where
  latest : last_of seen ≡ last_tag r.before
  latest = ap last_of r.kept ∙ last_seen r.before

  pub goes_on : (after : Seen) (left : List ℕ) → Passed rest seen after left → Reached s after left
  goes_on after left p = ⊎_elim over into p.course
    where
      over : (fate_of (last_of seen) p.field.tag (said p.field) ≡ skipped) × (after ≡ seen) → Reached s after left
      over h =
          record {
            before = r.before;
            eight = r.eight;
            kept = h.1 ∙ r.kept;
            means = λ o m. r.means o (skipping r.before rest p.field left p.bytes p.whole (rw (← latest) h.0) o m);
          }

      into : (fate_of (last_of seen) p.field.tag (said p.field) ≡ taken) × (after ≡ added seen (kept p.field)) → Reached s after left
      into h =
          record {
            before = p.field ∷ r.before;
            eight = (p.whole ∙ taken_size _ _ _ h.0, r.eight);
            kept = h.1 ∙ ap (λ m. added m (kept p.field)) r.kept ∙ add_seen p.field r.before;
            means = λ o m. r.means o (taking r.before rest p.field left p.bytes p.whole (rw (← latest) h.0) o m);
          }

  pub stops : (n : ℕ) → Stops rest seen n → Refused s n
  stops n (inl (c, e)) = rw e (r.means (refused 10) (cut c))
  stops n (inr k) = r.means (refused n) (stop k.field k.rest k.bytes k.whole (rw (← latest) k.course))

  pub ends : length rest ≡ 0 → Means s (finished seen)
  ends e = r.means (finished seen) (rw (nil_from_length rest e, r.kept) (at_end r.before r.eight))

pub starts : (s : List ℕ) → Reached s Nothing s
starts s = record { before = []; eight = tt; kept = refl; means = from_none s }
