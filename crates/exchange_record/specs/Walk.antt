-- Only helps proofs: what the reader keeps of the fields that it passed, and what one step of it comes to.
use Rattle.std.specs.Prelude.{◌≡◌, ◌⊎◌, List, [], ◌∷◌, ◌++◌, ℕ, Result, Ok, Err}
use Rattle.common.specs.Outcome.{Outcome, value, refused, then}
use Rattle.exchange_record.specs.Grammar.{Field, said, Whole, spelt, word, pair_of, Cut, Course, skipped, taken, stopped, fate_of}
use Rattle.exchange_record.specs.Reading.{read_number}
use Rattle.exchange_record.specs.declared.Asked.{Asked}
use Rattle.exchange_record.specs.declared.ReadRefusal.{ReadRefusal}
use Rattle.exchange_record.specs.declared.Known.{Known}
use Rattle.exchange_record.specs.declared.Seen.{Seen}
use Rattle.exchange_record.specs.declared.Seen.TheVariants.{Nothing, One, Two, More}
use Rattle.exchange_record.specs.declared.Fate.{Fate}
use Rattle.exchange_record.specs.declared.Fate.TheVariants.{Skipped, Taken}

abbrev pub paper_fate : Result Fate ReadRefusal → Course
paper_fate (Ok Skipped) = skipped
paper_fate (Ok Taken) = taken
paper_fate (Err k) = stopped (read_number k)

abbrev pub last_of : Seen → ℕ
last_of Nothing = 0
last_of (One x) = x.tag
last_of (Two x y) = y.tag
last_of (More z) = z

abbrev pub added : Seen → Known → Seen
added Nothing f = One f
added (One x) f = Two x f
added (Two x y) f = More f.tag
added (More z) f = More f.tag

abbrev pub kept : Field → Known
kept f = record { tag = f.tag; bits = word f.body }

-- what is kept of the known fields, the newest first
abbrev pub seen_of : List Field → Seen
seen_of [] = Nothing
seen_of (x ∷ []) = One (kept x)
seen_of (y ∷ x ∷ []) = Two (kept x) (kept y)
seen_of (z ∷ y ∷ x ∷ fs) = More z.tag

unfoldable pub asked_by : ℕ → ℕ → ℕ → ℕ → Outcome Asked
asked_by x a y b = then (pair_of x y) (λ p. value (record { pair = p; a = a; b = b }))

abbrev pub finished : Seen → Outcome Asked
finished Nothing = refused 14
finished (One x) = refused 14
finished (Two x y) = asked_by x.tag x.bits y.tag y.bits
finished (More z) = refused 14

-- the first field, whole, is skipped, or taken
pub record Passed (s : List ℕ) (seen after : Seen) (rest : List ℕ) : Type 0 where
  pub field : Field
  pub whole : Whole field
  pub bytes : s ≡ spelt field ++ rest
  pub course :
      ((fate_of (last_of seen) field.tag (said field) ≡ skipped) × (after ≡ seen))
      ⊎ ((fate_of (last_of seen) field.tag (said field) ≡ taken) × (after ≡ added seen (kept field)))

-- or it stops the reader, whole
pub record Stopped (s : List ℕ) (seen : Seen) (n : ℕ) : Type 0 where
  pub field : Field
  pub rest : List ℕ
  pub whole : Whole field
  pub bytes : s ≡ spelt field ++ rest
  pub course : fate_of (last_of seen) field.tag (said field) ≡ stopped n

-- or cut off
abbrev pub Stops : List ℕ → Seen → ℕ → Type 0
Stops s seen n = (Cut s × (n ≡ 10)) ⊎ Stopped s seen n
