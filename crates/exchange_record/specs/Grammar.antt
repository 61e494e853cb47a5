-- To believe: the exchange record. What is accepted is a grammar: a list of fields and the bytes that they are written as. What is refused is a relation
-- of its own, field by field. That no bytes are both, that all bytes are one of the two, and that there is one pair or one number at most are theorems
-- (proofs/Exchange). Assumes nothing: these are definitions.
use Rattle.std.specs.Prelude.{◌≡◌, cond, ◌&&◌, List, [], ◌∷◌, ◌++◌, ℕ, ◌+◌, ◌*◌, ◌<◌, leb, ltb, eqb, length}
use Rattle.common.specs.Outcome.{Outcome, value, refused}
use Rattle.exchange_record.specs.declared.Pair.{Pair}
use Rattle.exchange_record.specs.declared.Pair.TheVariants.{PT, TD, PH, PS, HS}
use Rattle.exchange_record.specs.declared.Asked.{Asked}

-- ---- fields and their bytes

pub record Field : Type 0 where
  pub tag : ℕ
  pub high : ℕ
  pub low : ℕ
  pub body : List ℕ

-- the length that a field's two bytes say, the high one first
abbrev pub said : Field → ℕ
said f = 256 * f.high + f.low

-- it has as many bytes as it says
abbrev pub Whole : Field → Type 0
Whole f = length f.body ≡ said f

abbrev pub AllWhole : List Field → Type 0
AllWhole [] = Unit
AllWhole (f ∷ fs) = Whole f × AllWhole fs

abbrev pub spelt : Field → List ℕ
spelt f = f.tag ∷ f.high ∷ f.low ∷ f.body

-- a record: its fields, one after the other
abbrev pub encoded : List Field → List ℕ
encoded [] = []
encoded (f ∷ fs) = spelt f ++ encoded fs

-- ---- numbers and pairs

-- bytes as a number, the high byte first
abbrev pub word_from : ℕ → List ℕ → ℕ
word_from n [] = n
word_from n (b ∷ bs) = word_from (256 * n + b) bs

abbrev pub word : List ℕ → ℕ
word = word_from 0

pub data Tagged : Type 0 where
  tagged : ℕ → ℕ → Pair → Tagged

-- p has tag 1, T 2, d 3, h 4, s 5
abbrev pub pairs : List Tagged
pairs = tagged 1 2 PT ∷ tagged 2 3 TD ∷ tagged 1 4 PH ∷ tagged 1 5 PS ∷ tagged 4 5 HS ∷ []

abbrev pub pair_in : List Tagged → ℕ → ℕ → Outcome Pair
pair_in [] x y = refused 14
pair_in (tagged i j p ∷ rs) x y = cond (eqb x i && eqb y j) (value p) (pair_in rs x y)

-- the pair of two tags, or 14
abbrev pub pair_of : ℕ → ℕ → Outcome Pair
pair_of = pair_in pairs

-- ---- what is accepted

-- tags from 128 up are skipped, wherever they stand
abbrev pub known : List Field → List Field
known [] = []
known (f ∷ fs) = cond (leb 128 f.tag) (known fs) (f ∷ known fs)

-- exactly two fields, of eight bytes each, whose tags are a pair
pub record Forms (fs : List Field) (q : Asked) : Type 0 where
  pub first : Field
  pub second : Field
  pub two : fs ≡ first ∷ second ∷ []
  pub pair : pair_of first.tag second.tag ≡ value q.pair
  pub eight_a : length first.body ≡ 8
  pub eight_b : length second.body ≡ 8
  pub a : q.a ≡ word first.body
  pub b : q.b ≡ word second.body

pub record Accepted (s : List ℕ) (q : Asked) : Type 0 where
  pub fields : List Field
  pub bytes : s ≡ encoded fields
  pub whole : AllWhole fields
  pub forms : Forms (known fields) q

-- ---- what is refused

-- fewer than the three bytes of a header, or fewer than the length after them
pub data Cut : List ℕ → Type 0 where
  tag_alone : (t : ℕ) → Cut (t ∷ [])
  half_a_length : (t h : ℕ) → Cut (t ∷ h ∷ [])
  short : (t h l : ℕ) (rest : List ℕ) → length rest < 256 * h + l → Cut (t ∷ h ∷ l ∷ rest)

pub data Course : Type 0 where
  skipped : Course
  taken : Course
  stopped : ℕ → Course

-- a whole field after the known tag `last`: 11 unknown tag, 12 wrong length, 13 order or repeat, in this order
unfoldable pub fate_of : ℕ → ℕ → ℕ → Course
fate_of last tag size =
    cond (leb 128 tag) skipped
    (cond (ltb 0 tag && leb tag 5)
    (cond (eqb size 8) (cond (leb tag last) (stopped 13) taken) (stopped 12))
    (stopped 11))

-- the known fields so far stand newest first
abbrev pub last_tag : List Field → ℕ
last_tag [] = 0
last_tag (f ∷ fs) = f.tag

abbrev pub pair_among : List Field → Outcome Pair
pair_among [] = refused 14
pair_among (x ∷ []) = refused 14
pair_among (y ∷ x ∷ []) = pair_of x.tag y.tag
pair_among (z ∷ y ∷ x ∷ fs) = refused 14

-- after the known fields `before`, the bytes s are refused with n
pub data RefusedAfter : List Field → List ℕ → ℕ → Type 0 where
  cut : {before : List Field} {s : List ℕ} → Cut s → RefusedAfter before s 10
  stop : {before : List Field} {s : List ℕ} {n : ℕ} (f : Field) (rest : List ℕ) → s ≡ spelt f ++ rest → Whole f
      → fate_of (last_tag before) f.tag (said f) ≡ stopped n → RefusedAfter before s n
  skip : {before : List Field} {s : List ℕ} {n : ℕ} (f : Field) (rest : List ℕ) → s ≡ spelt f ++ rest → Whole f
      → fate_of (last_tag before) f.tag (said f) ≡ skipped → RefusedAfter before rest n → RefusedAfter before s n
  take : {before : List Field} {s : List ℕ} {n : ℕ} (f : Field) (rest : List ℕ) → s ≡ spelt f ++ rest → Whole f
      → fate_of (last_tag before) f.tag (said f) ≡ taken → RefusedAfter (f ∷ before) rest n → RefusedAfter before s n
  unpaired : {before : List Field} → pair_among before ≡ refused 14 → RefusedAfter before [] 14

abbrev pub Refused : List ℕ → ℕ → Type 0
Refused = RefusedAfter []
