-- The points of the exchange record (docs/SCOPE.md), worked out from the grammar and the refusals in one statement, and some that a rule read in another way
-- would answer otherwise: skipped tags of any length anywhere, a tag that is not above the last known one, a skipped field between them, and a NaN, which is
-- the entry's matter. Worked out by antt. Assumes nothing.
use mathlib.Core.Path.{◌≡◌, refl}
use mathlib.Core.List.{List, [], ◌∷◌, ◌++◌}
use Prim.Native.Nat.{ℕ, suc}
use lib.ListN.{length, replicate}
use lib.ListN.{take as front}
use Rattle.common.specs.Outcome.{Outcome, value, refused}
use Rattle.exchange_record.specs.declared.Asked.{Asked}
use Rattle.exchange_record.specs.declared.Pair.TheVariants.{PT}
use Rattle.exchange_record.specs.Grammar.{fate_of}
use Rattle.exchange_record.specs.Reading.{Means}
use Rattle.exchange_record.specs.Walk.{asked_by}
use Rattle.exchange_record.proofs.Exchange.{body, front_of, on_course, on_front, decided, decided_means}

-- p = 24, T = 650, d = 400, h = 2000, a NaN for p, and p = 18, T = 640
abbrev pub p_field : List ℕ
p_field = 1 ∷ 0 ∷ 8 ∷ 64 ∷ 56 ∷ 0 ∷ 0 ∷ 0 ∷ 0 ∷ 0 ∷ 0 ∷ []

abbrev pub T_field : List ℕ
T_field = 2 ∷ 0 ∷ 8 ∷ 64 ∷ 132 ∷ 80 ∷ 0 ∷ 0 ∷ 0 ∷ 0 ∷ 0 ∷ []

abbrev pub d_field : List ℕ
d_field = 3 ∷ 0 ∷ 8 ∷ 64 ∷ 121 ∷ 0 ∷ 0 ∷ 0 ∷ 0 ∷ 0 ∷ 0 ∷ []

abbrev pub h_field : List ℕ
h_field = 4 ∷ 0 ∷ 8 ∷ 64 ∷ 159 ∷ 64 ∷ 0 ∷ 0 ∷ 0 ∷ 0 ∷ 0 ∷ []

-- one whose tag is larger than any known one
abbrev pub skipped_field : List ℕ
skipped_field = 200 ∷ 0 ∷ 2 ∷ 97 ∷ 98 ∷ []

abbrev pub p_NaN : List ℕ
p_NaN = 1 ∷ 0 ∷ 8 ∷ 127 ∷ 248 ∷ 0 ∷ 0 ∷ 0 ∷ 0 ∷ 0 ∷ 0 ∷ []

abbrev pub p_18 : List ℕ
p_18 = 1 ∷ 0 ∷ 8 ∷ 64 ∷ 50 ∷ 0 ∷ 0 ∷ 0 ∷ 0 ∷ 0 ∷ 0 ∷ []

abbrev pub T_640 : List ℕ
T_640 = 2 ∷ 0 ∷ 8 ∷ 64 ∷ 132 ∷ 0 ∷ 0 ∷ 0 ∷ 0 ∷ 0 ∷ 0 ∷ []

pub data Row : Type 0 where
  row : List ℕ → Outcome Asked → Row

abbrev pub table : List Row
table =
    row (p_field ++ T_field) (value (record { pair = PT; a = 0x4038_0000_0000_0000; b = 0x4084_5000_0000_0000 })) ∷
    row ((200 ∷ 0 ∷ 0 ∷ []) ++ p_field ++ (128 ∷ 0 ∷ 3 ∷ 97 ∷ 98 ∷ 99 ∷ []) ++ T_field ++ (255 ∷ 1 ∷ 44 ∷ replicate 300 90))
    (value (record { pair = PT; a = 0x4038_0000_0000_0000; b = 0x4084_5000_0000_0000 })) ∷
    row ([]) (refused 14) ∷
    row (p_field) (refused 14) ∷
    row (p_field ++ d_field) (refused 14) ∷
    row (T_field ++ h_field) (refused 14) ∷
    row (p_field ++ T_field ++ d_field) (refused 14) ∷
    row (p_field ++ T_field ++ d_field ++ (6 ∷ 0 ∷ 0 ∷ [])) (refused 11) ∷
    row (6 ∷ []) (refused 10) ∷
    row (6 ∷ 0 ∷ 9 ∷ replicate 8 0) (refused 10) ∷
    row (p_field ++ T_field ++ (128 ∷ [])) (refused 10) ∷
    row (front 21 (p_field ++ T_field)) (refused 10) ∷
    row (p_field ++ T_field ++ (128 ∷ 0 ∷ 1 ∷ [])) (refused 10) ∷
    row (0 ∷ 0 ∷ 8 ∷ replicate 8 0) (refused 11) ∷
    row (127 ∷ 0 ∷ 8 ∷ replicate 8 0) (refused 11) ∷
    row (1 ∷ 0 ∷ 7 ∷ replicate 7 64) (refused 12) ∷
    row (1 ∷ 0 ∷ 0 ∷ []) (refused 12) ∷
    row (p_field ++ (1 ∷ 0 ∷ 3 ∷ 0 ∷ 0 ∷ 0 ∷ [])) (refused 12) ∷
    row (p_field ++ p_field) (refused 13) ∷
    row (T_field ++ p_field) (refused 13) ∷
    row (p_NaN ++ T_field) (value (record { pair = PT; a = 0x7ff8_0000_0000_0000; b = 0x4084_5000_0000_0000 })) ∷
    row (p_18 ++ T_640) (value (record { pair = PT; a = 0x4032_0000_0000_0000; b = 0x4084_0000_0000_0000 })) ∷
    row (p_field ++ skipped_field ++ p_field) (refused 13) ∷
    row (T_field ++ skipped_field ++ p_field) (refused 13) ∷
    row (p_field ++ T_field ++ skipped_field ++ T_field) (refused 13) ∷
    row (p_field ++ T_field ++ d_field ++ skipped_field ++ d_field) (refused 13) ∷
    []

-- each row's bytes come to its outcome
abbrev pub Holds : List Row → Type 0
Holds [] = Unit
Holds (row s o ∷ rs) = Means s o × Holds rs

decided_rows : List Row → List (Outcome Asked)
decided_rows [] = []
decided_rows (row s o ∷ rs) = decided (suc (length s)) [] s ∷ decided_rows rs

told_rows : List Row → List (Outcome Asked)
told_rows [] = []
told_rows (row s o ∷ rs) = o ∷ told_rows rs

holds : (rs : List Row) → decided_rows rs ≡ told_rows rs → Holds rs
unfolding decided_rows told_rows
holds [] e = tt
holds (row s o ∷ rs) e =
    let first : decided (suc (length s)) [] s ≡ o = cc in
    let rest : decided_rows rs ≡ told_rows rs = cc in
    (rw first at (decided_means s), holds rs rest)

all_decided : decided_rows table ≡ told_rows table
unfolding decided_rows told_rows decided on_front on_course front_of body fate_of asked_by
all_decided = refl

pub points : Holds table
points = holds table all_decided
