-- To believe: which number names which entry.
use Rattle.std.specs.Prelude.{ℕ, List, [], ◌∷◌, get_or, Option, None, Some}
use Rattle.entry_numbers.specs.declared.Entry.{Entry}
use Rattle.entry_numbers.specs.declared.Entry.TheVariants.{Power, Root, Logarithm, Exponential, PSaturation, TSaturation, Boundary, Letter, LetterVolume, Volume, PhaseVolume, PhT, PhV, PsT, PsV, HsP, BorderT, BorderP, TdRecord, PtRecord, PhRecord, PsRecord, HsRecord, Property, PvRecord, ThRecord, TsRecord, ColumnRow, CpW, PvT, ThD, TsD}

-- ten a line, from 0 on
abbrev pub entries : List (Option Entry)
entries =
    None ∷ Some Power ∷ Some Root ∷ Some Logarithm ∷ Some Exponential ∷ Some PSaturation ∷ Some TSaturation ∷ Some Boundary ∷ Some Letter ∷ Some LetterVolume
    ∷ Some Volume ∷ Some PhaseVolume ∷ Some PhT ∷ Some PhV ∷ Some PsT ∷ Some PsV ∷ Some HsP ∷ None ∷ Some BorderT ∷ Some BorderP
    ∷ Some TdRecord ∷ Some PtRecord ∷ Some PhRecord ∷ Some PsRecord ∷ Some HsRecord ∷ Some Property ∷ Some PvRecord ∷ Some ThRecord ∷ Some TsRecord ∷ None
    ∷ Some ColumnRow ∷ None ∷ None ∷ None ∷ Some CpW ∷ Some PvT ∷ Some ThD ∷ Some TsD ∷ []

-- past the list there is none
unfoldable pub entry_of : ℕ → Option Entry
entry_of k = get_or entries k None
