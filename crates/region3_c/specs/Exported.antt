-- To believe: what an exported call leaves with its caller: a refusal byte, and a number, a letter, a record or columns behind a pointer. Assumes
-- nothing: these are definitions.
use Rattle.record.specs.Record.{fields_of}
use Rattle.std.specs.Prelude.{◌≡◌, List, ℕ, Float}
use Rattle.common.specs.Outcome.{Outcome, number_in, value_in, value_or, zero_f}
use Rattle.subregion.specs.declared.Letter.{Letter}
use Rattle.subregion.specs.Letter.{byte_in}
use Rattle.record.specs.declared.Record.{Record}
use Rattle.column_run.specs.Columns.{Lent, lent}
use Rattle.secant.specs.declared.Proposal.{Proposal}
use Rattle.search.specs.Calls.{SearchedReport}
use Rattle.exchange_record.specs.declared.Pair.{Pair}
use Rattle.exchange_entry.specs.Call.{pair_in, Exchanged}

-- a number: +0.0 beside a refusal
abbrev pub Exported : Outcome Float → ℕ → Float → Type 0
Exported o byte number = (byte ≡ number_in o) × (number ≡ value_in o)

-- a letter: 0 beside a refusal
abbrev pub ExportedLetter : Outcome Letter → ℕ → ℕ → Type 0
ExportedLetter o byte letter = (byte ≡ number_in o) × (letter ≡ byte_in o)

-- a record, by its report: +0.0 in every field beside a refusal
abbrev pub ExportedRecord : Outcome Unit × Record → ℕ → List Float → Type 0
ExportedRecord s byte fields = (byte ≡ number_in s.0) × (fields ≡ fields_of s.1)

-- what a search found and its trials: +0.0 and none beside a refusal
abbrev pub nothing : Proposal
nothing = record { place = zero_f; trials = 0 }

abbrev pub ExportedFound : Outcome Proposal → ℕ → Float → ℕ → Type 0
ExportedFound o byte number trials = (byte ≡ number_in o) × (number ≡ (value_or nothing o).place) × (trials ≡ (value_or nothing o).trials)

-- a record whose state a search found, and its trials: +0.0 in every field and none beside a refusal
abbrev pub ExportedSearched : SearchedReport → ℕ → List Float → ℕ → Type 0
ExportedSearched s byte fields trials = (byte ≡ number_in s.verdict) × (fields ≡ fields_of s.state) × (trials ≡ s.trials)

-- the three columns: as they were found beside a refusal
abbrev pub ExportedColumns : Outcome Unit × Lent → ℕ → List ℕ → List Float → List ℕ → Type 0
ExportedColumns s byte letters densities refusals = (byte ≡ number_in s.0) × (lent letters densities refusals ≡ s.1)

-- the answer to an exchange record: the byte of the pair that was read, and the entry's report; a refusal of the reader has neither
abbrev pub ExportedExchange : Outcome Pair × (Outcome Unit × Record) → ℕ → ℕ → List Float → Type 0
ExportedExchange a byte pair fields = (byte ≡ number_in a.1.0) × (pair ≡ pair_in a.0) × (fields ≡ fields_of a.1.1)

pub record ExportedRead (s : List ℕ) (byte pair : ℕ) (fields : List Float) : Type 0 where
  pub answer : Outcome Pair × (Outcome Unit × Record)
  pub exchanged : Exchanged s answer
  pub told : ExportedExchange answer byte pair fields
