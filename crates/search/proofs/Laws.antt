-- The trials beside a record. Assumes nothing.
use Prim.Native.Nat.{ℕ}
use mathlib.Core.Path.{◌≡◌, refl}
use Rattle.common.specs.Outcome.{Outcome, value, refused}
use Rattle.record.specs.Record.{report}
use Rattle.record.specs.declared.Record.{Record}
use Rattle.search.specs.Calls.{record_found, report_searched, with_trials}

pub told : (o : Outcome Record) (n : ℕ) → with_trials n (report o) ≡ report_searched (record_found o n)
told (value r) n = refl
told (refused k) n = refl

pub told_refused : (k n : ℕ) → with_trials n (report (refused k)) ≡ report_searched (refused k)
told_refused k n = refl
