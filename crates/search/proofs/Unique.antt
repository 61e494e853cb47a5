-- Each contract admits one answer, the trials included, whatever the caller's record holds. Assumes nothing.
use Prim.Native.Nat.{ℕ}
use mathlib.Core.Path.{◌≡◌, ap}
use Rattle.std.specs.Prelude.{Result}
use Rattle.common.specs.declared.Refusal.{Refusal}
use Rattle.common.proofs.Same.{One, same_result}
use Rattle.record.specs.declared.Record.{Record}
use Rattle.search.specs.Calls.{SearchedReport, paper_searched}
use Rattle.search.specs.declared.SearchedRecord.{SearchedRecord}
use Rattle.search.proofs as own

together : (v w : Result Unit Refusal) (r s : Record) (m n : ℕ) → v ≡ w → r ≡ s → m ≡ n → ◌≡◌ {A = SearchedRecord} (record { verdict = v; «record» = r; trials = m }) (record { verdict = w; «record» = s; trials = n })
together v w r s m n e f g = cc

pub same_searched : (o : SearchedReport) (a b : SearchedRecord) → paper_searched a ≡ o → paper_searched b ≡ o → a ≡ b
same_searched o a b p q =
    together _ _ _ _ _ _
    (same_result o.verdict _ _ (ap (λ (z : SearchedReport). z.verdict) p) (ap (λ (z : SearchedReport). z.verdict) q))
    (cc (ap (λ (z : SearchedReport). z.state) p, ap (λ (z : SearchedReport). z.state) q))
    (cc (ap (λ (z : SearchedReport). z.trials) p, ap (λ (z : SearchedReport). z.trials) q))

pub pv2T_reg3_one : One 0 own.calls.pv2T_reg3.Kinds.ps own.calls.pv2T_reg3.Kinds.r own.calls.pv2T_reg3.Reads.Post
pv2T_reg3_one κs a e x y p q = same_result _ x y p q

pub Th2d_reg3_one : One 0 own.calls.Th2d_reg3.Kinds.ps own.calls.Th2d_reg3.Kinds.r own.calls.Th2d_reg3.Reads.Post
Th2d_reg3_one κs a e x y p q = same_result _ x y p q

pub Ts2d_reg3_one : One 0 own.calls.Ts2d_reg3.Kinds.ps own.calls.Ts2d_reg3.Kinds.r own.calls.Ts2d_reg3.Reads.Post
Ts2d_reg3_one κs a e x y p q = same_result _ x y p q

pub pv_reg3_one : One 0 own.calls.pv_reg3.Kinds.ps own.calls.pv_reg3.Kinds.r own.calls.pv_reg3.Reads.Post
pv_reg3_one κs a e x y p q = same_searched _ x y p q

pub Th_reg3_one : One 0 own.calls.Th_reg3.Kinds.ps own.calls.Th_reg3.Kinds.r own.calls.Th_reg3.Reads.Post
Th_reg3_one κs a e x y p q = same_searched _ x y p q

pub Ts_reg3_one : One 0 own.calls.Ts_reg3.Kinds.ps own.calls.Ts_reg3.Kinds.r own.calls.Ts_reg3.Reads.Post
Ts_reg3_one κs a e x y p q = same_searched _ x y p q
