-- Each contract admits one answer and one content of each lent buffer. The theorems are about the contracts' own readings, `Reads.Post`.
-- Assumes nothing.
use mathlib.Core.Path.{◌≡◌, sym, ◌∙◌}
use contract.Lifetimes.{Lfts}
use denote.Triple.Clauses.{AtExit}
use borrow.Fn.Kinds.{Dens, ended_of, res_t}
use Rattle.text.proofs.Unique.{wrote_one}
use Rattle.rows.proofs as own

-- the answer, the lines and the two columns
pub page_one : (κs : Lfts 2) (a : Dens κs own.page.Kinds.ps) (d e : AtExit (ended_of 2 own.page.Kinds.ps own.page.Kinds.r) κs) (x y : (res_t own.page.Kinds.r κs).Denot) →
    own.page.Reads.Post κs a x d → own.page.Reads.Post κs a y e →
    ((x ≡ y) × (d.1.1.0.now.lines ≡ e.1.1.0.now.lines)) × (d.1.1.0.now.ps ≡ e.1.1.0.now.ps) × (d.1.1.0.now.ts ≡ e.1.1.0.now.ts)
page_one κs a d e x y p q = (wrote_one p.0 q.0, p.1.1.0 ∙ sym q.1.1.0, p.1.1.1 ∙ sym q.1.1.1)

-- the answer and the lines
pub last_line_one : (κs : Lfts 2) (a : Dens κs own.last_line.Kinds.ps) (d e : AtExit (ended_of 2 own.last_line.Kinds.ps own.last_line.Kinds.r) κs) (x y : (res_t own.last_line.Kinds.r κs).Denot) →
    own.last_line.Reads.Post κs a x d → own.last_line.Reads.Post κs a y e → (x ≡ y) × (d.1.1.0.now ≡ e.1.1.0.now)
last_line_one κs a d e x y p q = wrote_one p.0 q.0
