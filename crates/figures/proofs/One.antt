-- No second answer: whatever answer, lent array and lent rows at exit meet the contract of a public function are equal. Stated over
-- the contracts themselves.
-- Assumes nothing.
use mathlib.Core.List.{List}
use mathlib.Core.Path.{◌≡◌, refl, sym, ◌∙◌, ap}
use Prim.Native.Nat.{ℕ}
use native.Mathlib.Omega.{arith}
use Rattle.std.specs.Prelude.{Result, Ok, Err}
use Rattle.refusals.specs.declared.Refusal.{Refusal}
use Rattle.refusals.proofs.Laws.{number_injective, number_from}
use Rattle.runs.proofs.One.{One}
use Rattle.figures.specs.Sheets.{Answer}
use Rattle.figures.specs.Answered.{answered}
use Rattle.figures.proofs.add.Kinds as add-kinds
use Rattle.figures.proofs.add.Reads as add_reads
use Rattle.figures.proofs.closed.Kinds as closed-kinds
use Rattle.figures.proofs.closed.Reads as closed-reads
use Rattle.figures.proofs.sheet.Kinds as sheet-kinds
use Rattle.figures.proofs.sheet.Reads as sheet-reads
use Rattle.figures.proofs.start.Kinds as start-kinds
use Rattle.figures.proofs.start.Reads as start-reads
use Rattle.figures.proofs.take.Kinds as take-kinds
use Rattle.figures.proofs.take.Reads as take-reads

-- an answer's number and row are that answer's alone
same_answer : (x y : Result (List ℕ) Refusal) → answered x ≡ answered y → x ≡ y
same_answer (Ok a) (Ok b) e = ap (λ (r : Answer). Ok r.totals) e
same_answer (Ok a) (Err r) e = absurd (omega (arith, ap (λ (x : Answer). x.refusal) e, number_from r))
same_answer (Err r) (Ok b) e = absurd (omega (arith, ap (λ (x : Answer). x.refusal) e, number_from r))
same_answer (Err r) (Err q) e = ap Err (number_injective (ap (λ (x : Answer). x.refusal) e))

pub start_one : One start-kinds.ps start-kinds.r start-reads.Pre start-reads.Post
start_one κs a x y v w pre p q = (p ∙ sym q, refl)

pub take_one : One take-kinds.ps take-kinds.r take-reads.Pre take-reads.Post
take_one κs a x y v w pre p q = (p.goes_on ∙ sym q.goes_on, λ i. (tt, ((p.holds ∙ sym q.holds) i, (tt, tt))))

pub sheet_one : One sheet-kinds.ps sheet-kinds.r sheet-reads.Pre sheet-reads.Post
sheet_one κs a x y v w pre p q = (
  same_answer x y (p.answered ∙ sym q.answered),
  λ i. (tt, (tt, ((p.rows_after ∙ sym q.rows_after) i, tt))),
)

pub add_one_log : One add-kinds.ps add-kinds.r add_reads.Pre add_reads.Post
add_one_log κs a x y v w pre p q = (
  p.totals_are ∙ sym q.totals_are,
  λ i. ((p.rows_after ∙ sym q.rows_after) i, (tt, (tt, (tt, tt)))),
)

pub closed_one : One closed-kinds.ps closed-kinds.r closed-reads.Pre closed-reads.Post
closed_one κs a x y v w pre p q = (same_answer x y (p ∙ sym q), refl)
