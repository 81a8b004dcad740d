-- Demand 1 for the sheet: it refuses exactly where the request says so, under that number, and then nothing lent changes.
-- Assumes nothing.
use mathlib.Core.Bool.{false}
use mathlib.Core.List.{List}
use mathlib.Core.Path.{◌≡◌, refl, sym, ◌∙◌, ap}
use Prim.Native.Nat.{ℕ}
use borrow.Author.Tests.{eqb-true, ne_eqb}
use lib.Dec.{eqb}
use lib.ListN.{length, replicate}
use Rattle.runs.proofs.Laws.{split}
use Rattle.figures.specs.Sheets.{Answer, sheet_refusal, refused_by, sheet_of, Sheets}

pub answer_refusal : (octets lengths : List ℕ) (rows : ℕ)
    → (sheet_of octets lengths rows).refusal ≡ sheet_refusal octets lengths rows
unfolding sheet_of
answer_refusal octets lengths rows =
    split (eqb (sheet_refusal octets lengths rows) 0)
    (λ t. rw t (sym (eqb-true (sheet_refusal octets lengths rows) 0 t)))
    (λ t. rw t refl)

-- "18 for more than 4,096 logs, then 5 .., then 19 for a total above 4,294,967,295"
pub demand_1_sheet : (octets lengths rows : List ℕ) (answer : Answer) (rows₁ : List ℕ) → Sheets octets lengths rows answer rows₁
    → (answer.refusal ≡ sheet_refusal octets lengths (length rows))
    × ((answer.refusal ≡ 0 → ⊥) → (answer.totals ≡ replicate 10 0) × (rows₁ ≡ rows))
unfolding sheet_of
demand_1_sheet octets lengths rows answer rows₁ s =
    let same : answer.refusal ≡ sheet_refusal octets lengths (length rows) =
    ap (λ (a : Answer). a.refusal) s.answered ∙ answer_refusal octets lengths (length rows) in (
      same,
      λ some.
          let test : eqb (sheet_refusal octets lengths (length rows)) 0 ≡ false = ne_eqb _ 0 (λ e. some (same ∙ e)) in
          let said : answer ≡ refused_by (sheet_refusal octets lengths (length rows)) = s.answered ∙ rw test in
          (ap (λ (a : Answer). a.totals) said, s.rows_after ∙ rw test),
    )
