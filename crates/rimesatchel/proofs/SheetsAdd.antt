-- Sheets add up, over every three calls of `rime_sheet`.
-- Assumes nothing.
use mathlib.Core.List.{List, ◌++◌}
use mathlib.Core.Path.{◌≡◌}
use Prim.Native.Nat.{ℕ, ◌*◌}
use lib.ListN.{length}
use Rattle.figures.specs.Sheets.{Answer, sum_of, Sheets, AddUp}
use Rattle.figures.proofs.Adds.{sheets_add_up}
use Rattle.rimesatchel.specs.Sheets.{DrawsUp}

abbrev answer : ℕ → List ℕ → Answer
answer refusal totals = record { refusal = refusal; totals = totals }

-- a call is a sheet
as_sheet : {octets lengths rows rows₁ totals₁ : List ℕ} {refusal : ℕ} → DrawsUp octets lengths rows refusal rows₁ totals₁
    → Sheets octets lengths rows (answer refusal totals₁) rows₁
as_sheet p =
    record {
      answered = λ i. record { refusal = p.refused i; totals = p.totals_after i };
      rows_after = p.rows_after;
    }

pub rime_sheets_add_up : {octets more lengths others rows rows' rows'' rows-a rows-b rows_joined a b joined : List ℕ} {x y z : ℕ}
    → sum_of lengths ≡ length octets → length rows ≡ 10 * length lengths → length rows' ≡ 10 * length others
    → DrawsUp octets lengths rows x rows-a a → DrawsUp more others rows' y rows-b b
    → DrawsUp (octets ++ more) (lengths ++ others) rows'' z rows_joined joined → z ≡ 0
    → AddUp (answer x a) (answer y b) (answer z joined) rows-a rows-b rows_joined
rime_sheets_add_up first long long' p q r none = sheets_add_up first long long' (as_sheet p) (as_sheet q) (as_sheet r) none
