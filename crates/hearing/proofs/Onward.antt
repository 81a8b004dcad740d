-- A log judged in several calls, each going on where the one before it stopped, is judged as in one.
-- Assumes nothing.
use mathlib.Core.List.{List, [], ◌∷◌, ◌++◌}
use mathlib.Core.Path.{◌≡◌, sym, ◌∙◌, ap, subst}
use Prim.Native.Nat.{ℕ, zero, suc, ◌+◌, ◌*◌, ◌/◌}
use native.Mathlib.Omega.{arith}
use borrow.Author.Tests.{eqb-true, eqb-false, eq-eqb}
use lib.Dec.{eqb}
use lib.ListN.{length, take}
use Rattle.runs.proofs.Laws.{split}
use Rattle.cell_log.specs.Records.{record_at, cell_at}
use Rattle.receiver.specs.declared.Receiver.{Receiver}
use Rattle.receiver.specs.Receiver.{state_refusal}
use Rattle.reading.specs.Heard.{Heard, heard_by, end_by, hear, heard_from, end_of, onward}
use Rattle.reading.specs.Records.{Walk}
use Rattle.reading.proofs.Places.{walk_at, stop_at}
use Rattle.hearing.specs.declared.judging.Judged.{Judged}
use Rattle.hearing.specs.Judging.{all_from, judged_in, judged_to, Judges}

-- the records of a list of them, and all that come behind it
abbrev pub Splits : Receiver → List ℕ → ℕ → ℕ → List Heard → Type 0
Splits st log place n all = all ≡ take n all ++ all_from (end_of st (take n all)) log (place + 49 * length (take n all))

none_behind : (st : Receiver) (log : List ℕ) (place : ℕ) → all_from st log place ≡ all_from (end_of st []) log (place + 49 * length {A = Heard} [])
unfolding end_by
none_behind st log place = let same : place ≡ place + 49 * 0 = omega arith in ap (all_from st log) same

-- so many records, and what comes from the state and the place behind them
pub splits : (n : ℕ) (st : Receiver) (log : List ℕ) (place : ℕ) → Splits st log place n (all_from st log place)
unfolding heard_by end_by
splits zero st log place = none_behind st log place
splits (suc n) st log place =
    split (eqb (record_at log place).what 1)
    (λ e.
    let head = hear st (record { indication = (record_at log place).indication; cell = cell_at log place }) in
    let rest = all_from (onward head) log (place + 49) in
    let comes : all_from st log place ≡ head ∷ rest =
    ap (λ (w : Walk). heard_from st w.records) (walk_at log place (eqb-true (record_at log place).what 1 e)) in
    let far : place + 49 + 49 * length (take n rest) ≡ place + 49 * suc (length (take n rest)) = omega arith in
    let here : Splits st log place (suc n) (head ∷ rest) =
    ap (λ (hs : List Heard). head ∷ hs)
    (splits n (onward head) log (place + 49) ∙ ap (λ (k : ℕ). take n rest ++ all_from (end_of (onward head) (take n rest)) log k) far) in
    subst (Splits st log place (suc n)) (sym comes) here)
    (λ e.
    let ends : all_from st log place ≡ [] =
    ap (λ (w : Walk). heard_from st w.records) (stop_at log place (eqb-false (record_at log place).what 1 e)) in
    subst (Splits st log place (suc n)) (sym ends) (sym ends ∙ none_behind st log place))

-- "a log cut anywhere and gone on with gives the same as one call": what a call judged, and all that comes from its state and next place
-- on, are all that comes from where it began
pub gone_on_with : {st : Receiver} {log : List ℕ} {place : ℕ} {reports : List ℕ} {answer : Judged} {reports₁ : List ℕ} → state_refusal st ≡ 0
    → Judges st log place reports answer reports₁
    → all_from st log place ≡ judged_in st log place (length reports) ++ all_from answer.state log answer.next
gone_on_with {st} {log} {place} {reports} {answer} none j =
    let heard = judged_in st log place (length reports) in
    let is : answer ≡ judged_to st log place heard = j.answered ∙ rw (eq-eqb (state_refusal st) 0 none) in
    splits (length reports / 5) st log place ∙ ap (λ (a : Judged). heard ++ all_from a.state log a.next) (sym is)
