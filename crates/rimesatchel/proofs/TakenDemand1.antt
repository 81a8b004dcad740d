-- Demand 1 of the calls that take a log in pieces: each refuses exactly where the request says so, under that number, and then nothing
-- lent changes and what it reports through is zeros. Stated over what the contracts promise.
-- Assumes nothing.
use mathlib.Core.Bool.{Bool, true, false, cond}
use mathlib.Core.List.{List}
use mathlib.Core.Path.{◌≡◌, refl, ◌∙◌}
use Prim.Native.Nat.{ℕ}
use borrow.Author.Tests.{ne_eqb}
use lib.ListN.{replicate}
use Rattle.runs.specs.Runs.{over}
use Rattle.runs.proofs.Laws.{split}
use Rattle.figures.specs.declared.Counts.{Counts}
use Rattle.figures.specs.Figures.{too_many_of}
use Rattle.figures.specs.Adding.{closed_of}
use Rattle.presence.specs.Taking.{answer_at_end}
use Rattle.rimesatchel.specs.States.{room_refusal}
use Rattle.rimesatchel.specs.TakenFigures.{figures_from, FiguresEnded}
use Rattle.rimesatchel.specs.TakenLists.{list_room, end_room, ListTaken, ListEnded}
use Rattle.rimesatchel.specs.TakenSalvages.{both_room, last_room, SalvageTaken, SalvageEnded}
use Rattle.rimesatchel.specs.TakenSearches.{search_from, answer_numbers, SearchEnded}

-- a call that is refused had no room
no_room : (room : Bool) {refusal : ℕ} → refusal ≡ room_refusal room → (refusal ≡ 0 → ⊥) → room ≡ false
no_room true is some = absurd (some is)
no_room false is some = refl

-- 21: "where a run is shorter than such a piece's text can be, and nothing has moved then"; "`*written` is 0 on a refusal"
pub demand_1_list_take : {state held piece text : List ℕ} {refusal : ℕ} {state₁ held₁ text₁ : List ℕ} {written : ℕ}
    → ListTaken state held piece text refusal state₁ held₁ text₁ written → (refusal ≡ 0 → ⊥)
    → (state₁ ≡ state) × (held₁ ≡ held) × (text₁ ≡ text) × (written ≡ 0)
unfolding over
demand_1_list_take {piece = piece} {text = text} call some =
    let e : list_room piece text ≡ false = no_room (list_room piece text) call.refused some in
    (call.leaves ∙ rw e, call.holds ∙ rw e, call.wrote ∙ rw e, call.counted ∙ rw e)

pub demand_1_list_end : {state held text : List ℕ} {refusal : ℕ} {text₁ : List ℕ} {written : ℕ}
    → ListEnded state held text refusal text₁ written → (refusal ≡ 0 → ⊥) → (text₁ ≡ text) × (written ≡ 0)
unfolding over
demand_1_list_end {text = text} call some =
    let e : end_room text ≡ false = no_room (end_room text) call.refused some in
    (call.wrote ∙ rw e, call.counted ∙ rw e)

pub demand_1_salvage_take : {state held piece out notes : List ℕ} {refusal : ℕ} {state₁ held₁ out₁ notes₁ written : List ℕ}
    → SalvageTaken state held piece out notes refusal state₁ held₁ out₁ notes₁ written → (refusal ≡ 0 → ⊥)
    → (state₁ ≡ state) × (held₁ ≡ held) × (out₁ ≡ out) × (notes₁ ≡ notes) × (written ≡ replicate 2 0)
unfolding over
demand_1_salvage_take {piece = piece} {out = out} {notes = notes} call some =
    let e : both_room piece out notes ≡ false = no_room (both_room piece out notes) call.refused some in
    (call.leaves ∙ rw e, call.holds ∙ rw e, call.wrote_out ∙ rw e, call.wrote_notes ∙ rw e, call.counted ∙ rw e)

pub demand_1_salvage_end : {state held notes : List ℕ} {refusal : ℕ} {notes₁ : List ℕ} {written : ℕ}
    → SalvageEnded state held notes refusal notes₁ written → (refusal ≡ 0 → ⊥) → (notes₁ ≡ notes) × (written ≡ 0)
unfolding over
demand_1_salvage_end {notes = notes} call some =
    let e : last_room notes ≡ false = no_room (last_room notes) call.refused some in
    (call.wrote ∙ rw e, call.counted ∙ rw e)

-- the header's refusal, and zeros
pub demand_1_anything_end : {state held : List ℕ} {refusal : ℕ} {answer : List ℕ} → SearchEnded state held refusal answer
    → (refusal ≡ 0 → ⊥) → answer ≡ replicate 2 0
unfolding answer_numbers
demand_1_anything_end {state} {held} call some =
    call.answers ∙ rw (ne_eqb (answer_at_end (search_from state) held).refusal 0 (λ e. some (call.refused ∙ e)))

-- "19, its row zeros, where one of the first nine passes 4,294,967,295"
closed_refuses : (c : Counts) → ((closed_of c).refusal ≡ cond (too_many_of c) 19 0) × (((closed_of c).refusal ≡ 0 → ⊥) → (closed_of c).totals ≡ replicate 10 0)
unfolding closed_of
closed_refuses c =
    split (too_many_of c)
    (λ e. rw e (refl, λ some. refl))
    (λ e. rw e (refl, λ some. absurd (some refl)))

pub demand_1_figures_end : {state : List ℕ} {refusal : ℕ} {row : List ℕ} → FiguresEnded state refusal row
    → (refusal ≡ cond (too_many_of (figures_from state).noted.counts) 19 0) × ((refusal ≡ 0 → ⊥) → row ≡ replicate 10 0)
demand_1_figures_end {state} call =
    let c : Counts = (figures_from state).noted.counts in
    (call.refused ∙ (closed_refuses c).0, λ some. call.row_is ∙ (closed_refuses c).1 (λ e. some (call.refused ∙ e)))
