-- What the calls of one log's figures in pieces leave, and what they draw up for a log, however it is divided.
-- Assumes nothing.
use mathlib.Core.List.{List, [], ◌∷◌}
use mathlib.Core.Path.{◌≡◌, refl, ◌∙◌, ap}
use Prim.Native.Nat.{ℕ, ◌≤◌}
use lib.ListN.{length, replicate}
use Rattle.pieces.specs.Steps.{stood_of}
use Rattle.pieces.specs.Taken.{joined_of}
use Rattle.figures.specs.declared.Counts.{Counts}
use Rattle.figures.specs.declared.Tally.{Tally}
use Rattle.figures.specs.Adding.{closed_of}
use Rattle.figures.specs.Figures.{counts_of}
use Rattle.figures.specs.Sheets.{Answer, heard_in}
use Rattle.figures.specs.Taking.{tally_after, tally_over, Takes}
use Rattle.figures.proofs.Adding.{closed_capped}
use Rattle.figures.proofs.Walks.{any_division_counts}
use Rattle.rimesatchel.specs.States.{Within, Turns}
use Rattle.rimesatchel.specs.TakenFigures.{figures_from, figure_numbers, Drawn, FiguresStarted, FiguresTaken, FiguresEnded, FiguresDrawn}
use Rattle.rimesatchel.proofs.StatesLaws.{standing_back, receiver_back}

module _ (t : Tally) where
  -- the numbers that are written give it back
  pub figures_back : Within t.standing t.noted.state → figures_from (figure_numbers t) ≡ t
  unfolding figures_from figure_numbers
  figures_back w i =
      record {
        standing = standing_back t.standing t.noted.state w i;
        noted = record { state = receiver_back t.standing t.noted.state w i; counts = t.noted.counts };
      }

pub figures_taken : (state held piece : List ℕ) {t after : Tally} {held₁ state₁ : List ℕ} → t ≡ figures_from state
    → Takes t held piece after held₁ → state₁ ≡ figure_numbers after → figures_from state₁ ≡ after
    → FiguresTaken state held piece 0 state₁ held₁
figures_taken state held piece is takes gives back =
    let goes = takes.goes_on ∙ ap (λ (x : Tally). tally_after x held piece) is in
    record {
      refused = refl;
      leaves = gives ∙ ap figure_numbers goes;
      holds = takes.holds ∙ ap (λ (x : Tally). (stood_of x.standing held piece).held) is;
      goes_on = back ∙ goes;
    }

pub figures_ended : (state : List ℕ) {t : Tally} {answer : Answer} → t ≡ figures_from state → answer ≡ closed_of t.noted.counts
    → FiguresEnded state answer.refusal answer.totals
figures_ended state is closed =
    let same = closed ∙ ap (λ (x : Tally). closed_of x.noted.counts) is in
    record { refused = ap (λ (a : Answer). a.refusal) same; row_is = ap (λ (a : Answer). a.totals) same }

-- an answer as the calls hand it out
abbrev handed_out_of : Counts → Drawn
handed_out_of c = record { refusal = (closed_of c).refusal; row = (closed_of c).totals }

over_drawn : (ps : List (List ℕ)) (state held : List ℕ) (said : Drawn) → FiguresDrawn ps state held said
    → said ≡ handed_out_of (tally_over (figures_from state) held ps).noted.counts
unfolding Turns tally_over
over_drawn [] state held said ends = λ i. record { refusal = ends.refused i; row = ends.row_is i }
over_drawn (p ∷ ps) state held said turn =
    turn.joins
    ∙ over_drawn ps turn.state₁ turn.held₁ turn.rest turn.behind
    ∙ (λ i. handed_out_of (tally_over (turn.taken.goes_on i) (turn.taken.holds i) ps).noted.counts)

-- whatever the pieces: 19 where one of the nine counts of the log's records is too many, and else their row. A log of more octets
-- can't be counted in 64 bits.
pub pieces_draw_the_row : {refusal : ℕ} {state held : List ℕ} (ps : List (List ℕ)) (said : Drawn) → FiguresStarted refusal state held
    → FiguresDrawn ps state held said → length (joined_of ps) ≤ 18446744073709551615 → said ≡ handed_out_of (counts_of (heard_in (joined_of ps)))
pieces_draw_the_row {state = state} {held = held} ps said started drawn counts =
    over_drawn ps state held said drawn
    ∙ (λ i. handed_out_of (tally_over (started.begins i) (started.holds i) ps).noted.counts)
    ∙ ap handed_out_of (any_division_counts (replicate 49 0) ps refl counts)
    ∙ ap (λ (a : Answer). record { refusal = a.refusal; row = a.totals }) (closed_capped (counts_of (heard_in (joined_of ps))))
