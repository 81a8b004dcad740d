-- The figures of one log that is taken in pieces: its state as numbers, and what each call leaves, as include/rimesatchel.h has it.
-- Assumes nothing.
use Rattle.std.specs.Prelude.{List, [], ◌∷◌, ◌≡◌, ℕ, get_or, replicate}
use Rattle.pieces.specs.Steps.{stood_of}
use Rattle.figures.specs.declared.Counts.{Counts}
use Rattle.figures.specs.declared.Tally.{Tally}
use Rattle.figures.specs.Adding.{closed_of}
use Rattle.figures.specs.Taking.{start_tally, tally_after}
use Rattle.rimesatchel.specs.States.{standing_in, receiver_in, with_numbers, Turns}

unfoldable pub figures_from : List ℕ → Tally
figures_from s =
    record {
      standing = standing_in s;
      noted = record {
        state = receiver_in s;
        counts = record {
          sound = get_or s 11 0;
          missing = get_or s 12 0;
          refused_8 = get_or s 13 0;
          refused_9 = get_or s 14 0;
          refused_15 = get_or s 15 0;
          refused_20 = get_or s 16 0;
          marked_0 = get_or s 17 0;
          marked_1 = get_or s 18 0;
          marked_2 = get_or s 19 0;
        };
      };
    }

-- the nine counts, in the order of a row
abbrev pub nine_of : Counts → List ℕ
nine_of c =
    c.sound ∷ c.missing ∷ c.refused_8 ∷ c.refused_9 ∷ c.refused_15 ∷ c.refused_20 ∷ c.marked_0 ∷ c.marked_1
    ∷ c.marked_2 ∷ []

unfoldable pub figure_numbers : Tally → List ℕ
figure_numbers t = with_numbers t.standing t.noted.state (nine_of t.noted.counts)

-- of a log of any length
pub record FiguresStarted (refusal : ℕ) (state held : List ℕ) : Type 0 where
  pub refused : refusal ≡ 0
  pub leaves : state ≡ figure_numbers start_tally
  pub holds : held ≡ replicate 49 0
  pub begins : figures_from state ≡ start_tally

pub record FiguresTaken (state held piece : List ℕ) (refusal : ℕ) (state₁ held₁ : List ℕ) : Type 0 where
  pub refused : refusal ≡ 0
  pub leaves : state₁ ≡ figure_numbers (tally_after (figures_from state) held piece)
  pub holds : held₁ ≡ (stood_of (figures_from state).standing held piece).held
  pub goes_on : figures_from state₁ ≡ tally_after (figures_from state) held piece

-- "The figures' end returns 19, its row zeros, where one of the first nine passes 4,294,967,295"
pub record FiguresEnded (state : List ℕ) (refusal : ℕ) (row : List ℕ) : Type 0 where
  pub refused : refusal ≡ (closed_of (figures_from state).noted.counts).refusal
  pub row_is : row ≡ (closed_of (figures_from state).noted.counts).totals

-- what calls answer for a log in pieces
pub record Drawn : Type 0 where
  pub refusal : ℕ
  pub row : List ℕ

abbrev pub FiguresDrawn : List (List ℕ) → List ℕ → List ℕ → Drawn → Type 0
FiguresDrawn pieces state held said =
    Turns {A = Unit {0}} (λ part rest. rest) (λ state held piece state₁ held₁ part. FiguresTaken state held piece 0 state₁ held₁)
    (λ state held said. FiguresEnded state said.refusal said.row) pieces state held said
