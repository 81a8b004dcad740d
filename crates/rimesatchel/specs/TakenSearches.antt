-- Whether a log that is taken in pieces holds anything: its state as numbers, and what each call leaves, as include/rimesatchel.h has it.
-- Assumes nothing.
use Rattle.std.specs.Prelude.{cond, not, List, [], ◌∷◌, ◌≡◌, ℕ, ◌%◌, eqb, get_or, replicate}
use Rattle.pieces.specs.Steps.{stood_of}
use Rattle.presence.specs.declared.Presence.{Presence}
use Rattle.presence.specs.declared.Search.{Search}
use Rattle.presence.specs.Taking.{search_start, search_after, reads_on, answer_at_end}
use Rattle.rimesatchel.specs.Contents.{presence_numbers}
use Rattle.rimesatchel.specs.States.{standing_in, receiver_in, with_numbers, number_of, Turns}

unfoldable pub search_from : List ℕ → Search
search_from s =
    record {
      standing = standing_in s;
      sought = record {
        state = receiver_in s;
        refusal = get_or s 11 0 % 256;
        found = not (eqb (get_or s 12 0) 0);
        number = get_or s 13 0;
      };
    }

unfoldable pub search_numbers : Search → List ℕ
search_numbers s =
    with_numbers s.standing s.sought.state (s.sought.refusal ∷ number_of s.sought.found ∷ s.sought.number ∷ [])

-- of a log of any length
pub record SearchStarted (refusal : ℕ) (state held : List ℕ) : Type 0 where
  pub refused : refusal ≡ 0
  pub leaves : state ≡ search_numbers search_start
  pub holds : held ≡ replicate 49 0
  pub begins : search_from state ≡ search_start

-- "and 'nothing more need be read' as soon as that is so"
pub record SearchTaken (state held piece : List ℕ) (refusal : ℕ) (state₁ held₁ : List ℕ) (more : ℕ) : Type 0 where
  pub refused : refusal ≡ 0
  pub leaves : state₁ ≡ search_numbers (search_after (search_from state) held piece)
  pub holds : held₁ ≡ (stood_of (search_from state).standing held piece).held
  pub goes_on : search_from state₁ ≡ search_after (search_from state) held piece
  pub reads : more ≡ number_of (reads_on (search_after (search_from state) held piece))

-- the answer's two numbers, and zeros where the header is refused, whatever the state
unfoldable pub answer_numbers : Presence → List ℕ
answer_numbers p = cond (eqb p.refusal 0) (presence_numbers p) (0 ∷ 0 ∷ [])

pub record SearchEnded (state held : List ℕ) (refusal : ℕ) (answer : List ℕ) : Type 0 where
  pub refused : refusal ≡ (answer_at_end (search_from state) held).refusal
  pub answers : answer ≡ answer_numbers (answer_at_end (search_from state) held)

-- what calls answer for a log in pieces
pub record Answered : Type 0 where
  pub refusal : ℕ
  pub answer : List ℕ

pub record SearchPrints (state held piece state₁ held₁ : List ℕ) (part : Unit {0}) : Type 0 where
  pub more : ℕ
  pub call : SearchTaken state held piece 0 state₁ held₁ more

abbrev pub SearchAnswered : List (List ℕ) → List ℕ → List ℕ → Answered → Type 0
SearchAnswered pieces state held said =
    Turns (λ part rest. rest) SearchPrints (λ state held said. SearchEnded state held said.refusal said.answer) pieces state held said
