-- What the calls of a search in pieces leave, and what they answer for a log, however it is divided.
-- Assumes nothing.
use mathlib.Core.Bool.{Bool}
use mathlib.Core.List.{List, [], ◌∷◌}
use mathlib.Core.Path.{◌≡◌, refl, sym, ◌∙◌, ap}
use Prim.Native.Nat.{ℕ, ◌≤◌, ◌<◌}
use native.Mathlib.Nat.{mod-eq_of_lt}
use borrow.Author.Tests.{ne_eqb, eq-eqb}
use lib.Dec.{eqb}
use lib.ListN.{length, replicate}
use mir.Val.{bool_byte}
use Rattle.runs.proofs.Laws.{split}
use Rattle.reading.specs.Reading.{reading_of}
use Rattle.pieces.specs.Steps.{stood_of}
use Rattle.pieces.specs.Taken.{joined_of}
use Rattle.presence.specs.declared.Presence.{Presence}
use Rattle.presence.specs.declared.Search.{Search}
use Rattle.presence.specs.Presence.{sounds, some_of, answer_of, presence_of}
use Rattle.presence.specs.Taking.{search_after, reads_on, answer_at_end, answer_over, Takes}
use Rattle.presence.proofs.Going.{any_division_answer}
use Rattle.rimesatchel.specs.Contents.{presence_numbers}
use Rattle.rimesatchel.specs.States.{Within, number_of, Turns}
use Rattle.rimesatchel.specs.TakenSearches.{
  search_from,
  search_numbers,
  answer_numbers,
  Answered,
  SearchStarted,
  SearchTaken,
  SearchEnded,
  SearchAnswered,
}
use Rattle.rimesatchel.proofs.Bytes.{byte_of}
use Rattle.rimesatchel.proofs.StatesLaws.{yes_back, standing_back, receiver_back}

module _ (s : Search) where
  -- the numbers that are written give it back
  pub search_back : Within s.standing s.sought.state → s.sought.refusal < 256 → search_from (search_numbers s) ≡ s
  unfolding search_from search_numbers
  search_back w few i =
      record {
        standing = standing_back s.standing s.sought.state w i;
        sought = record {
          state = receiver_back s.standing s.sought.state w i;
          refusal = mod-eq_of_lt few i;
          found = yes_back s.sought.found i;
          number = s.sought.number;
        };
      }

pub search_taken : (state held piece : List ℕ) {s after : Search} {held₁ state₁ : List ℕ} {on : Bool} → s ≡ search_from state
    → Takes s held piece after held₁ → on ≡ reads_on after → state₁ ≡ search_numbers after → search_from state₁ ≡ after
    → SearchTaken state held piece 0 state₁ held₁ (bool_byte on)
search_taken state held piece {s} {after} {held₁} {state₁} {on} is takes reads gives back =
    let goes : after ≡ search_after (search_from state) held piece =
    takes.goes_on ∙ ap (λ (x : Search). search_after x held piece) is in
    record {
      refused = refl;
      leaves = gives ∙ ap search_numbers goes;
      holds = takes.holds ∙ ap (λ (x : Search). (stood_of x.standing held piece).held) is;
      goes_on = back ∙ goes;
      reads = byte_of on ∙ ap number_of (reads ∙ ap reads_on goes);
    }

-- a refusal's zeros, and else the two numbers
zeros_are : (p : Presence) → (p.refusal ≡ 0 → ⊥) → 0 ∷ 0 ∷ [] ≡ answer_numbers p
unfolding answer_numbers
zeros_are p some = rw (ne_eqb p.refusal 0 some)

two_are : (p : Presence) → p.refusal ≡ 0 → bool_byte p.found ∷ p.number ∷ [] ≡ answer_numbers p
unfolding answer_numbers
two_are p none = rw (eq-eqb p.refusal 0 none, byte_of p.found)

module _ (state held : List ℕ) {s : Search} {answer : Presence} (is : s ≡ search_from state) (ends : answer ≡ answer_at_end s held) where
  answer_is : answer ≡ answer_at_end (search_from state) held
  answer_is = ends ∙ ap (λ (x : Search). answer_at_end x held) is

  pub search_refused : (answer.refusal ≡ 0 → ⊥) → SearchEnded state held answer.refusal (0 ∷ 0 ∷ [])
  search_refused some =
      record {
        refused = ap (λ (p : Presence). p.refusal) answer_is;
        answers = zeros_are answer some ∙ ap answer_numbers answer_is;
      }

  pub search_ended : answer.refusal ≡ 0 → SearchEnded state held 0 (bool_byte answer.found ∷ answer.number ∷ [])
  search_ended none =
      record {
        refused = sym none ∙ ap (λ (p : Presence). p.refusal) answer_is;
        answers = two_are answer none ∙ ap answer_numbers answer_is;
      }

-- an answer as the calls hand it out
abbrev handed_out_of : Presence → Answered
handed_out_of p = record { refusal = p.refusal; answer = answer_numbers p }

over_answered : (ps : List (List ℕ)) (state held : List ℕ) (said : Answered) → SearchAnswered ps state held said
    → said ≡ handed_out_of (answer_over (search_from state) held ps)
unfolding Turns answer_over
over_answered [] state held said ends = λ i. record { refusal = ends.refused i; answer = ends.answers i }
over_answered (p ∷ ps) state held said turn =
    turn.joins
    ∙ over_answered ps turn.state₁ turn.held₁ turn.rest turn.behind
    ∙ (λ i. handed_out_of (answer_over (turn.taken.call.goes_on i) (turn.taken.call.holds i) ps))

-- of a log the answer's numbers are `rime_anything`'s: where the header is refused they are zeros
as_anything : (log : List ℕ) → answer_numbers (presence_of log) ≡ presence_numbers (presence_of log)
unfolding answer_numbers presence_of answer_of
as_anything log =
    split (eqb (reading_of log).header.refusal 0)
    (λ e. split (some_of sounds (reading_of log).heard) (λ s. rw (e, s)) (λ s. rw (e, s)))
    (λ e. rw (e, e))

-- whatever the pieces, the answer is `rime_anything`'s. A log of more octets can't be counted in 64 bits.
pub pieces_answer : {refusal : ℕ} {state held : List ℕ} (ps : List (List ℕ)) (said : Answered) → SearchStarted refusal state held
    → SearchAnswered ps state held said → length (joined_of ps) ≤ 18446744073709551615
    → said ≡ record { refusal = (presence_of (joined_of ps)).refusal; answer = presence_numbers (presence_of (joined_of ps)) }
pieces_answer {state = state} {held = held} ps said started answered counts =
    over_answered ps state held said answered
    ∙ (λ i. handed_out_of (answer_over (started.begins i) (started.holds i) ps))
    ∙ ap handed_out_of (any_division_answer (replicate 49 0) ps refl counts)
    ∙ (λ i. record { refusal = (presence_of (joined_of ps)).refusal; answer = as_anything (joined_of ps) i })
