-- What the calls of a salvage in pieces leave, and what they write of a log, however it is divided.
-- Assumes nothing.
use mathlib.Core.Bool.{Bool, true, false, not, ◌&&◌}
use mathlib.Core.List.{List, [], ◌∷◌, ◌++◌}
use mathlib.Core.Path.{◌≡◌, refl, sym, ◌∙◌, ap, subst}
use Prim.Native.Nat.{ℕ, ◌≤◌, ◌<◌}
use native.Mathlib.Nat.{mod-eq_of_lt}
use native.Mathlib.Omega.{arith}
use borrow.Author.Tests.{le-leb, lt-leb, leb-true, not-true, not-false}
use lib.Dec.{leb}
use lib.ListN.{length, get_or, take, replicate}
use lib.Seq.{take_all}
use Rattle.runs.specs.Runs.{over}
use Rattle.pieces.specs.Steps.{stood_of}
use Rattle.pieces.specs.Taken.{joined_of}
use Rattle.text.specs.declared.Put.{Put}
use Rattle.salvaging.specs.declared.Salvaging.{Salvaging}
use Rattle.salvaging.specs.declared.Wrote.{Wrote}
use Rattle.salvaging.specs.Said.{saved_of, notes_of}
use Rattle.salvaging.specs.Taking.{most_out, most_notes, piece_octets, piece_text, salvaging_after, end_of_text, saved_over, notes_over, Takes, Ends}
use Rattle.salvaging.proofs.Fits.{out_fits, notes_fit, end_fits}
use Rattle.salvaging.proofs.Whole.{any_division_saved, any_division_notes}
use Rattle.rimesatchel.specs.States.{Within, Turns}
use Rattle.rimesatchel.specs.TakenSalvages.{
  salvaging_from,
  salvage_numbers,
  both_room,
  last_room,
  out_taken,
  notes_taken,
  last_taken_of,
  Salvaged,
  SalvageStarted,
  SalvageTaken,
  SalvageEnded,
  SalvagePrints,
  SalvageCloses,
  SalvagePrinted,
}
use Rattle.rimesatchel.proofs.StatesLaws.{standing_back, receiver_back, both_true, taken_room, take_over}

module _ (v : Salvaging) where
  -- the numbers that are written give it back
  pub salvage_back : Within v.standing v.tally.state → v.tally.refusal < 256 → salvaging_from (salvage_numbers v) ≡ v
  unfolding salvaging_from salvage_numbers
  salvage_back w few i =
      record {
        standing = standing_back v.standing v.tally.state w i;
        octets = v.octets;
        tally = record {
          state = receiver_back v.standing v.tally.state w i;
          refusal = mod-eq_of_lt few i;
          taken = v.tally.taken;
          kept = v.tally.kept;
          left_out = v.tally.left_out;
        };
      }

-- both runs have room, or one of them has none
pub one_short : {first room : Bool} (other : Bool) → first ≡ room → not first ≡ true → false ≡ room && other
one_short {first} other is short = let e = sym is ∙ not-true first short in rw e

pub both_fit : {first room second other : Bool} → first ≡ room → not first ≡ false → second ≡ other → second ≡ room && other
both_fit {first} is fits same = let e = sym is ∙ not-false first fits in rw e same

module _ (state held piece out notes : List ℕ) where
  pub salvage_refused : {room : Bool} → room ≡ both_room piece out notes → not room ≡ true
      → SalvageTaken state held piece out notes 21 state held out notes (0 ∷ 0 ∷ [])
  unfolding over
  salvage_refused {room} is short =
      let e : both_room piece out notes ≡ false = sym is ∙ not-true room short in
      record {
        refused = rw e;
        counted = rw e;
        wrote_out = rw e;
        wrote_notes = rw e;
        leaves = rw e;
        holds = rw e;
        goes_on = rw e;
      }

  module _ {v : Salvaging} {answer : Wrote} {held₁ out₁ notes₁ state₁ : List ℕ} (is : v ≡ salvaging_from state)
      (takes : Takes v held piece out notes answer held₁ out₁ notes₁) {room : Bool} (has : room ≡ both_room piece out notes)
      (fits : not room ≡ false) (gives : state₁ ≡ salvage_numbers answer.salvaging) (back : salvaging_from state₁ ≡ answer.salvaging)
    where
      here : Takes (salvaging_from state) held piece out notes answer held₁ out₁ notes₁
      here = subst (λ (x : Salvaging). Takes x held piece out notes answer held₁ out₁ notes₁) is takes

      has_both : both_room piece out notes ≡ true
      has_both = sym has ∙ not-false room fits

      rooms : (leb (most_out (length piece)) (length out) ≡ true) × (leb (most_notes (length piece)) (length notes) ≡ true)
      rooms = both_true (leb (most_out (length piece)) (length out)) (leb (most_notes (length piece)) (length notes)) has_both

      whole_out : take (length out) (piece_octets (salvaging_from state) held piece) ≡ piece_octets (salvaging_from state) held piece
      whole_out =
          take_all (length out) (piece_octets (salvaging_from state) held piece)
          (omega (arith, out_fits (salvaging_from state) held piece, leb-true (most_out (length piece)) (length out) rooms.0))

      whole_notes : take (length notes) (piece_text (salvaging_from state) held piece) ≡ piece_text (salvaging_from state) held piece
      whole_notes =
          take_all (length notes) (piece_text (salvaging_from state) held piece)
          (omega (arith, notes_fit (salvaging_from state) held piece, leb-true (most_notes (length piece)) (length notes) rooms.1))

      octets_are : answer.saved.octets ∷ answer.noted.octets ∷ []
          ≡ length (piece_octets (salvaging_from state) held piece) ∷ length (piece_text (salvaging_from state) held piece) ∷ []
      octets_are i =
          (ap (λ (p : Put). p.octets) here.saved ∙ ap length whole_out) i
          ∷ (ap (λ (p : Put). p.octets) here.noted ∙ ap length whole_notes) i ∷ []

      pub salvage_taken : SalvageTaken state held piece out notes 0 state₁ held₁ out₁ notes₁
          (answer.saved.octets ∷ answer.noted.octets ∷ [])
      salvage_taken =
          let e : both_room piece out notes ≡ true = has_both in
          record {
            refused = rw e;
            counted = rw e octets_are;
            wrote_out = rw e (here.wrote_out ∙ ap (λ (t : List ℕ). over t out) whole_out);
            wrote_notes = rw e (here.wrote_notes ∙ ap (λ (t : List ℕ). over t notes) whole_notes);
            leaves = rw e (gives ∙ ap salvage_numbers here.goes_on);
            holds = rw e here.holds;
            goes_on = rw e (back ∙ here.goes_on);
          }

module _ (state held notes : List ℕ) where
  pub last_refused_lem : length notes < 216 → SalvageEnded state held notes 21 notes 0
  unfolding over
  last_refused_lem short =
      let e : last_room notes ≡ false = lt-leb 216 (length notes) short in
      record { refused = rw e; counted = rw e; wrote = rw e }

  pub last_taken : {v : Salvaging} {answer : Put} {notes₁ : List ℕ} → v ≡ salvaging_from state → Ends v held notes answer notes₁
      → 216 ≤ length notes → SalvageEnded state held notes 0 notes₁ answer.octets
  last_taken {v} {answer} {notes₁} is ends room =
      let e : last_room notes ≡ true = le-leb 216 (length notes) room in
      let here : Ends (salvaging_from state) held notes answer notes₁ =
      subst (λ (x : Salvaging). Ends x held notes answer notes₁) is ends in
      let whole : take (length notes) (end_of_text (salvaging_from state) held) ≡ end_of_text (salvaging_from state) held =
      take_all (length notes) (end_of_text (salvaging_from state) held) (omega (arith, end_fits (salvaging_from state) held, room)) in
      record {
        refused = rw e;
        counted = rw e (ap (λ (p : Put). p.octets) here.noted ∙ ap length whole);
        wrote = rw e (here.wrote_notes ∙ ap (λ (t : List ℕ). over t notes) whole);
      }

-- a piece that is taken writes all that it makes
module _ {state held piece state₁ held₁ : List ℕ} {part : Salvaged} (taken : SalvagePrints state held piece state₁ held₁ part) where
  room_there : both_room piece taken.out taken.notes ≡ true
  room_there = taken_room (both_room piece taken.out taken.notes) taken.call.refused

  saved_is : part.saved ≡ piece_octets (salvaging_from state) held piece
  saved_is =
      taken.saves
      ∙ ap (take (get_or taken.written 0 0)) taken.call.wrote_out
      ∙ take_over (out_taken state held piece taken.out taken.notes) taken.out
      (ap (λ (w : List ℕ). get_or w 0 0) taken.call.counted)
      ∙ rw room_there

  notes_is : part.notes ≡ piece_text (salvaging_from state) held piece
  notes_is =
      taken.says
      ∙ ap (take (get_or taken.written 1 0)) taken.call.wrote_notes
      ∙ take_over (notes_taken state held piece taken.out taken.notes) taken.notes
      (ap (λ (w : List ℕ). get_or w 1 0) taken.call.counted)
      ∙ rw room_there

  salvage_after : salvaging_from state₁ ≡ salvaging_after (salvaging_from state) held piece
  salvage_after = taken.call.goes_on ∙ rw room_there

  held_after : held₁ ≡ (stood_of (salvaging_from state).standing held piece).held
  held_after = taken.call.holds ∙ rw room_there

closes_with : {state held : List ℕ} {part : Salvaged} → SalvageCloses state held part → part.notes ≡ end_of_text (salvaging_from state) held
closes_with {state} {held} closes =
    let there : last_room closes.notes ≡ true = taken_room (last_room closes.notes) closes.call.refused in
    closes.says
    ∙ ap (take closes.written) closes.call.wrote
    ∙ take_over (last_taken_of state held closes.notes) closes.notes closes.call.counted
    ∙ rw there

over_saved : (ps : List (List ℕ)) (state held : List ℕ) (all : Salvaged) → SalvagePrinted ps state held all
    → all.saved ≡ saved_over (salvaging_from state) held ps
unfolding Turns saved_over
over_saved [] state held all closes = closes.saves
over_saved (p ∷ ps) state held all turn =
    let rest = over_saved ps turn.state₁ turn.held₁ turn.rest turn.behind ∙ (λ i. saved_over (salvage_after turn.taken i) (held_after turn.taken i) ps) in
    ap (λ (s : Salvaged). s.saved) turn.joins ∙ (λ i. saved_is turn.taken i ++ rest i)

over_notes : (ps : List (List ℕ)) (state held : List ℕ) (all : Salvaged) → SalvagePrinted ps state held all
    → all.notes ≡ notes_over (salvaging_from state) held ps
unfolding Turns notes_over
over_notes [] state held all closes = closes_with closes
over_notes (p ∷ ps) state held all turn =
    let rest = over_notes ps turn.state₁ turn.held₁ turn.rest turn.behind ∙ (λ i. notes_over (salvage_after turn.taken i) (held_after turn.taken i) ps) in
    ap (λ (s : Salvaged). s.notes) turn.joins ∙ (λ i. notes_is turn.taken i ++ rest i)

-- whatever the pieces: the new log is the salvage's, and so are the lines beside it. A log of more octets can't be counted in 64 bits.
module _ {refusal : ℕ} {state held : List ℕ} (ps : List (List ℕ)) (all : Salvaged) (started : SalvageStarted refusal state held)
    (printed : SalvagePrinted ps state held all) (counts : length (joined_of ps) ≤ 18446744073709551615)
  where
    pub pieces_save_the_log : all.saved ≡ saved_of (joined_of ps)
    pieces_save_the_log =
        over_saved ps state held all printed
        ∙ (λ i. saved_over (started.begins i) (started.holds i) ps)
        ∙ any_division_saved (replicate 49 0) ps refl counts

    pub pieces_say_the_notes : all.notes ≡ notes_of (joined_of ps)
    pieces_say_the_notes =
        over_notes ps state held all printed
        ∙ (λ i. notes_over (started.begins i) (started.holds i) ps)
        ∙ any_division_notes (replicate 49 0) ps refl counts
