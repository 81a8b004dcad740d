-- What the calls of a list in pieces leave, and what they print of a log, however it is divided.
-- Assumes nothing.
use mathlib.Core.Bool.{Bool, true, false, not}
use mathlib.Core.List.{List, [], ◌∷◌, ◌++◌}
use mathlib.Core.Path.{◌≡◌, refl, sym, ◌∙◌, ap, subst}
use Prim.Native.Nat.{ℕ, ◌≤◌, ◌<◌}
use native.Mathlib.Omega.{arith}
use borrow.Author.Tests.{le-leb, lt-leb, leb-true, not-true, not-false}
use lib.ListN.{length, take, replicate}
use lib.Seq.{take_all}
use Rattle.runs.specs.Runs.{over}
use Rattle.pieces.specs.Steps.{stood_of}
use Rattle.pieces.specs.Taken.{joined_of}
use Rattle.text.specs.declared.Put.{Put}
use Rattle.listing.specs.declared.Listing.{Listing}
use Rattle.listing.specs.declared.Printed.{Printed}
use Rattle.listing.specs.List.{list_of}
use Rattle.listing.specs.Taking.{most_text, piece_text, listing_after, end_of_text, written_over_of, Takes, Ends}
use Rattle.listing.proofs.Fits.{piece_fits, end_fits}
use Rattle.listing.proofs.Whole.{any_division_list}
use Rattle.rimesatchel.specs.States.{Within, Turns}
use Rattle.rimesatchel.specs.TakenLists.{
  listing_from,
  list_numbers,
  list_room,
  end_room,
  text_taken,
  end_taken,
  ListStarted,
  ListTaken,
  ListEnded,
  ListPrints,
  ListCloses,
  ListPrinted,
}
use Rattle.rimesatchel.proofs.StatesLaws.{standing_back, receiver_back, taken_room, take_over}

module _ (l : Listing) where
  -- the numbers that are written give it back
  pub list_back : Within l.standing l.tally.state → listing_from (list_numbers l) ≡ l
  unfolding listing_from list_numbers
  list_back w i =
      record {
        standing = standing_back l.standing l.tally.state w i;
        tally = record {
          state = receiver_back l.standing l.tally.state w i;
          records = l.tally.records;
          sound = l.tally.sound;
          missing = l.tally.missing;
          refused = l.tally.refused;
        };
      }

module _ (state held piece text : List ℕ) where
  pub list_refused : {room : Bool} → room ≡ list_room piece text → not room ≡ true → ListTaken state held piece text 21 state held text 0
  unfolding over
  list_refused {room} is short =
      let e : list_room piece text ≡ false = sym is ∙ not-true room short in
      record {
        refused = rw e;
        counted = rw e;
        wrote = rw e;
        leaves = rw e;
        holds = rw e;
        goes_on = rw e;
      }

  module _ {l : Listing} {answer : Printed} {held₁ text₁ state₁ : List ℕ} (is : l ≡ listing_from state)
      (takes : Takes l held piece text answer held₁ text₁) {room : Bool} (has : room ≡ list_room piece text) (fits : not room ≡ false)
      (gives : state₁ ≡ list_numbers answer.listing) (back : listing_from state₁ ≡ answer.listing)
    where
      here : Takes (listing_from state) held piece text answer held₁ text₁
      here = subst (λ (x : Listing). Takes x held piece text answer held₁ text₁) is takes

      has_room : list_room piece text ≡ true
      has_room = sym has ∙ not-false room fits

      whole : take (length text) (piece_text (listing_from state) held piece) ≡ piece_text (listing_from state) held piece
      whole =
          take_all (length text) (piece_text (listing_from state) held piece)
          (omega (arith, piece_fits (listing_from state) held piece, leb-true (most_text (length piece)) (length text) has_room))

      pub list_taken : ListTaken state held piece text 0 state₁ held₁ text₁ answer.listed.octets
      list_taken =
          let e : list_room piece text ≡ true = has_room in
          record {
            refused = rw e;
            counted = rw e (ap (λ (p : Put). p.octets) here.printed ∙ ap length whole);
            wrote = rw e (here.wrote ∙ ap (λ (t : List ℕ). over t text) whole);
            leaves = rw e (gives ∙ ap list_numbers here.goes_on);
            holds = rw e here.holds;
            goes_on = rw e (back ∙ here.goes_on);
          }

module _ (state held text : List ℕ) where
  pub end_refused : length text < 216 → ListEnded state held text 21 text 0
  unfolding over
  end_refused short =
      let e : end_room text ≡ false = lt-leb 216 (length text) short in
      record { refused = rw e; counted = rw e; wrote = rw e }

  pub end_taken_lem : {l : Listing} {answer : Put} {text₁ : List ℕ} → l ≡ listing_from state → Ends l held text answer text₁ → 216 ≤ length text
      → ListEnded state held text 0 text₁ answer.octets
  end_taken_lem {l} {answer} {text₁} is ends room =
      let e : end_room text ≡ true = le-leb 216 (length text) room in
      let here : Ends (listing_from state) held text answer text₁ = subst (λ (x : Listing). Ends x held text answer text₁) is ends in
      let whole : take (length text) (end_of_text (listing_from state) held) ≡ end_of_text (listing_from state) held =
      take_all (length text) (end_of_text (listing_from state) held) (omega (arith, end_fits (listing_from state) held, room)) in
      record {
        refused = rw e;
        counted = rw e (ap (λ (p : Put). p.octets) here.printed ∙ ap length whole);
        wrote = rw e (here.wrote ∙ ap (λ (t : List ℕ). over t text) whole);
      }

-- a piece that is taken prints its lines, all of them
module _ {state held piece state₁ held₁ part : List ℕ} (taken : ListPrints state held piece state₁ held₁ part) where
  room_there : list_room piece taken.text ≡ true
  room_there = taken_room (list_room piece taken.text) taken.call.refused

  part_is : part ≡ piece_text (listing_from state) held piece
  part_is =
      taken.prints
      ∙ ap (take taken.written) taken.call.wrote
      ∙ take_over (text_taken state held piece taken.text) taken.text taken.call.counted
      ∙ rw room_there

  list_after : listing_from state₁ ≡ listing_after (listing_from state) held piece
  list_after = taken.call.goes_on ∙ rw room_there

  held_after : held₁ ≡ (stood_of (listing_from state).standing held piece).held
  held_after = taken.call.holds ∙ rw room_there

closes_with : {state held part : List ℕ} → ListCloses state held part → part ≡ end_of_text (listing_from state) held
closes_with {state} {held} closes =
    let there : end_room closes.text ≡ true = taken_room (end_room closes.text) closes.call.refused in
    closes.prints
    ∙ ap (take closes.written) closes.call.wrote
    ∙ take_over (end_taken state held closes.text) closes.text closes.call.counted
    ∙ rw there

over_printed : (ps : List (List ℕ)) (state held all : List ℕ) → ListPrinted ps state held all → all ≡ written_over_of (listing_from state) held ps
unfolding Turns written_over_of
over_printed [] state held all closes = closes_with closes
over_printed (p ∷ ps) state held all turn =
    let rest = over_printed ps turn.state₁ turn.held₁ turn.rest turn.behind ∙ (λ i. written_over_of (list_after turn.taken i) (held_after turn.taken i) ps) in
    turn.joins ∙ (λ i. part_is turn.taken i ++ rest i)

-- "the whole text is `rime_log_list`'s, whatever the pieces": what calls print that go on where the one before left off
pub pieces_print_the_list : {refusal : ℕ} {state held : List ℕ} (ps : List (List ℕ)) (all : List ℕ) → ListStarted refusal state held
    → ListPrinted ps state held all → all ≡ list_of (joined_of ps)
pieces_print_the_list {state = state} {held = held} ps all started printed =
    over_printed ps state held all printed
    ∙ (λ i. written_over_of (started.begins i) (started.holds i) ps)
    ∙ any_division_list 4294967295 (replicate 49 0) ps (omega arith) refl
