-- What the tools tell of a log of the cells as they arrived: the line's own story.
-- Assumes nothing.
use Rattle.std.specs.Prelude.{Bool, not, ◌&&◌, ◌≡◌, ℕ, suc, ◌+◌, ◌≤◌, eqb, length, take}
use mathlib.Core.List.{List, [], ◌∷◌, ◌++◌, map, flat_map}
use Rattle.formats.specs.Formats.{format_of}
use Rattle.sender.specs.declared.Sender.{Sender}
use Rattle.cell_log.specs.Answers.{Kept}
use Rattle.reading.specs.Heard.{Heard, sound_in, missing_in, refused_in, refused_with, marked_with, kept_of}
use Rattle.reading.specs.Reading.{reading_of}
use Rattle.reading.specs.Records.{Whole as Arrival, octets_in}
use Rattle.reading.specs.Totals.{total_of, count_of, those, Each}
use Rattle.listing.specs.Lines.{format_line, end_line}
use Rattle.listing.specs.List.{lines_of, list_of}
use Rattle.saving.specs.Salvage.{new_log}
use Rattle.line.specs.Calls.{SendCall, MeetsWriteHeader, MeetsWriteRecord}
use Rattle.line.specs.Line.{
  Row,
  Sending,
  wrote,
  Fate,
  dropped,
  spoiled,
  unaltered,
  is_lost,
  Trip,
  Fair,
  longest,
  arrivals,
  Place,
  places,
  places_of,
  from_first,
  to_last,
}

-- a call of `write_record` and what it left, and that it kept the record
pub record KeepCall : Type 0 where
  pub log : List ℕ
  pub place : ℕ
  pub came : Arrival
  pub answer : Kept
  pub log_after_lem : List ℕ

abbrev pub KeepsIt : KeepCall → Type 0
KeepsIt c =
    MeetsWriteRecord c.log c.place c.came.indication c.came.cell c.answer c.log_after_lem
    × (c.answer.refusal ≡ 0)

-- such calls in a row, each with the log and the place that the one before it left; and what was written in the end
abbrev pub Keeping : List ℕ → ℕ → List KeepCall → Type 0
Keeping log place calls =
    Row {State = List ℕ × ℕ} (λ c. (c.log, c.place)) (λ c. (c.log_after_lem, c.answer.next)) KeepsIt (log, place) calls

unfoldable pub written_by : List ℕ → ℕ → List KeepCall → List ℕ
written_by log place [] = take place log
written_by log place (c ∷ cs) = written_by c.log_after_lem c.answer.next cs

-- "the cells as they arrived, in a log that the library wrote": `write_header` with the sender's settings, then `write_record`
-- for each
pub record LogOf (st : Sender) (came : List Arrival) (log : List ℕ) : Type 0 where
  pub lent : List ℕ
  pub opening : Kept
  pub headed : List ℕ
  pub header : MeetsWriteHeader lent st.format st.channels st.order opening headed
  pub taken : opening.refusal ≡ 0
  pub calls : List KeepCall
  pub in_a_row : Keeping headed opening.next calls
  pub these : map (λ c. c.came) calls ≡ came
  pub octets : log ≡ written_by headed opening.next calls

-- a cell that came unaltered, as it was first delivered
abbrev pub is_unaltered : Trip → Bool
is_unaltered t = not (is_lost t.fate)

abbrev pub first_delivery : Trip → Arrival
first_delivery t = record { indication = t.sent.indication; cell = t.sent.written }

-- how often a spoiled cell was delivered, and how many copies of an unaltered one beside the first
abbrev pub spoiled_times : Fate → ℕ
spoiled_times dropped = 0
spoiled_times (spoiled came indication again) = suc again
spoiled_times (unaltered again) = 0

abbrev pub copies : Fate → ℕ
copies dropped = 0
copies (spoiled came indication again) = 0
copies (unaltered again) = again

-- the places that the receiver hands out for a record; one with this mark; and one marked sound with a sample that isn't zero
abbrev pub places_heard : Heard → List Place
places_heard h = places h.samples h.ancillary h.marks

abbrev pub has_mark : ℕ → Place → Bool
has_mark mark p = eqb p.1.1 mark

abbrev pub not_zero : ℕ → Bool
not_zero n = not (eqb n 0)

abbrev pub sound_not_zero : Place → Bool
sound_not_zero p = has_mark 0 p && not_zero p.0

-- what the records of such a log say, in the words that the list, the sheet, salvage and `anything` are defined by
pub record TellsStory (trips : List Trip) (heard : List Heard) : Type 0 where
  -- "sound cells are the unaltered ones"
  pub sound : sound_in heard ≡ count_of is_unaltered trips
  -- "missing ones the dropped and spoiled ones between the first and the last unaltered one"
  pub missing : missing_in heard ≡ count_of (λ t. is_lost t.fate) (to_last (from_first trips))
  -- "refused ones the spoiled ones and the copies (8 and 9 apart in the sheet)"
  pub refused : refused_in heard ≡ total_of (λ t. spoiled_times t.fate) trips + total_of (λ t. copies t.fate) trips
  pub refused_8 : refused_with 8 heard ≡ total_of (λ t. spoiled_times t.fate) trips
  pub refused_9 : refused_with 9 heard ≡ total_of (λ t. copies t.fate) trips
  pub refused_else : (refusal : ℕ) → (refusal ≡ 0 → ⊥) → (refusal ≡ 8 → ⊥) → (refusal ≡ 9 → ⊥) → refused_with refusal heard ≡ 0
  -- "the sheet's marks are those of what demand 3 hands out"
  pub handed_out : flat_map places_heard heard ≡ flat_map places_of (to_last (from_first trips))
  pub marks : (mark : ℕ) → marked_with mark heard ≡ count_of (has_mark mark) (flat_map places_of (to_last (from_first trips)))
  -- "salvage keeps just the first deliveries of the unaltered cells"
  pub kept : kept_of heard ≡ map first_delivery (those is_unaltered trips)
  -- "`anything` says yes exactly where one of the sent samples .., in an unaltered cell, isn't zero": there are as many of them
  pub anything : count_of sound_not_zero (flat_map places_heard heard)
      ≡ count_of not_zero (flat_map (λ t. t.sent.samples) (those is_unaltered trips))

-- and what the log itself is read as: no fault, the list's end line, and what salvage makes of it
pub record ToldBy (st : Sender) (trips : List Trip) (log : List ℕ) : Type 0 where
  pub header : (reading_of log).header.refusal ≡ 0
  pub no_fault : (reading_of log).fault ≡ 0
  pub tells : TellsStory trips (reading_of log).heard
  pub list : length log ≤ 4294967295 → list_of log
      ≡ format_line st.format st.channels st.order
      ++ (lines_of 0 (reading_of log).heard
      ++ end_line (count_of is_unaltered trips) (count_of (λ t. is_lost t.fate) (to_last (from_first trips)))
      (total_of (λ t. spoiled_times t.fate) trips + total_of (λ t. copies t.fate) trips))
  pub salvage : new_log log ≡ take 3 log ++ octets_in (map first_delivery (those is_unaltered trips))

-- what holds of every such log "under demand 3's conditions (copies included)"
abbrev pub OfALog : ℕ → ℕ → ℕ → (SendCall → Type 0) → (Sender → List Trip → List ℕ → Type 0) → Type 0
OfALog most row cells SendBox Holds =
    (st : Sender) (sends : List SendCall) (trips : List Trip) (log : List ℕ)
    → ((format_of st.format).overhead_bits ≡ 0 → ⊥)
    → Sending SendBox st sends
    → map (λ t. t.sent) trips ≡ wrote sends
    → length trips ≤ cells
    → Each (λ t. Fair most t.sent t.fate) trips
    → longest 0 trips ≤ row
    → LogOf st (arrivals trips) log
    → Holds st trips log

unfoldable pub ToolsTell : ℕ → ℕ → ℕ → (SendCall → Type 0) → Type 0
ToolsTell most row cells SendBox = OfALog most row cells SendBox ToldBy
