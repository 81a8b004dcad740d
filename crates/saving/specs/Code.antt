-- Words that only the code of the salvage needs: walks along a log's records, one that counts them and one that writes.
-- Assumes nothing.
use Rattle.std.specs.Prelude.{Bool, cond, not, List, [], ◌∷◌, ◌≡◌, ℕ, ◌+◌, ◌*◌, ◌-◌, ◌≤◌, ◌<◌, eqb, length, drop}
use Rattle.runs.specs.Runs.{written}
use Rattle.cell_log.specs.Written.{record_octets}
use Rattle.receiver.specs.declared.Receiver.{Receiver}
use Rattle.receiver.specs.declared.Received.{Received}
use Rattle.reading.specs.Heard.{Heard, heard_from, sound_in, refused_in, kept_of}
use Rattle.reading.specs.Records.{records_in, rest_in, octets_in}
use Rattle.saving.specs.declared.Salvaged.{Salvaged}
use Rattle.saving.specs.declared.Standing.{Standing}
use Rattle.saving.specs.Salvage.{list_from}

-- a refusal
abbrev pub not_saved : ℕ → Salvaged
not_saved refusal = record { refusal = refusal; octets = 0; left_out = 0; cut = 0 }

-- before the first record, behind three octets of a header
abbrev pub start_of : Receiver → Standing
start_of state = record { place = 3; kept = 0; left_out = 0; state = state }

-- past a record, by the receiver's answer
unfoldable pub after_of : Standing → ℕ → Received → Standing
after_of here next got =
    record {
      place = next;
      kept = here.kept + cond (eqb got.refusal 0) 1 0;
      left_out = here.left_out + cond (not (eqb got.refusal 0)) 1 0;
      state = got.state;
    }

-- what is made of the records from here on, and from the first one on
abbrev pub heard_at : List ℕ → Standing → List Heard
heard_at log here = heard_from here.state (records_in (drop here.place log))

abbrev pub all_of : List ℕ → Receiver → List Heard
all_of log state = heard_at log (start_of state)

-- where a walk ends
pub record Counts (log : List ℕ) (state : Receiver) (here : Standing) : Type 0 where
  pub kept : here.kept ≡ sound_in (all_of log state)
  pub left : here.left_out ≡ refused_in (all_of log state)
  pub within : here.place ≤ length log
  pub cut : length log - here.place ≡ length (rest_in (drop 3 log))

-- what one record puts into the new log, and into the list
abbrev pub put_octets : ℕ → Bool → List ℕ → List ℕ
put_octets refusal indication cell = cond (eqb refusal 0) (record_octets indication cell) []

abbrev pub put_numbers : ℕ → ℕ → List ℕ
put_numbers refusal index = cond (eqb refusal 0) [] (index ∷ refusal ∷ [])

-- there is room for it
pub record Fits (out list : ℕ) (here : Standing) (refusal : ℕ) (cell : List ℕ) : Type 0 where
  pub framed : length cell ≡ 48
  pub low : here.kept + here.left_out < here.place
  pub sound : refusal ≡ 0 → 3 + 49 * here.kept + 49 ≤ out
  pub refused : (refusal ≡ 0 → ⊥) → 2 * here.left_out + 2 ≤ list

pub record PutsOne (out list : List ℕ) (here : Standing) (refusal : ℕ) (indication : Bool) (cell out₁ list₁ : List ℕ) : Type 0 where
  pub out_after : out₁ ≡ written out (3 + 49 * here.kept) (put_octets refusal indication cell)
  pub list_after : list₁ ≡ written list (2 * here.left_out) (put_numbers refusal (here.kept + here.left_out))

-- to write: there is room for all of it, and what it leaves
pub record Room (log : List ℕ) (state : Receiver) (out list : ℕ) : Type 0 where
  pub headed : 3 ≤ length log
  pub out_room : 3 + 49 * sound_in (all_of log state) ≤ out
  pub list_room_lem : 2 * refused_in (all_of log state) ≤ list

pub record Writes (log : List ℕ) (state : Receiver) (out list out₁ list₁ : List ℕ) : Type 0 where
  pub out_after : out₁ ≡ written out 3 (octets_in (kept_of (all_of log state)))
  pub list_after : list₁ ≡ written list 0 (list_from 0 (all_of log state))
