-- What a receiver with room makes of records, one after the other.
-- Assumes nothing.
use Rattle.std.specs.Prelude.{Bool, not, List, [], ◌∷◌, map, ℕ, eqb}
use Rattle.receiver.specs.declared.Receiver.{Receiver}
use Rattle.receiver.specs.declared.Received.{Received}
use Rattle.receiver.specs.Receiver.{judged_of, entries_given, samples_now, ancillary_now, marks_now}
use Rattle.reading.specs.Records.{Whole}
use Rattle.reading.specs.Totals.{total_of, count_of, those}

-- any receiver over records in a row, from a state on: what it makes of each, in which the state to go on with is found
unfoldable pub heard_by : {State Record Made : Type 0} → (State → Record → Made) → (Made → State) → State → List Record → List Made
heard_by hear next st [] = []
heard_by hear next st (r ∷ rs) = hear st r ∷ heard_by hear next (next (hear st r)) rs

-- the state that it ends in
unfoldable pub end_by : {State Made : Type 0} → (Made → State) → State → List Made → State
end_by next st [] = st
end_by next st (h ∷ hs) = end_by next (next h) hs

-- what our receiver makes of a record with room for all that one call can write: its answer, and what it hands out, which is nothing
-- where it refuses the record
pub record Heard : Type 0 where
  pub arrived : Whole
  pub answer : Received
  pub samples : List ℕ
  pub ancillary : List ℕ
  pub marks : List ℕ

unfoldable pub given : Receiver → Whole → List ℕ → List ℕ
given st r entries = entries_given st r.cell r.indication 720 720 720 entries

unfoldable pub hear : Receiver → Whole → Heard
hear st r =
    record {
      arrived = r;
      answer = judged_of st r.cell r.indication;
      samples = given st r (samples_now st r.cell);
      ancillary = given st r (ancillary_now st r.cell);
      marks = given st r (marks_now st r.cell);
    }

-- the state to go on with
abbrev pub onward : Heard → Receiver
onward h = h.answer.state

abbrev pub heard_from : Receiver → List Whole → List Heard
heard_from st records = heard_by hear onward st records

abbrev pub end_of : Receiver → List Heard → Receiver
end_of st heard = end_by onward st heard

-- a record that the receiver takes is sound
abbrev pub is_sound : Heard → Bool
is_sound h = eqb h.answer.refusal 0

-- cells sound, missing before them, and refused; refused by one number; and samples with one mark
abbrev pub sound_in : List Heard → ℕ
sound_in heard = count_of is_sound heard

abbrev pub missing_in : List Heard → ℕ
missing_in heard = total_of (λ h. h.answer.missing) heard

abbrev pub refused_in : List Heard → ℕ
refused_in heard = count_of (λ h. not (is_sound h)) heard

abbrev pub refused_with : ℕ → List Heard → ℕ
refused_with refusal heard = count_of (λ h. eqb h.answer.refusal refusal) heard

abbrev pub marked_with : ℕ → List Heard → ℕ
marked_with mark heard = total_of (λ h. count_of (λ m. eqb m mark) h.marks) heard

-- the records that are sound, as they arrived
abbrev pub kept_of : List Heard → List Whole
kept_of heard = map (λ h. h.arrived) (those is_sound heard)
