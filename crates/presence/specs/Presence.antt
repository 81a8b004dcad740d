-- Request 7: "is there a sample marked 0 that isn't zero?"
-- Assumes nothing.
use Rattle.std.specs.Prelude.{ℕ, suc, Bool, true, false, cond, ◌||◌, List, [], ◌∷◌, length, drop, ◌==◌}
use Rattle.cell_log.specs.Answers.{Header}
use Rattle.receiver.specs.declared.Receiver.{Receiver}
use Rattle.reading.specs.Heard.{Heard, hear, onward, heard_from}
use Rattle.reading.specs.Reading.{fresh_of, reading_of}
use Rattle.reading.specs.Records.{records_in}
use Rattle.glance.specs.Glance.{some, sound_at}
use Rattle.presence.specs.declared.Presence.{Presence}
use Rattle.presence.specs.declared.sounds.Said.{Said}

-- there is one among what the receiver hands out for a record
unfoldable pub sounds : Heard → Bool
sounds h = some (sound_at h.samples h.marks) (length h.samples)

-- one of a list passes a test
unfoldable pub some_of : {A : Type 0} → (A → Bool) → List A → Bool
some_of test [] = false
some_of test (x ∷ xs) = test x || some_of test xs

-- the place, counted from 0, of the first that does
unfoldable pub first_of : {A : Type 0} → (A → Bool) → List A → ℕ
first_of test [] = 0
first_of test (x ∷ xs) = cond (test x) 0 (suc (first_of test xs))

abbrev pub yes_at : ℕ → Presence
yes_at record-number = record { refusal = 0; found = true; number = record-number }

abbrev pub none_in : ℕ → Presence
none_in records = record { refusal = 0; found = false; number = records }

abbrev pub refused_by : ℕ → Presence
refused_by refusal = record { refusal = refusal; found = false; number = 0 }

-- of all records that were read: "It also tells the first such record; a no tells how many whole records were read"
unfoldable pub answer_of : List Heard → Presence
answer_of heard = cond (some_of sounds heard) (yes_at (first_of sounds heard)) (none_in (length heard))

-- of a log: "A log whose header is refused answers with that refusal"
unfoldable pub presence_of : List ℕ → Presence
presence_of log =
    cond ((reading_of log).header.refusal == 0)
    (answer_of (reading_of log).heard)
    (refused_by (reading_of log).header.refusal)

-- what one record says
abbrev pub said_of : Receiver → List ℕ → Bool → Said
said_of st cell indication =
    record {
      state = onward (hear st (record { indication = indication; cell = cell }));
      sounds = sounds (hear st (record { indication = indication; cell = cell }));
    }

-- the records behind a header
abbrev pub read_from : Header → List ℕ → Presence
read_from header log = answer_of (heard_from (fresh_of header) (records_in (drop header.place log)))
