-- Salvage of a log, request 9: the new log, the list of the records left out, and the counts.
-- Assumes nothing.
use Rattle.std.specs.Prelude.{cond, ◌||◌, List, [], ◌∷◌, ◌++◌, ◌≡◌, ℕ, suc, eqb, ltb, length, take}
use Rattle.runs.specs.Refusals.{or_else}
use Rattle.runs.specs.Runs.{over}
use Rattle.cell_log.specs.Records.{header_of}
use Rattle.reading.specs.Heard.{Heard, is_sound, refused_in, kept_of}
use Rattle.reading.specs.Reading.{reading_of}
use Rattle.reading.specs.Records.{octets_in}
use Rattle.saving.specs.declared.Salvaged.{Salvaged}

-- "the same header and exactly the records that the receiver, run from fresh with room, answers as sound, in their order": a
-- header that is taken is three octets, and they stay as they are
unfoldable pub new_log : List ℕ → List ℕ
new_log log = take 3 log ++ octets_in (kept_of (reading_of log).heard)

-- "a list of the whole records left out, two numbers each (record, refusal)", the first record here having this number
unfoldable pub list_from : ℕ → List Heard → List ℕ
list_from index [] = []
list_from index (h ∷ hs) = cond (is_sound h) (list_from (suc index) hs) (index ∷ h.answer.refusal ∷ list_from (suc index) hs)

-- records are counted from 0
abbrev pub list_of : List ℕ → List ℕ
list_of log = list_from 0 (reading_of log).heard

-- how many records are left out
abbrev pub left_out_of : List ℕ → ℕ
left_out_of log = refused_in (reading_of log).heard

-- "how many octets were cut, from a faulty record's first to the end"
abbrev pub cut_from : List ℕ → ℕ
cut_from log = length (reading_of log).rest

-- "header faults as in 01, then 21 if either lent output is shorter than the whole result"; the outputs are told by their lengths
unfoldable pub salvage_refusal : List ℕ → ℕ → ℕ → ℕ
salvage_refusal log out list =
    or_else (header_of log).refusal (cond (ltb out (length (new_log log)) || ltb list (length (list_of log))) 21 0)

-- the refusal, and the three counts, which are 0 where it is refused
unfoldable pub salvaged_of : List ℕ → ℕ → ℕ → Salvaged
salvaged_of log out list =
    cond (eqb (salvage_refusal log out list) 0)
    (record { refusal = 0; octets = length (new_log log); left_out = left_out_of log; cut = cut_from log })
    (record { refusal = salvage_refusal log out list; octets = 0; left_out = 0; cut = 0 })

-- what is written into an output: nothing where it is refused
unfoldable pub saved_into : List ℕ → ℕ → ℕ → List ℕ → List ℕ
saved_into log out list entries = cond (eqb (salvage_refusal log out list) 0) entries []

-- the whole promise: "Entries past the results stay"; a refusal leaves both outputs as they were
pub record Salvages (log out list : List ℕ) (answer : Salvaged) (out₁ list₁ : List ℕ) : Type 0 where
  pub answered : answer ≡ salvaged_of log (length out) (length list)
  pub out_after : out₁ ≡ over (saved_into log (length out) (length list) (new_log log)) out
  pub list_after : list₁ ≡ over (saved_into log (length out) (length list) (list_of log)) list
