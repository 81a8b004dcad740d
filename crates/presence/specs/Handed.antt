-- "A sample that the receiver hands out": what a call of the receiver leaves in the runs that it is lent.
-- Assumes nothing.
use Rattle.std.specs.Prelude.{◌≡◌, ℕ, ◌+◌, ◌*◌, ◌<◌, List, [], ◌∷◌, ◌++◌, length, slice_index_or}
use Rattle.cell_log.specs.Records.{header_of}
use Rattle.receiver.specs.declared.Receiver.{Receiver}
use Rattle.receiver.specs.declared.Received.{Received}
use Rattle.receiver.specs.Receiver.{used_now, Receives}
use Rattle.reading.specs.Heard.{hear, onward, heard_from, end_of}
use Rattle.reading.specs.Reading.{fresh_of, behind_header}
use Rattle.reading.specs.Records.{Whole, records_in}

-- a call of the receiver for a record, with three runs of 720 entries, and what it leaves
pub record Call (st : Receiver) (r : Whole) : Type 0 where
  pub samples : List ℕ
  pub ancillary : List ℕ
  pub marks : List ℕ
  pub answer : Received
  pub samples_after : List ℕ
  pub ancillary_after : List ℕ
  pub marks_after : List ℕ
  pub meets : Receives st r.cell r.indication samples ancillary marks answer samples_after ancillary_after marks_after
  pub samples_lent : length samples ≡ 720
  pub ancillary_lent : length ancillary ≡ 720
  pub marks_lent : length marks ≡ 720

-- how many entries it wrote: the missing cells' and the cell's own
abbrev pub wrote : {st : Receiver} {r : Whole} → Call st r → ℕ
wrote {st} call = call.answer.missing * used_now st + used_now st

-- it is taken, and one of them is marked 0 and isn't zero
pub record HandsOut {st : Receiver} {r : Whole} (call : Call st r) : Type 0 where
  pub taken : call.answer.refusal ≡ 0
  pub place : ℕ
  pub written : place < wrote call
  pub sample : slice_index_or call.samples_after place 0 ≡ 0 → ⊥
  pub mark : slice_index_or call.marks_after place 0 ≡ 0

-- every call does, or none does
abbrev pub Sounding : Receiver → Whole → Type 0
Sounding st r = (call : Call st r) → HandsOut call

abbrev pub Silent : Receiver → Whole → Type 0
Silent st r = (call : Call st r) → HandsOut call → ⊥

-- records in a row for which nothing is handed out
unfoldable pub AllSilent : Receiver → List Whole → Type 0
AllSilent st [] = Unit {0}
AllSilent st (r ∷ rs) = Silent st r × AllSilent (onward (hear st r)) rs

-- the first record for which such a sample is handed out is the one with k records before it
pub record FirstAt (st : Receiver) (records : List Whole) (k : ℕ) : Type 0 where
  pub before : List Whole
  pub here : Whole
  pub more : List Whole
  pub records_are : records ≡ before ++ (here ∷ more)
  pub counted : length before ≡ k
  pub handed_out : Sounding (end_of st (heard_from st before)) here
  pub none_earlier : AllSilent st before

-- of a log: its whole records, by a receiver opened as its header says
abbrev pub FirstIn : List ℕ → ℕ → Type 0
FirstIn log k = FirstAt (fresh_of (header_of log)) (records_in (behind_header log)) k
