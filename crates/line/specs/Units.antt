-- The words of request 13 at the line's end: what a receiver wrote leaves as data units for the other network, and is read back there.
-- Assumes nothing.
use Rattle.std.specs.Prelude.{◌≡◌, ℕ, suc, ◌*◌, ◌≤◌, length, take}
use Rattle.runs.specs.Runs.{joined}
use Rattle.formats.specs.Formats.{format_of}
use Rattle.receiver.specs.Receiver as R
use Rattle.units.specs.Units.{frame_size, export_size}
use Rattle.units.specs.Back.{ExportCall, ReadCall, samples_read, ancillary_read}
use Rattle.line.specs.Calls.{SendCall, ReceiveCall}

-- "Export what the receiver wrote": the entries of a call, those of missing cells too, in its settings; with room: a frame fits the size,
-- and all subframes the octets
pub record ExportsReceived (r : ReceiveCall) (e : ExportCall) : Type 0 where
  pub same_octet : e.octet ≡ r.state.format
  pub same_channels : e.channels ≡ r.state.channels
  pub the_samples : e.samples ≡ take (suc r.answer.missing * R.used_now r.state) r.samples_after
  pub the_ancillary : e.ancillary ≡ take (suc r.answer.missing * R.used_now r.state) r.ancillary_after
  pub size_from : frame_size (format_of e.octet) e.channels ≤ e.size
  pub room : export_size (format_of e.octet) e.samples ≤ length e.out

-- what was sent leaves, and comes back the same
pub record ComesBack (s : SendCall) (e : ExportCall) (reads : ℕ → ReadCall) : Type 0 where
  pub leaves : e.answer.refusal ≡ 0
  pub none_refused : (k : ℕ) → suc k ≤ e.answer.units → (reads k).answer.refusal ≡ 0
  pub samples_back : joined (λ k. samples_read (reads k)) e.answer.units ≡ s.samples
  pub ancillary_back : joined (λ k. ancillary_read (reads k)) e.answer.units ≡ s.ancillary
