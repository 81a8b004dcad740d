-- Words of the code that sends many cells.
-- Assumes nothing.
use Rattle.std.specs.Prelude.{◌≡◌, ℕ, ◌+◌, ◌*◌, ◌%◌, ◌<◌, ◌≤◌, Bool, true, false, cond, List, length, take, ◌==◌, nat_lt}
use Rattle.runs.specs.Runs.{written}
use Rattle.formats.specs.declared.Format.{Format}
use Rattle.formats.specs.Settled.{Settled}
use Rattle.formats.specs.Settings.{settings_of}
use Rattle.numbers.specs.Code.{sequence_of}
use Rattle.numbers.specs.Numbers.{entry_of}
use Rattle.sender.specs.declared.Sender.{Sender}
use Rattle.sender.specs.declared.many.Reached.{Reached}
use Rattle.sender.specs.Many.{sent_into, state_behind, records_of, room_from}
use Rattle.sender.specs.Packing.{values_refused_by}
use Rattle.sender.specs.Sender.{used_now, state_refusal, send_refusal}

-- a cell that nothing is refused of, by the settings of its state
pub record Sendable (set : Settled) (st : Sender) (indication : Bool) (samples ancillary : List ℕ) : Type 0 where
  pub given : set ≡ settings_of st.format st.channels st.order
  pub none : 0 ≡ send_refusal st indication samples ancillary 48

-- so many cells can be written at most: there are entries and room for them, and entries for no other where there is room
pub record Bounds (set : Settled) (st : Sender) (samples ancillary log : List ℕ) (place most : ℕ) (sound : Bool) : Type 0 where
  pub given : set ≡ settings_of st.format st.channels st.order
  pub state_none : state_refusal st ≡ 0
  pub same : length ancillary ≡ length samples
  pub entries : most * used_now st ≤ length samples
  pub room : most ≤ room_from log place
  pub no_more : most < room_from log place → length samples < most * used_now st + used_now st
  pub all_sound : sound ≡ true → values_refused_by set.format (take (most * used_now st) samples) (take (most * used_now st) ancillary) ≡ false

-- what writing them promises: the cells of the definition
pub record WritesMany (indications : Bool) (st : Sender) (samples ancillary log : List ℕ) (place most : ℕ) (answer : Reached) (log₁ : List ℕ) : Type 0 where
  pub within : answer.cells ≤ most
  pub cells_are : answer.cells ≡ length (sent_into indications st samples ancillary log place)
  pub state_is : answer.state ≡ state_behind st (sent_into indications st samples ancillary log place)
  pub log_after_lem : log₁ ≡ written log place (records_of (sent_into indications st samples ancillary log place))

-- why it stopped, by the cells that were sent, that could have been, and that there were entries for
abbrev pub stop_by : ℕ → ℕ → ℕ → ℕ
stop_by cells most whole = cond (nat_lt cells most) 6 (cond (cells == whole) 0 12)

-- the sequencing bits, 0 where the format sends none
abbrev pub sequence_in : Format → ℕ → ℕ → ℕ
sequence_in f number second = cond (f.overhead_bits == 0) 0 (sequence_of (entry_of (number % 16)) second)
