-- Demands 2 and 3 of the C calls, and what else document 01 says of a call of either box, on one page: `rime_send` and `rime_receive` with their states of octets. Each proof is a citation.
-- Assumes nothing.
use mathlib.Core.List.{List, map, flat_map}
use mathlib.Core.Path.{◌≡◌, sym, ◌∙◌, ap, ap₂}
use Prim.Native.Nat.{ℕ, ◌+◌, ◌≤◌, ◌<◌}
use lib.Dec.{eqb}
use lib.ListN.{get_or}
use Rattle.formats.specs.Formats.{format_of}
use Rattle.receiver.specs.declared.Receiver.{Receiver}
use Rattle.receiver.specs.Receiver as R
use Rattle.reading.specs.Totals.{total_of, count_of}
use Rattle.rimesatchel.specs.Boxes as B
use Rattle.rimesatchel.proofs.boxes.rime_send.Kinds as send-kinds
use Rattle.rimesatchel.proofs.boxes.rime_send.Reads as send-reads
use Rattle.rimesatchel.proofs.boxes.rime_receive.Kinds as receive-kinds
use Rattle.rimesatchel.proofs.boxes.rime_receive.Reads as receive-reads
use Rattle.line.specs.Demands.{IsDocument01's, GivesBack, Tells}
use Rattle.line.specs.Line.{longest, to_last, from_first, ComesOut, Demand3, refusals, refusals_of, CountsCells}
use Rattle.line.specs.Losses.{Shows, AnyLoss}
use Rattle.line.proofs.Beyond as beyond
use Rattle.line.proofs.Demands as line
use Rattle.line.proofs.Ensures.{Ensured}
use Rattle.line.proofs.Places.{Inside, demand_3_inside}
use Rattle.pages.specs.Boxes.{GoesOn, Marks, ReadAlike, AnsweredAlike}
use Rattle.pages.specs.Face.{
  SendFace,
  MeetsSendFace,
  ReceiveFace,
  MeetsReceiveFace,
  send_of,
  receive_of,
  ReceivingFace,
  left_by_face,
  SettingsAlike,
  OverTheFace,
}
use Rattle.pages.proofs.Boxes as boxes
use Rattle.pages.proofs.Face.{sends_as, receives_as, receiving_as, left_as, total_as, settings_as, opened_back, over_face}

-- The two records of a call are the calls' own `ensures`: the first parameter is a.0, the second a .1 .0 and so on, and what it holds
-- afterwards stands at the same place of v.
pub send_ensures : Ensured send-kinds.ps send-kinds.r send-reads.Post
    (λ κs a x v. MeetsSendFace (record {
      state = a.0.now;
      indication = a.1.0;
      samples = a.1.1.0.now;
      ancillary = a.1.1.1.0.now;
      cell = a.1.1.1.1.0.now;
      refusal = x;
      left = v.0;
      written = v.1.1.1.1.0;
    }))
send_ensures κs a x v p = p

pub receive_ensures : Ensured receive-kinds.ps receive-kinds.r receive-reads.Post
    (λ κs a x v. MeetsReceiveFace (record {
      state = a.0.now;
      cell = a.1.0.now;
      indication = a.1.1.0;
      samples = a.1.1.1.0.now;
      ancillary = a.1.1.1.1.0.now;
      marks = a.1.1.1.1.1.0.now;
      refusal = x;
      left = v.0;
      samples_after = v.1.1.1.0;
      ancillary_after = v.1.1.1.1.0;
      marks_after = v.1.1.1.1.1.0;
      report = v.1.1.1.1.1.1.0;
    }))
receive_ensures κs a x v p = p

-- 2. "Cells, number protection, data protection and placement are document 01's for every format listed."
pub demand_2_cell : (s : SendFace) → MeetsSendFace s → s.refusal ≡ 0 → IsDocument01's (send_of s)
demand_2_cell s meets = line.demand_2_cell (send_of s) (sends_as s meets)

-- "A packed cell that a receiver in the sender's settings takes unaltered gives back every sample and ancillary bit"
pub demand_2 : (s : SendFace) (r : ReceiveFace) → MeetsSendFace s → s.refusal ≡ 0 → SettingsAlike s.state r.state
    → r.cell ≡ s.written → MeetsReceiveFace r → r.refusal ≡ 0 → GivesBack (send_of s) (receive_of r)
demand_2 s r sends sent alike arrived receives received =
    line.demand_2 (send_of s) (receive_of r) (sends_as s sends) sent (settings_as s.state r.state alike) arrived
    (receives_as r receives) received

pub demand_2_numbers : (s : SendFace) (r : ReceiveFace) → MeetsSendFace s → s.refusal ≡ 0 → SettingsAlike s.state r.state
    → r.cell ≡ s.written → MeetsReceiveFace r → r.refusal ≡ 0 → ((format_of (send_of s).state.format).overhead_bits ≡ 0 → ⊥)
    → Tells (send_of s) (receive_of r)
demand_2_numbers s r sends sent alike arrived receives received with_overhead =
    line.demand_2_numbers (send_of s) (receive_of r) (sends_as s sends) sent (settings_as s.state r.state alike) arrived
    (receives_as r receives) received with_overhead

-- "The sender packs samples into 48-octet cell payloads"; "Each cell's number is one more than the last, modulo 16", and the second number
pub sent_octets : (s : SendFace) → MeetsSendFace s → s.refusal ≡ 0 → (i : ℕ) → get_or s.written i 0 < 256
sent_octets s meets = boxes.sent_octets (send_of s) (sends_as s meets)

pub goes_on : (s : SendFace) → MeetsSendFace s → s.refusal ≡ 0 → GoesOn (send_of s)
goes_on s meets = boxes.goes_on (send_of s) (sends_as s meets)

-- "mark 1 means that the three protection bits disagree, and the sample is still given"
pub marks : (r : ReceiveFace) → MeetsReceiveFace r → r.refusal ≡ 0 → (channel time : ℕ) → channel < (B.receiver_of r.state).channels
    → time < R.times_now (B.receiver_of r.state) → Marks (receive_of r) channel time
marks r meets = boxes.marks (receive_of r) (receives_as r meets)

-- "the receiver doesn't judge them" (unused slots); "Later bits are sent as zero and not read"
pub read_alike : (a b : ReceiveFace) → MeetsReceiveFace a → MeetsReceiveFace b → ReadAlike (receive_of a) (receive_of b)
    → AnsweredAlike (receive_of a) (receive_of b)
read_alike a b first second = boxes.read_alike (receive_of a) (receive_of b) (receives_as a first) (receives_as b second)

-- 3. "A format with overhead, cells that one sender wrote in a row, a line that drops some and spoils others .., at most fourteen in a
-- row, a fresh receiver in the sender's settings with room": what each call left in its state of octets is lent to the next.
pub demand_3 : OverTheFace 3 14 4294967295 ComesOut
unfolding Demand3
demand_3 = over_face 3 14 4294967295 ComesOut line.demand_3

-- The minutes: cells lost before the first and after the last unaltered one may be more than fourteen.
pub demand_3_between : (longest-row : ℕ)
    → OverTheFace 3 longest-row 4294967295 (λ fresh trips receives. longest 0 (to_last (from_first trips)) ≤ 14 → Inside fresh trips receives)
demand_3_between longest-row =
    over_face 3 longest-row 4294967295 (λ fresh trips receives. longest 0 (to_last (from_first trips)) ≤ 14 → Inside fresh trips receives)
    (demand_3_inside longest-row)

-- "Extra copies of an unaltered cell are refused 9 and leave nothing behind"
pub demand_3_copies : OverTheFace 3 14 4294967295 (λ fresh trips receives. refusals receives ≡ flat_map (λ t. refusals_of t.fate) trips)
demand_3_copies =
    over_face 3 14 4294967295 (λ fresh trips receives. refusals receives ≡ flat_map (λ t. refusals_of t.fate) trips) line.demand_3_copies

-- whatever the line loses
pub any_loss : (row : ℕ) → OverTheFace 3 row 4294967295 Shows
unfolding AnyLoss
any_loss row = over_face 3 row 4294967295 Shows (beyond.any_loss row)

-- Request 5: "it equals the sound cells plus the missing counts of the calls made since the state was opened, and a refused call doesn't
-- move it". `rime_receiver_placed` returns it.
pub count_after_every_call : (format channels order refusal : ℕ) (state : List ℕ) (calls : List ReceiveFace)
    → B.OpenedReceiver format channels order refusal state → ReceivingFace state calls
    → B.count_of (left_by_face state calls) ≡ count_of (λ c. eqb c.refusal 0) calls + total_of (λ c. get_or c.report 0 0) calls
unfolding CountsCells B.receiver_of
count_after_every_call format channels order refusal state calls opening row =
    let is = opened_back opening in
    ap (λ (rc : Receiver). rc.count) (sym (left_as state calls))
    ∙ line.count_after_every_call format channels order (record { refusal = (R.opened_of format channels order).refusal; state = B.receiver_of state })
    (map receive_of calls) (λ i. record { refusal = (R.opened_of format channels order).refusal; state = is i }) (receiving_as state calls row)
    ∙ ap₂ (λ (m n : ℕ). m + n) (total_as _ calls) (total_as _ calls)
