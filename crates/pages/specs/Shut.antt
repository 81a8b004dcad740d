-- Six wrong boxes and tools, each right in all but one thing. The demands alone don't shut them out: the sentences of the pages do.
-- Assumes nothing.
use Rattle.std.specs.Prelude.{cond, List, [], ◌∷◌, ◌≡◌, ℕ, suc, ◌≤◌, ◌<◌, eqb, length, get_or, take, replicate}
use Rattle.runs.specs.Runs.{over}
use Rattle.cell_log.specs.Records.{header_of}
use Rattle.sender.specs.declared.Sender.{Sender}
use Rattle.sender.specs.Sender as S
use Rattle.receiver.specs.Receiver as R
use Rattle.reading.specs.Reading.{reading_of, fresh_of, behind_header}
use Rattle.reading.specs.Records.{records_in}
use Rattle.presence.specs.Handed.{AllSilent}
use Rattle.presence.specs.Presence.{presence_of}
use Rattle.saving.specs.Demands.{SameLine}
use Rattle.saving.specs.Salvage.{salvaged_of}
use Rattle.status.specs.Sender.{Octets, SendsBlock}
use Rattle.status.specs.Step.{fit_of}
use Rattle.circuits.specs.Circuits.{check_refusal, octet_refusal}
use Rattle.rimesatchel.specs.Statuses.{stepped_of}
use Rattle.line.specs.Calls.{SendCall, ReceiveCall}
use Rattle.pages.specs.Boxes.{GoesOn, Marks}
use Rattle.pages.specs.Papers.{Checks}

-- "a receiver that never gives mark 1": it marks a damaged sample 0
pub record NeverDamaged (r : ReceiveCall) : Type 0 where
  pub answer_right : r.answer ≡ R.received_of r.state r.cell r.indication (length r.samples) (length r.ancillary) (length r.marks)
  pub samples_right : r.samples_after
      ≡ over (R.entries_given r.state r.cell r.indication (length r.samples) (length r.ancillary) (length r.marks)
      (R.samples_now r.state r.cell)) r.samples
  pub ancillary_right : r.ancillary_after
      ≡ over (R.entries_given r.state r.cell r.indication (length r.samples) (length r.ancillary) (length r.marks)
      (R.ancillary_now r.state r.cell)) r.ancillary
  pub marked_0 : r.marks_after
      ≡ over (R.entries_given r.state r.cell r.indication (length r.samples) (length r.ancillary) (length r.marks)
      (R.entries_now (λ subframe. 0) 2 r.state r.cell)) r.marks

abbrev pub MarksEach : (ReceiveCall → Type 0) → Type 0
MarksEach Box =
    (r : ReceiveCall) → Box r → r.answer.refusal ≡ 0 → (channel time : ℕ) → channel < r.state.channels → time < R.times_now r.state
    → Marks r channel time

-- "a sender that never stores its second number": the state that it should leave, with the second number that it was given
abbrev pub with_second : ℕ → Sender → Sender
with_second second st =
    record {
      format = st.format;
      channels = st.channels;
      order = st.order;
      number = st.number;
      wanted = st.wanted;
      second = second;
      sent = st.sent;
    }

pub record NeverStores (s : SendCall) : Type 0 where
  pub refusal_right : s.answer.refusal ≡ (S.sent_of s.state s.indication s.samples s.ancillary (length s.cell)).refusal
  pub cell_right : s.written ≡ S.cell_after s.state s.indication s.samples s.ancillary s.cell
  pub second_left : s.answer.state
      ≡ with_second s.state.second (S.sent_of s.state s.indication s.samples s.ancillary (length s.cell)).state

abbrev pub GoesOnEach : (SendCall → Type 0) → Type 0
GoesOnEach Box = (s : SendCall) → Box s → s.answer.refusal ≡ 0 → GoesOn s

-- "a checker that always says yes", and refuses as it should
pub record AlwaysYes (octet channels frequency : ℕ) (shares allowances : List ℕ) (refusal : ℕ) (answer : List ℕ) : Type 0 where
  pub refused : refusal ≡ check_refusal (octet_refusal octet) channels frequency (length shares) (length allowances)
  pub yes : refusal ≡ 0 → answer ≡ 1 ∷ 0 ∷ []

abbrev pub ChecksEach : (ℕ → ℕ → ℕ → List ℕ → List ℕ → ℕ → List ℕ → Type 0) → Type 0
ChecksEach Box =
    (octet channels frequency : ℕ) (shares allowances : List ℕ) (refusal : ℕ) (answer : List ℕ)
    → Box octet channels frequency shares allowances refusal answer → refusal ≡ 0 → Checks octet channels frequency shares allowances answer

-- "a step that never hands a block out", and brings the block forward as it should
pub record NeverHands (block : List ℕ) (ancillary mark refusal : ℕ) (left out : List ℕ) : Type 0 where
  pub refused : refusal ≡ (stepped_of block ancillary mark).handed.refusal
  pub leaves : left ≡ (stepped_of block ancillary mark).block.bits ∷ (stepped_of block ancillary mark).block.octets
  pub nothing_out : out ≡ replicate 25 0

abbrev pub LabelsOut : (List ℕ → ℕ → ℕ → ℕ → List ℕ → List ℕ → Type 0) → Type 0
LabelsOut Box =
    (blocks outs : ℕ → List ℕ) (refusals ancillary mark : ℕ → ℕ) (octets : List ℕ)
    → ((k : ℕ) → Box (blocks k) (ancillary k) (mark k) (refusals k) (blocks (suc k)) (outs k))
    → get_or (blocks 0) 0 0 ≤ 191 → Octets octets → SendsBlock octets ancillary → ((k : ℕ) → k < 192 → mark k ≤ 1)
    → outs 191 ≡ fit_of octets ∷ octets

-- "a salvage that writes nothing", and counts as it should
pub record SavesNothing (log out list : List ℕ) (refusal : ℕ) (out₁ list₁ counts : List ℕ) : Type 0 where
  pub refused : refusal ≡ (salvaged_of log (length out) (length list)).refusal
  pub counted : counts
      ≡ (salvaged_of log (length out) (length list)).octets ∷ (salvaged_of log (length out) (length list)).left_out
      ∷ (salvaged_of log (length out) (length list)).cut ∷ []
  pub out_left : out₁ ≡ out
  pub list_left : list₁ ≡ list

abbrev pub SalvagesEach : (List ℕ → List ℕ → List ℕ → ℕ → List ℕ → List ℕ → List ℕ → Type 0) → Type 0
SalvagesEach Box =
    (log out list : List ℕ) (refusal : ℕ) (out₁ list₁ counts : List ℕ) → Box log out list refusal out₁ list₁ counts → refusal ≡ 0
    → SameLine (reading_of (take (get_or counts 0 0) out₁)) (reading_of log)

-- "an `anything` that always says no", and how many records were read
pub record AlwaysNo (log : List ℕ) (refusal : ℕ) (answer : List ℕ) : Type 0 where
  pub refused : refusal ≡ (presence_of log).refusal
  pub says_no : answer ≡ 0 ∷ cond (eqb refusal 0) (length (records_in (behind_header log))) 0 ∷ []

abbrev pub SilentEach : (List ℕ → ℕ → List ℕ → Type 0) → Type 0
SilentEach Box =
    (log : List ℕ) (refusal : ℕ) (answer : List ℕ) → Box log refusal answer → refusal ≡ 0 → get_or answer 0 0 ≡ 0
    → (get_or answer 1 0 ≡ length (records_in (behind_header log))) × AllSilent (fresh_of (header_of log)) (records_in (behind_header log))
