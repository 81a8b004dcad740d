-- Six wrong boxes and tools that the demands let pass, each shut out by a sentence of a page; and the page's own theorem of ours beside it.
-- Assumes nothing.
use mathlib.Core.Bool.{true, false}
use mathlib.Core.List.{List, [], ◌∷◌}
use mathlib.Core.Path.{◌≡◌, refl, sym, ◌∙◌, ap}
use Prim.Native.Nat.{ℕ, zero, suc, ◌/◌, ◌%◌, ◌^◌, ◌≤◌, ◌<◌}
use native.Mathlib.Nat.{zero-div, not-suc-le-zero}
use native.Mathlib.Omega.{arith}
use lib.ListN.{get_or, set, drop, replicate}
use Rattle.runs.specs.Runs.{over}
use Rattle.cell_log.specs.Answers.{Header}
use Rattle.sender.specs.declared.Sender.{Sender}
use Rattle.sender.specs.Sender as S
use Rattle.receiver.specs.declared.Receiver.{Receiver}
use Rattle.receiver.specs.Receiver as R
use Rattle.reading.specs.Heard.{heard_by, given, hear}
use Rattle.reading.specs.Records.{Whole}
use Rattle.presence.specs.Handed.{Call, HandsOut, AllSilent}
use Rattle.presence.specs.Presence.{presence_of}
use Rattle.presence.proofs.Wrong as presence
use Rattle.saving.proofs.Wrong as saving
use Rattle.status.specs.Bits.{bit_of}
use Rattle.status.specs.Sender.{SendsBlock}
use Rattle.status.specs.Step.{b_of, c_of, fit_of}
use Rattle.status.proofs.Wrong as status
use Rattle.circuits.specs.Plans.{total}
use Rattle.circuits.proofs.Wrong as circuits
use Rattle.rimesatchel.specs.Contents.{presence_numbers}
use Rattle.rimesatchel.specs.Plans.{CheckedPlan}
use Rattle.rimesatchel.specs.Salvages.{SalvagedLog}
use Rattle.rimesatchel.specs.Statuses.{stepped_of, SteppedOctets}
use Rattle.line.specs.Calls.{SendCall, MeetsSend, ReceiveCall, MeetsReceive}
use Rattle.line.proofs.Examples.{studio, fresh, sending}
use Rattle.line.proofs.Opened.{opened}
use Rattle.worked.specs.Cases.{paper's_log, last_sample}
use Rattle.pages.specs.Shut.{
  NeverDamaged,
  MarksEach,
  NeverStores,
  GoesOnEach,
  AlwaysYes,
  ChecksEach,
  NeverHands,
  LabelsOut,
  SavesNothing,
  SalvagesEach,
  AlwaysNo,
  SilentEach,
}
use Rattle.pages.proofs.Asked as Asked
use Rattle.pages.proofs.Read as Read
use Rattle.pages.proofs.Sent as Sent

-- mark 1
pub marks_each : MarksEach MeetsReceive
marks_each = Read.marks

-- the cell of a sender of five channels in 5A hex, with the last protection bit of slot 0 turned
damaged : List ℕ
damaged = set (sending studio 1).written 5 6

pub never_damaged_out : MarksEach NeverDamaged → ⊥
unfolding opened damaged
never_damaged_out meets =
    let r : ReceiveCall =
    record {
      state = fresh;
      cell = damaged;
      indication = false;
      samples = replicate 5 0;
      ancillary = replicate 5 0;
      marks = replicate 5 0;
      answer = R.received_of fresh damaged false 5 5 5;
      samples_after = over (R.entries_given fresh damaged false 5 5 5 (R.samples_now fresh damaged)) (replicate 5 0);
      ancillary_after = over (R.entries_given fresh damaged false 5 5 5 (R.ancillary_now fresh damaged)) (replicate 5 0);
      marks_after = replicate 5 0;
    } in
    let says = meets r (record { answer_right = refl; samples_right = refl; ancillary_right = refl; marked_0 = refl }) refl 0 0 (omega arith) (omega arith) in
    let one : ◌≡◌ {A = ℕ} 0 1 = says.damaged (λ (e : ◌≡◌ {A = ℕ} 4 0). omega arith) (λ e. omega (arith, e)) in
    omega arith

-- the second number
pub goes_on_each : GoesOnEach MeetsSend
goes_on_each = Sent.goes_on

-- a sender of two channels in 56 hex that keeps second numbers, the last of which was 4; and the state after a cell, but for that number
keeping : Sender
keeping = record { format = 0x56; channels = 2; order = 0; number = 0; wanted = true; second = 4; sent = true }

kept : Sender
kept = record { format = 0x56; channels = 2; order = 0; number = 1; wanted = true; second = 4; sent = true }

pub never_stores_out : GoesOnEach NeverStores → ⊥
unfolding opened keeping kept
never_stores_out meets =
    let s : SendCall =
    record {
      state = keeping;
      indication = true;
      samples = replicate 12 0;
      ancillary = replicate 12 0;
      cell = replicate 48 0;
      answer = record { refusal = 0; state = kept };
      written = S.cell_after keeping true (replicate 12 0) (replicate 12 0) (replicate 48 0);
    } in
    let five : ◌≡◌ {A = ℕ} 4 5 =
    (meets s (record { refusal_right = refl; cell_right = refl; second_left = refl }) refl).adds refl refl refl in
    omega arith

-- a checker
pub checks_each : ChecksEach CheckedPlan
checks_each = Asked.checks

pub always_yes_out : ChecksEach AlwaysYes → ⊥
unfolding circuits.unfolded total
always_yes_out meets =
    let good = (meets 0x56 1 48000 [] [] 0 (1 ∷ 0 ∷ []) (record { refused = refl; yes = λ none. refl }) refl).yes_only refl in
    let one : ◌≡◌ {A = ℕ} 0 1 = good.adds_up in
    omega arith

-- a step of channel status
pub labels_out : LabelsOut SteppedOctets
labels_out = Asked.label_out

-- B on the first of 192 entries alone, and no C bit: a block of zeros, of consumer use
begins : ℕ → ℕ
begins zero = 8
begins (suc k) = 0

blocks : ℕ → List ℕ
blocks zero = replicate 25 0
blocks (suc k) = (stepped_of (blocks k) (begins k) 0).block.bits ∷ (stepped_of (blocks k) (begins k) 0).block.octets

zeros_0 : (n i : ℕ) → ◌≡◌ {A = ℕ} (get_or (replicate n 0) i 0) 0
zeros_0 zero i = refl
zeros_0 (suc n) zero = refl
zeros_0 (suc n) (suc i) = zeros_0 n i

no_bits : (k : ℕ) → bit_of (replicate 24 0) k ≡ 0
unfolding bit_of
no_bits k = rw (zeros_0 24 (k / 8)) (ap (λ (n : ℕ). n % 2) (zero-div (2 ^ (k % 8))))

sends_none : SendsBlock (replicate 24 0) begins
unfolding begins
sends_none =
    record {
      within = λ k h. low k;
      first = refl;
      alone = later;
      carries = λ k h. none k ∙ sym (no_bits k);
    }
  where
    low : (k : ℕ) → begins k ≤ 15
    low zero = omega arith
    low (suc k) = omega arith

    later : (k : ℕ) → 0 < k → k < 192 → b_of (begins k) ≡ 0
    later zero h l = absurd (not-suc-le-zero h)
    later (suc k) h l = refl

    none : (k : ℕ) → c_of (begins k) ≡ 0
    none zero = refl
    none (suc k) = refl

pub never_hands_out : LabelsOut NeverHands → ⊥
unfolding blocks status.unfolded
never_hands_out meets =
    let out : replicate 25 0 ≡ fit_of (replicate 24 0) ∷ replicate 24 0 =
    meets blocks (λ k. replicate 25 0) (λ k. (stepped_of (blocks k) (begins k) 0).handed.refusal) begins (λ k. 0) (replicate 24 0)
    (λ k. record { refused = refl; leaves = refl; nothing_out = refl }) (omega arith)
    (record { many = refl; small = λ i. omega (arith, zeros_0 24 i) }) sends_none (λ k h. omega arith) in
    let three : ◌≡◌ {A = ℕ} 0 3 = ap (λ (l : List ℕ). get_or l 0 9) out in
    omega arith

-- a salvage
pub salvages_each : SalvagesEach SalvagedLog
salvages_each = Asked.salvaged_the_same

pub saves_nothing_out : SalvagesEach SavesNothing → ⊥
unfolding saving.unfolded heard_by given hear
saves_nothing_out meets =
    let same = meets paper's_log (replicate 52 0) (0 ∷ 0 ∷ []) 0 (replicate 52 0) (0 ∷ 0 ∷ []) (52 ∷ 1 ∷ 0 ∷ [])
    (record { refused = refl; counted = refl; out_left = refl; list_left = refl }) refl in
    let header : ◌≡◌ {A = ℕ} 1 0 = ap (λ (h : Header). h.refusal) same.header in
    omega arith

-- an `anything`
pub silent_each : SilentEach (λ log refusal answer. (refusal ≡ (presence_of log).refusal) × (answer ≡ presence_numbers (presence_of log)))
silent_each log refusal answer said = Asked.anything_no log refusal answer said

-- a record of 02 hex whose last sample is 5, a receiver of one channel that has placed a cell, and its call for that record
sounding : Whole
sounding = record { indication = false; cell = drop 53 (last_sample 5) }

placed : Receiver
placed = record { format = 2; channels = 1; order = 0; started = true; last = 0; count = 1 }

called : Call placed sounding
unfolding presence.unfolded heard_by given hear sounding placed
called =
    record {
      samples = replicate 720 0;
      ancillary = replicate 720 0;
      marks = replicate 720 0;
      answer = R.received_of placed sounding.cell false 720 720 720;
      samples_after = over (R.entries_given placed sounding.cell false 720 720 720 (R.samples_now placed sounding.cell)) (replicate 720 0);
      ancillary_after = over (R.entries_given placed sounding.cell false 720 720 720 (R.ancillary_now placed sounding.cell)) (replicate 720 0);
      marks_after = over (R.entries_given placed sounding.cell false 720 720 720 (R.marks_now placed sounding.cell)) (replicate 720 0);
      meets = record { answered = refl; samples_after = refl; ancillary_after = refl; marks_after = refl };
      samples_lent = refl;
      ancillary_lent = refl;
      marks_lent = refl;
    }

five : HandsOut called
unfolding presence.unfolded heard_by given hear sounding placed called
five = record { taken = refl; place = 47; written = omega arith; sample = λ (e : ◌≡◌ {A = ℕ} 5 0). omega arith; mark = refl }

pub always_no_out : SilentEach AlwaysNo → ⊥
unfolding presence.unfolded heard_by given hear sounding placed AllSilent
always_no_out meets =
    (meets (last_sample 5) 0 (0 ∷ 2 ∷ []) (record { refused = refl; says_no = refl }) refl refl).1.1.0 called five
