-- Frames of an AES3 cable through the whole line, by demand 2: imported, sent six to a cell of 56 hex with two channels, received
-- unaltered and exported, they are the frames that came.
-- Assumes nothing.
use mathlib.Core.Bool.{false, cond}
use mathlib.Core.List.{List, [], ◌∷◌, ◌++◌}
use mathlib.Core.Path.{◌≡◌, refl, sym, ◌∙◌, ap}
use Prim.Native.Nat.{ℕ, ◌+◌, ◌*◌, ◌<◌}
use native.Mathlib.Omega.{arith}
use lib.Count.{ones, ones_in}
use lib.Dec.{eqb}
use lib.ListN.{replicate}
use Rattle.runs.specs.Runs.{over, joined}
use Rattle.formats.specs.Formats.{length_of, sample_bits, ancillary_bits, overhead_bits, listed_octets, is_among, is_listed, width_of, slots_of, format_of, times_of}
use Rattle.cable.specs.Frames.{import_of, export_of}
use Rattle.cable.specs.Back.{Halves, SameFrame}
use Rattle.cable.specs.Rows.{samples_of, ancillary_of, pair_at}
use Rattle.cable.proofs.Rows.{row_back}
use Rattle.cable.proofs.Wrong as cable
use Rattle.sender.specs.Sender as S
use Rattle.sender.proofs.Wrong as sender
use Rattle.line.specs.Calls.{SendCall, MeetsSend, ReceiveCall, MeetsReceive}
use Rattle.line.specs.Demands.{InSettings}
use Rattle.line.proofs.Demands.{demand_2}

-- Z before the first, X before the others; samples of 3 and 5, which have even parity
abbrev pub some_begin : ℕ → List ℕ
some_begin k = cond (eqb k 0) 0x5A 0x58 ∷ 0x59 ∷ []

abbrev pub some_slots : ℕ → List ℕ
some_slots k = 0x30 ∷ 0x50 ∷ []

-- two channels in a cell of 56 hex have six times
six_times : 12 ≡ 2 * times_of (format_of 0x56).slots 2
unfolding length_of sample_bits ancillary_bits overhead_bits listed_octets is_among is_listed width_of slots_of format_of
six_times = refl

-- six frames, a call that sends what they bring and a call that receives its cell: frame k stands after the six times of each missing
-- cell, and goes out as it came
pub frames_arrive : (preambles subframes : ℕ → List ℕ)
    → ((k : ℕ) → k < 6 → Halves (preambles k) (subframes k))
    → ((k : ℕ) → k < 6 → (import_of (preambles k) (subframes k)).refusal ≡ 0)
    → (s : SendCall) (r : ReceiveCall)
    → s.state.format ≡ 0x56
    → s.state.channels ≡ 2
    → s.samples ≡ samples_of preambles subframes 6
    → s.ancillary ≡ ancillary_of preambles subframes 6
    → MeetsSend s → s.answer.refusal ≡ 0 → InSettings s.state r.state
    → r.cell ≡ s.written → MeetsReceive r → r.answer.refusal ≡ 0
    → (k : ℕ) → k < 6
    → SameFrame (preambles k) (subframes k)
    (export_of (pair_at r.samples_after (r.answer.missing * 6 + k)) (pair_at r.ancillary_after (r.answer.missing * 6 + k)))
frames_arrive preambles subframes halves taken s r format channels is-samples is-ancillary sends went same unaltered receives got =
    let back = demand_2 s r sends went same unaltered receives got in
    let used : S.used_now s.state ≡ 12 = (λ i. channels i * times_of (format_of (format i)).slots (channels i)) ∙ sym six_times in
    let many : r.answer.missing * S.used_now s.state ≡ r.answer.missing * 6 * 2 =
    ap (λ (n : ℕ). r.answer.missing * n) used ∙ omega arith in
    row_back preambles subframes 6 halves taken (r.answer.missing * 6) r.samples r.ancillary r.samples_after r.ancillary_after
    (back.samples_back ∙ (λ i. over (replicate (many i) 0 ++ is-samples i) r.samples))
    (back.ancillary_back ∙ (λ i. over (replicate (many i) 0 ++ is-ancillary i) r.ancillary))

-- Its hypotheses can be met: six frames, a block beginning with the first, that a sender takes.
pub frames_taken : S.send_refusal (S.open_state 0x56 2 0 0 false 0) false (samples_of some_begin some_slots 6) (ancillary_of some_begin some_slots 6) 48 ≡ 0
unfolding sender.unfolded cable.unfolded ones ones_in joined
frames_taken = refl
