-- A cell that a call of `send` wrote, and what a receiver in the sender's settings reads off it.
-- Assumes nothing.
use mathlib.Core.Bool.{Bool, true, false, cond, ◌&&◌}
use mathlib.Core.List.{List, ◌++◌}
use mathlib.Core.Path.{◌≡◌, sym, ◌∙◌, ap, ap₂}
use Prim.Native.Nat.{ℕ, ◌*◌, ◌-◌, ◌≤◌, ◌<◌}
use native.Mathlib.Nat.{mod-lt}
use native.Mathlib.Omega.{arith}
use borrow.Author.Tests.{ne_eqb, eqb-true}
use lib.Dec.{eqb}
use lib.ListN.{length, replicate}
use Rattle.std.specs.Prelude.{Some}
use Rattle.runs.proofs.Laws.{split, past, past_both}
use Rattle.formats.specs.declared.Format.{Format}
use Rattle.formats.specs.Formats.{format_of, times_of, settings_refusal}
use Rattle.formats.specs.Settings.{settled}
use Rattle.numbers.specs.Numbers.{entry_of, found_of, value_of, indication_refused}
use Rattle.numbers.proofs.Laws.{entry_lt, entry_found}
use Rattle.cells.specs.Cells.{sample_in, ancillary_in, mark_in, eight_in, second_in, entries_of}
use Rattle.cells.specs.Placement.{used_of}
use Rattle.cells.proofs.Sent.{sent_cell}
use Rattle.cells.proofs.Whole.{cell_length, eight_in_back, second_in_back, second_in_none, samples_back, ancillaries_back, marks_back}
use Rattle.sender.specs.declared.Sender.{Sender}
use Rattle.sender.specs.Packing.{Packable}
use Rattle.sender.specs.Sender as S
use Rattle.sender.proofs.Laws as SL
use Rattle.receiver.specs.declared.Receiver.{Receiver}
use Rattle.receiver.specs.Receiver as R
use Rattle.line.specs.Calls.{SendCall, MeetsSend, ReceiveCall, MeetsReceive}
use Rattle.line.specs.Demands.{send_table, receive_table, InSettings, IsDocument01's}

-- the refusal of an answer is the refusal of the table
pub sent_refusal : (s : SendCall) → MeetsSend s → s.answer.refusal ≡ send_table s
unfolding S.sent_of
sent_refusal s meets =
    ap (λ x. x.refusal) meets.answered ∙ split (eqb (send_table s) 0) (λ t. rw t (sym (eqb-true _ 0 t))) (λ t. rw t)

pub received_refusal : (r : ReceiveCall) → MeetsReceive r → r.answer.refusal ≡ receive_table r
unfolding R.received_of
received_refusal r meets =
    ap (λ x. x.refusal) meets.answered ∙ split (eqb (receive_table r) 0) (λ t. rw t (sym (eqb-true _ 0 t))) (λ t. rw t)

-- C×T is that of the settings
pub used_in_lem : {st : Sender} {rc : Receiver} → InSettings st rc → R.used_now rc ≡ S.used_now st
used_in_lem same = λ i. used_of (same.format i) (same.channels i)

-- a call that wrote a cell
module _ (s : SendCall) (meets : MeetsSend s) (sent : s.answer.refusal ≡ 0) where
  none : send_table s ≡ 0
  none = sym (sent_refusal s meets) ∙ sent

  pub settings_none : settings_refusal s.state.format s.state.channels s.state.order ≡ 0
  settings_none = SL.settings_none s.state s.indication s.samples s.ancillary (length s.cell) none

  pub state_passes : SL.StatePasses s.state.format s.state.channels s.state.order s.state.number s.state.second
  state_passes = SL.passes s.state s.indication s.samples s.ancillary (length s.cell) none

  pub number_lt : s.state.number < 16
  number_lt = omega (arith, state_passes.number_to)

  pub fits : Packable (settled s.state.format s.state.channels s.state.order) s.samples s.ancillary
  fits = SL.packable s.state s.indication s.samples s.ancillary (length s.cell) none

  -- its indication passed check 7
  pub rightly_indicated : indication_refused s.state.number s.indication ≡ false
  unfolding S.send_refusal
  rightly_indicated =
      let fifth = past (S.lengths_refused s.state s.samples s.ancillary (length s.cell)) 4 _ (past_both (S.state_refusal s.state) _ none).1 in
      let sixth = past (S.values_refused s.state s.samples s.ancillary) 5 _ fifth.1 in
      (past (indication_refused s.state.number s.indication) 6 0 sixth.1).0

  pub next_state : s.answer.state ≡ S.after s.state s.indication
  unfolding S.sent_of
  next_state = ap (λ x. x.state) meets.answered ∙ rw none

  -- a sender goes on in its settings
  pub settings_on : {rc : Receiver} → InSettings s.state rc → InSettings s.answer.state rc
  unfolding S.after
  settings_on same =
      record {
        format = same.format ∙ sym (ap (λ x. x.format) next_state);
        channels = same.channels ∙ sym (ap (λ x. x.channels) next_state);
        order = same.order ∙ sym (ap (λ x. x.order) next_state);
      }

  pub written_is : s.written ≡ S.cell_now s.state s.indication s.samples s.ancillary
  unfolding S.cell_after
  written_is = meets.cell_after_lem ∙ rw none

  pub cell_48 : length s.written ≡ 48
  unfolding S.cell_now
  cell_48 =
      ap length written_is
      ∙ cell_length fits.limits.sound _ s.state.channels (S.times_now s.state) _ _ s.samples s.ancillary

  pub second_small : S.second_now s.state s.indication < 16
  unfolding S.second_now
  second_small =
      either (s.state.wanted && (s.indication && s.state.sent)) (mod-lt _ (omega arith)) (omega (arith, state_passes.second_to))
    where
      either : (b : Bool) {x y : ℕ} → x < 16 → y < 16 → cond b x y < 16
      either true hx hy = hx
      either false hx hy = hy

  -- with overhead
  module _ (with_overhead : (S.format_now s.state).overhead_bits ≡ 0 → ⊥) where
    pub eight_sent : eight_in (S.format_now s.state) s.written ≡ entry_of s.state.number
    unfolding S.cell_now
    eight_sent =
        ap (eight_in (S.format_now s.state)) written_is
        ∙ eight_in_back fits.limits.sound _ s.state.channels (S.times_now s.state) _ _ s.samples s.ancillary
        fits.small fits.few with_overhead (entry_lt number_lt)

    second_sent : 12 ≤ (S.format_now s.state).slots
        → second_in (S.format_now s.state) s.written ≡ S.second_now s.state s.indication
    unfolding S.cell_now
    second_sent enough =
        ap (second_in (S.format_now s.state)) written_is
        ∙ second_in_back fits.limits.sound _ s.state.channels (S.times_now s.state) _ _ s.samples s.ancillary
        fits.small fits.few with_overhead enough second_small

    no_second_sent : (S.format_now s.state).slots < 12 → second_in (S.format_now s.state) s.written ≡ 0
    unfolding S.cell_now
    no_second_sent less =
        ap (second_in (S.format_now s.state)) written_is
        ∙ second_in_none fits.limits.sound _ s.state.channels (S.times_now s.state) _ _ s.samples s.ancillary
        fits.small fits.few with_overhead less

    -- the numbers that a receiver in the sender's settings finds there
    module _ (r : ReceiveCall) (same : InSettings s.state r.state) (arrived : r.cell ≡ s.written) where
      pub found_there : R.found_now r.state r.cell ≡ Some s.state.number
      unfolding R.found_now
      found_there =
          (λ i.
          cond (eqb (format_of (same.format i)).overhead_bits 0) (Some 0) (found_of (eight_in (format_of (same.format i)) (arrived i))))
          ∙ rw (ne_eqb _ 0 with_overhead) (ap found_of eight_sent ∙ entry_found number_lt)

      pub rightly_there : r.indication ≡ s.indication → indication_refused (R.number_now r.state r.cell) r.indication ≡ false
      unfolding value_of
      rightly_there indicated = ap₂ indication_refused (ap value_of found_there) indicated ∙ rightly_indicated

      second_here : R.second_now r.state r.cell ≡ second_in (S.format_now s.state) s.written
      unfolding R.second_now
      second_here =
          (λ i. cond (eqb (format_of (same.format i)).overhead_bits 0) 0 (second_in (format_of (same.format i)) (arrived i)))
          ∙ rw (ne_eqb _ 0 with_overhead)

      pub second_there : 12 ≤ (S.format_now s.state).slots → R.second_now r.state r.cell ≡ S.second_now s.state s.indication
      second_there enough = second_here ∙ second_sent enough

      pub no_second_there : (S.format_now s.state).slots < 12 → R.second_now r.state r.cell ≡ 0
      no_second_there less = second_here ∙ no_second_sent less

  -- at a receiver in the sender's settings
  module _ (r : ReceiveCall) (same : InSettings s.state r.state) (arrived : r.cell ≡ s.written) where
    abbrev cell : List ℕ
    cell = S.cell_now s.state s.indication s.samples s.ancillary

    -- what is read off the cell's own slots, after the entries of d - 1 missing cells
    entries : (read : Format → ℕ → ℕ) (missing : ℕ) {own : List ℕ}
        → entries_of (read (S.format_now s.state)) (S.format_now s.state) (eqb s.state.order 1) s.state.channels
        (S.times_now s.state) cell
        ≡ own
        → R.entries_now (read (format_of r.state.format)) missing r.state r.cell
        ≡ replicate ((R.gap_of r.state r.cell - 1) * S.used_now s.state) missing ++ own
    unfolding R.entries_now
    entries read missing e =
        ap₂ (λ (n : ℕ) (l : List ℕ). replicate ((R.gap_of r.state r.cell - 1) * n) missing ++ l) (used_in_lem same)
        ((λ i.
        entries_of (read (format_of (same.format i))) (format_of (same.format i)) (eqb (same.order i) 1) (same.channels i)
        (times_of (format_of (same.format i)).slots (same.channels i)) ((arrived ∙ written_is) i))
        ∙ e)

    pub samples_there : R.samples_now r.state r.cell
        ≡ replicate ((R.gap_of r.state r.cell - 1) * S.used_now s.state) 0 ++ s.samples
    unfolding S.cell_now
    samples_there =
        entries sample_in 0
        (samples_back fits.limits.sound _ s.state.channels (S.times_now s.state) _ _ s.samples s.ancillary
        fits.small fits.few fits.limits.channels_from fits.limits.used_in_lem fits.samples_length)

    pub ancillary_there : R.ancillary_now r.state r.cell
        ≡ replicate ((R.gap_of r.state r.cell - 1) * S.used_now s.state) 0 ++ s.ancillary
    unfolding S.cell_now
    ancillary_there =
        entries ancillary_in 0
        (ancillaries_back fits.limits.sound _ s.state.channels (S.times_now s.state) _ _ s.samples s.ancillary
        fits.small fits.few fits.limits.channels_from fits.limits.used_in_lem fits.ancillary_length)

    pub marks_there : R.marks_now r.state r.cell
        ≡ replicate ((R.gap_of r.state r.cell - 1) * S.used_now s.state) 2 ++ replicate (S.used_now s.state) 0
    unfolding S.cell_now
    marks_there =
        entries mark_in 2
        (marks_back fits.limits.sound _ s.state.channels (S.times_now s.state) _ _ s.samples s.ancillary
        fits.small fits.few fits.limits.channels_from fits.limits.used_in_lem)

  -- what the cell holds, sentence by sentence
  pub is_document_01's : IsDocument01's s
  unfolding S.cell_now
  is_document_01's =
      rw written_is
      (sent_cell fits.limits.sound _ s.state.channels (S.times_now s.state) s.state.number _ s.samples s.ancillary
      fits.small fits.few fits.limits.channels_from fits.limits.used_in_lem number_lt)
