-- From the line to the new network, by demand 2: a cell without overhead that a receiver took unaltered leaves as data units whatever
-- their size, and reading these gives what was sent.
-- Assumes nothing.
use mathlib.Core.Bool.{Bool, true, false, not, ◌||◌}
use mathlib.Core.List.{List, ◌++◌}
use mathlib.Core.Path.{◌≡◌, refl, sym, ◌∙◌, ap, ap₂}
use Prim.Native.Nat.{ℕ, suc, ◌*◌, ◌%◌, ◌-◌, ◌<◌}
use native.Mathlib.Nat.{zero-mul, one-mul, mul-mod_right}
use native.Mathlib.Omega.{arith}
use borrow.Author.Tests.{eq-eqb, ne_eqb, le-ltb}
use lib.ListN.{length, take, drop, replicate}
use lib.Seq.{take_at}
use Rattle.runs.specs.Runs.{over}
use Rattle.runs.proofs.Laws.{past, past_both}
use Rattle.formats.specs.Formats.{format_of, times_of, settings_refusal}
use Rattle.formats.proofs.Laws.{settles_all}
use Rattle.sender.specs.Sender as S
use Rattle.receiver.specs.declared.Receiver.{Receiver}
use Rattle.receiver.specs.Receiver as R
use Rattle.units.specs.Units.{values_refused}
use Rattle.units.specs.Back.{ExportCall, MeetsExport, export_table, ReadCall, MeetsRead, ReadsUnit}
use Rattle.units.proofs.Laws.{export_taken}
use Rattle.units.proofs.Demand1.{export_refusal_lem}
use Rattle.units.proofs.Back.{back_whole}
use Rattle.line.specs.Calls.{SendCall, MeetsSend, ReceiveCall, MeetsReceive}
use Rattle.line.specs.Demands.{receive_table, InSettings}
use Rattle.line.specs.Units.{ExportsReceived, ComesBack}
use Rattle.line.proofs.Cells.{sent_refusal, received_refusal, settings_none, used_in_lem, fits}
use Rattle.line.proofs.Calls.{gives_back}

-- order 0 is taken where another order is
in_order : (octet channels order : ℕ) → settings_refusal octet channels order ≡ 0 → settings_refusal octet channels 0 ≡ 0
unfolding settings_refusal
in_order octet channels order none =
    let settles = settles_all octet channels order none in
    rw (settles.listed, ne_eqb channels 0 (λ z. omega (arith, z, settles.channels_from)), le-ltb _ channels settles.channels_to)

-- without overhead no cell is missing
gap_one : (st : Receiver) (cell : List ℕ) → (format_of st.format).overhead_bits ≡ 0 → R.gap_of st cell ≡ 1
unfolding R.gap_of
gap_one st cell bare = rw (eq-eqb (format_of st.format).overhead_bits 0 bare, either (not st.started))
  where
    either : (b : Bool) → b || true ≡ true
    either true = refl
    either false = refl

-- entries at the start of a run
at_start : (new run : List ℕ) {used : ℕ} → length new ≡ used → take used (over new run) ≡ new
unfolding over
at_start new run e = take_at new (drop (length new) run) _ e

module _ (s : SendCall) (r : ReceiveCall) (sends : MeetsSend s) (sent : s.answer.refusal ≡ 0) (same : InSettings s.state r.state)
    (arrived : r.cell ≡ s.written) (receives : MeetsReceive r) (received : r.answer.refusal ≡ 0)
    (bare : (S.format_now s.state).overhead_bits ≡ 0)
  where
    none_missing : r.answer.missing ≡ 0
    unfolding R.received_of
    none_missing =
        let taken : receive_table r ≡ 0 = sym (received_refusal r receives) ∙ received in
        let told : r.answer.missing ≡ R.gap_of r.state r.cell - 1 = ap (λ x. x.missing) receives.answered ∙ rw taken in
        let one : R.gap_of r.state r.cell ≡ 1
        = gap_one r.state r.cell (ap (λ (octet : ℕ). (format_of octet).overhead_bits) same.format ∙ bare) in
        omega (arith, told, one)

    -- so what the receiver wrote is what was sent
    wrote : (sent-run run run₁ : List ℕ) → length sent-run ≡ S.used_now s.state
        → run₁ ≡ over (replicate (r.answer.missing * S.used_now s.state) 0 ++ sent-run) run
        → take (suc r.answer.missing * R.used_now r.state) run₁ ≡ sent-run
    wrote sent-run run run₁ long left =
        let many : suc r.answer.missing * R.used_now r.state ≡ S.used_now s.state
        = ap₂ (λ (m n : ℕ). suc m * n) none_missing (used_in_lem same) ∙ one-mul (S.used_now s.state) in
        let none : r.answer.missing * S.used_now s.state ≡ 0 = ap (λ (n : ℕ). n * S.used_now s.state) none_missing ∙ zero-mul _ in
        ap₂ take many (left ∙ ap (λ (n : ℕ). over (replicate n 0 ++ sent-run) run) none) ∙ at_start sent-run run long

    -- the sender took the values, and so does the export
    small : values_refused (S.format_now s.state) s.samples s.ancillary ≡ false
    unfolding S.send_refusal S.values_refused values_refused
    small =
        let later = (past_both _ _ (sym (sent_refusal s sends) ∙ sent)).1 in
        let fifth = past (S.lengths_refused s.state s.samples s.ancillary (length s.cell)) 4 _ later in
        (past (S.values_refused s.state s.samples s.ancillary) 5 _ fifth.1).0

    module _ (e : ExportCall) (these : ExportsReceived r e) (meets : MeetsExport e) where
      octet_is : e.octet ≡ s.state.format
      octet_is = these.same_octet ∙ same.format

      channels_are : e.channels ≡ s.state.channels
      channels_are = these.same_channels ∙ same.channels

      samples_are : e.samples ≡ s.samples
      samples_are =
          these.the_samples
          ∙ wrote s.samples r.samples r.samples_after (fits s sends sent).samples_length
          (gives_back s r sends sent same arrived receives received).samples_back

      ancillary_is : e.ancillary ≡ s.ancillary
      ancillary_is =
          these.the_ancillary
          ∙ wrote s.ancillary r.ancillary r.ancillary_after (fits s sends sent).ancillary_length
          (gives_back s r sends sent same arrived receives received).ancillary_back

      table_none : export_table e ≡ 0
      table_none =
          export_taken e.octet e.channels e.size e.samples e.ancillary (length e.out)
          ((λ i. settings_refusal (octet_is i) (channels_are i) 0)
          ∙ in_order s.state.format s.state.channels s.state.order (settings_none s sends sent))
          (ap length ancillary_is ∙ (fits s sends sent).ancillary_length ∙ sym (ap length samples_are ∙ (fits s sends sent).samples_length))
          ((λ i. length (samples_are i) % channels_are i)
          ∙ ap (λ (n : ℕ). n % s.state.channels) (fits s sends sent).samples_length
          ∙ mul-mod_right s.state.channels (times_of (format_of s.state.format).slots s.state.channels))
          ((λ i. values_refused (format_of (octet_is i)) (samples_are i) (ancillary_is i)) ∙ small)
          (ap (λ (octet : ℕ). (format_of octet).overhead_bits) octet_is ∙ bare)
          these.size_from these.room

      leaves : e.answer.refusal ≡ 0
      leaves = export_refusal_lem e meets ∙ table_none

      -- what demand 2 gives back leaves and comes back the same
      pub comes_back : (reads : ℕ → ReadCall) → ((k : ℕ) → k < e.answer.units → ReadsUnit e k (reads k) × MeetsRead (reads k)) → ComesBack s e reads
      comes_back reads each =
          let back = back_whole e meets leaves reads each in
          record {
            leaves = leaves;
            none_refused = back.none_refused;
            samples_back = back.samples_back ∙ samples_are;
            ancillary_back = back.ancillary_back ∙ ancillary_is;
          }
