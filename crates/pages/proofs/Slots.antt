-- What a receiver reads off a cell, by channel and time, and what it doesn't look at.
-- Assumes nothing.
use mathlib.Core.Bool.{Bool, true, false, cond, not, ◌||◌}
use mathlib.Core.List.{List, [], ◌∷◌, ◌++◌}
use mathlib.Core.Path.{◌≡◌, refl, sym, ◌∙◌, ap, ap₂}
use Prim.Native.Nat.{ℕ, zero, suc, ◌+◌, ◌*◌, ◌-◌, ◌≤◌, ◌<◌}
use native.Mathlib.Nat.{mul_comm, zero-mul}
use native.Mathlib.Omega.{arith}
use borrow.Author.Tests.{eqb-false, ltb-false}
use lib.Arith.{digits_div, digits_mod, digits_lt}
use lib.Dec.{eqb, ltb}
use lib.ListN.{length, get_or, replicate, length-append, length-replicate, get_or-append}
use lib.Seq.{get_or-append-add}
use Rattle.runs.specs.Refusals.{or_else}
use Rattle.runs.specs.Runs.{over, tab}
use Rattle.runs.proofs.Laws.{length_tab, get_or_tab, split}
use Rattle.formats.specs.Formats.{format_of}
use Rattle.numbers.specs.Numbers.{gathered, found_of, refusal_of, value_of, difference_of, indication_refused}
use Rattle.cells.specs.Cells.{subframe_at, bit_in, eight_in, second_in, entries_of}
use Rattle.cells.specs.Placement.{slot_of, slot_of_entry}
use Rattle.cells.proofs.Placement.{slot_lt}
use Rattle.receiver.specs.declared.Receiver.{Receiver}
use Rattle.receiver.specs.Receiver as R

-- channel c at time t is entry t×C + c, and is read off its slot
slot_of_lem : (by_channel_of : Bool) (channels times : ℕ) {channel : ℕ} (time : ℕ) → channel < channels
    → slot_of_entry by_channel_of channels times (time * channels + channel) ≡ slot_of by_channel_of channels times channel time
unfolding slot_of_entry
slot_of_lem by_channel_of channels times time h =
    ap₂ (λ (c t : ℕ). slot_of by_channel_of channels times c t) (digits_mod time h) (digits_div time h)

-- an entry behind those of the missing cells
behind : (before missing n : ℕ) (g : ℕ → ℕ) (run : List ℕ) {i : ℕ} → i < n
    → get_or (over (replicate before missing ++ tab g n) run) (before + i) 0 ≡ g i
unfolding over
behind before missing n g run {i} h =
    get_or-append (replicate before missing ++ tab g n) _ 0 (before + i)
    (omega (arith, h, length-append (replicate before missing) (tab g n), length-replicate {A = ℕ} before missing, length_tab g n))
    ∙ ap (λ (m : ℕ). get_or (replicate before missing ++ tab g n) (m + i) 0) (sym (length-replicate {A = ℕ} before missing))
    ∙ get_or-append-add (replicate before missing) (tab g n) i 0
    ∙ get_or_tab g n h

-- what stands in a run there
pub entry_read : (read : ℕ → ℕ) (missing : ℕ) (st : Receiver) (cell run : List ℕ) {channel time : ℕ} → channel < st.channels
    → time < R.times_now st
    → get_or (over (R.entries_now read missing st cell) run)
    ((R.gap_of st cell - 1) * R.used_now st + (time * st.channels + channel)) 0
    ≡ read (subframe_at (format_of st.format) cell (slot_of (eqb st.order 1) st.channels (R.times_now st) channel time))
unfolding R.entries_now entries_of
entry_read read missing st cell run {channel} {time} c< t< =
    behind ((R.gap_of st cell - 1) * R.used_now st) missing (R.used_now st)
    (λ i. read (subframe_at (format_of st.format) cell (slot_of_entry (eqb st.order 1) st.channels (R.times_now st) i))) run
    (omega (arith, digits_lt t< c<, mul_comm (R.times_now st) st.channels))
    ∙ ap (λ (slot : ℕ). read (subframe_at (format_of st.format) cell slot)) (slot_of_lem (eqb st.order 1) st.channels (R.times_now st) time c<)

-- bits gathered, and entries side by side, from what is alike below n
gathered_same : (f g : ℕ → ℕ) (n : ℕ) → ((k : ℕ) → k < n → f k ≡ g k) → gathered f n ≡ gathered g n
unfolding gathered
gathered_same f g zero same = refl
gathered_same f g (suc n) same =
    ap₂ (λ (x y : ℕ). x * 2 + y) (gathered_same f g n (λ k h. same k (omega (arith, h)))) (same n (omega arith))

tab_same : (f g : ℕ → ℕ) (n : ℕ) → ((k : ℕ) → k < n → f k ≡ g k) → tab f n ≡ tab g n
unfolding tab
tab_same f g zero same = refl
tab_same f g (suc n) same =
    ap₂ (λ (x : List ℕ) (y : ℕ). x ++ (y ∷ [])) (tab_same f g n (λ k h. same k (omega (arith, h)))) (same n (omega arith))

some_channel : (channels times : ℕ) {k : ℕ} → k < channels * times → 0 < channels
some_channel zero times h = omega (arith, h, zero-mul times)
some_channel (suc channels) times h = omega arith

-- two cells alike in their used slots and in the sequencing bits that are read
module _ (st : Receiver) (a b : List ℕ)
    (slots : (slot : ℕ) → slot < R.used_now st → subframe_at (format_of st.format) a slot ≡ subframe_at (format_of st.format) b slot)
    (eight : ((format_of st.format).overhead_bits ≡ 0 → ⊥) → (slot : ℕ) → slot < 8
    → bit_in (format_of st.format) a slot ≡ bit_in (format_of st.format) b slot)
    (twelve : ((format_of st.format).overhead_bits ≡ 0 → ⊥) → 12 ≤ (format_of st.format).slots → (slot : ℕ) → slot < 12
    → bit_in (format_of st.format) a slot ≡ bit_in (format_of st.format) b slot)
  where
    found_same : R.found_now st a ≡ R.found_now st b
    unfolding R.found_now eight_in
    found_same =
        split (eqb (format_of st.format).overhead_bits 0)
        (λ e. rw e)
        (λ e. rw e (ap found_of (gathered_same (bit_in (format_of st.format) a) (bit_in (format_of st.format) b) 8 (eight (eqb-false _ 0 e)))))

    second_same : R.second_now st a ≡ R.second_now st b
    unfolding R.second_now second_in
    second_same =
        split (eqb (format_of st.format).overhead_bits 0)
        (λ e. rw e)
        (λ e.
        split (ltb (format_of st.format).slots 12)
        (λ f. rw (e, f))
        (λ f.
        let bits = twelve (eqb-false _ 0 e) (ltb-false _ 12 f) in
        rw (e, f)
        (λ i. bits 8 (omega arith) i + bits 9 (omega arith) i * 2 + bits 10 (omega arith) i * 4 + bits 11 (omega arith) i * 8)))

    gap_same : R.gap_of st a ≡ R.gap_of st b
    unfolding R.gap_of
    gap_same = (λ i. cond (not st.started || eqb (format_of st.format).overhead_bits 0) 1 (difference_of (value_of (found_same i)) st.last))

    pub entries_same : (read : ℕ → ℕ) (missing : ℕ) → R.entries_now read missing st a ≡ R.entries_now read missing st b
    unfolding R.entries_now entries_of
    entries_same read missing =
        ap₂ (λ (gap : ℕ) (own : List ℕ). replicate ((gap - 1) * R.used_now st) missing ++ own) gap_same
        (tab_same _ _ (R.used_now st)
        (λ k h. ap read (slots _ (slot_lt st.channels (R.times_now st) (some_channel st.channels (R.times_now st) h) (eqb st.order 1) h))))

    pub refusal_same : (indication : Bool) (samples ancillary marks : ℕ) → length a ≡ length b
        → R.receive_refusal st a indication samples ancillary marks ≡ R.receive_refusal st b indication samples ancillary marks
    unfolding R.receive_refusal R.count_after
    refusal_same indication samples ancillary marks long = λ i.
        or_else (R.state_refusal st)
        (cond (R.lengths_refused (long i) samples ancillary marks) 5
        (or_else (refusal_of (found_same i))
        (cond (indication_refused (value_of (found_same i)) indication) 15
        (cond (eqb (gap_same i) 0) 9
        (cond (ltb 4294967295 (st.count + gap_same i)) 20
        (cond (ltb samples (gap_same i * R.used_now st)) 10 0))))))

    pub received_same : (indication : Bool) (samples ancillary marks : ℕ) → length a ≡ length b
        → R.received_of st a indication samples ancillary marks ≡ R.received_of st b indication samples ancillary marks
    unfolding R.received_of R.after R.count_after
    received_same indication samples ancillary marks long =
        λ i.
        cond (eqb (refusal_same indication samples ancillary marks long i) 0)
        (record {
          refusal = 0;
          state =
              record {
                format = st.format;
                channels = st.channels;
                order = st.order;
                started = true;
                last = value_of (found_same i);
                count = st.count + gap_same i;
              };
          missing = gap_same i - 1;
          number = value_of (found_same i);
          second = second_same i;
          indication = indication;
        })
        (record {
          refusal = refusal_same indication samples ancillary marks long i;
          state = st;
          missing = 0;
          number = 0;
          second = 0;
          indication = false;
        })
