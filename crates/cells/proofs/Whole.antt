-- A whole cell there and back, for every format, C and order at once.
-- Assumes nothing.
use Rattle.std.proofs.Common.{◌≡◌, ℕ, zero, ◌+◌, ◌*◌, ◌/◌, ◌%◌, ◌^◌, ◌<◌, ◌≤◌, Bool, true, false, cond, ltb, List, length, get_or, replicate, sym, ap, ◌∙◌, ap₂, mod-eq_of_lt, mul_comm, zero-mul, arith, pow_pos, le-ltb, lt-ltb}
use lib.Arith.{digits_div, digits_mod, digits_lt}
use lib.ListN.{length-replicate, get_or-replicate}
use Rattle.runs.specs.Runs.{number_of}
use Rattle.runs.proofs.Laws.{tab_is, length_octets, length_joined, part_joined, read_octets}
use Rattle.formats.specs.declared.Format.{Format}
use Rattle.formats.specs.Sound.{Sound}
use Rattle.numbers.specs.Numbers.{word_bit}
use Rattle.numbers.proofs.Laws.{bit_lt, eight_back, second_back, gathered_same, second_bit, later_bit}
use Rattle.cells.specs.Cells.{
  guard_in,
  subframe_of,
  slot_octets,
  cell_of,
  subframe_at,
  sample_in,
  ancillary_in,
  mark_in,
  bit_in,
  eight_in,
  second_in,
  entries_of,
}
use Rattle.cells.specs.Placement.{slot_of, slot_of_entry, carried}
use Rattle.cells.proofs.Placement.{slot_lt, carried_entry}
use Rattle.cells.proofs.Subframes.{subframe_lt, sample_back, ancillary_back, mark_back, guard_zero, guard_back, bit_back}

either_lt : (test : Bool) {x bound : ℕ} → x < bound → zero < bound → cond test x 0 < bound
either_lt true h some = h
either_lt false h some = some

pub carried_lt : (by_channel_of : Bool) (channels times : ℕ) (run : List ℕ) (bound : ℕ)
    → ((i : ℕ) → get_or run i 0 < bound) → zero < bound → (k : ℕ) → carried by_channel_of channels times run k < bound
unfolding carried
carried_lt by_channel_of channels times run bound each some k = either_lt (ltb k (channels * times)) (each _) some

module _ {f : Format} (s : Sound f) (by_channel_of : Bool) (channels times word second : ℕ) (samples ancillary : List ℕ) where
  slot_length : (k : ℕ) → length (slot_octets f by_channel_of channels times word second samples ancillary k) ≡ f.width
  unfolding slot_octets
  slot_length k = length_octets f.width _

  pub cell_length : length (cell_of f by_channel_of channels times word second samples ancillary) ≡ 48
  unfolding cell_of
  cell_length =
      length_joined (slot_octets f by_channel_of channels times word second samples ancillary) f.width f.slots slot_length
      ∙ s.cell

  module _
      (small : (i : ℕ) → get_or samples i 0 < 2 ^ f.sample_bits)
      (few : (i : ℕ) → get_or ancillary i 0 < 2 ^ f.ancillary_bits)
    where
      abbrev cell : List ℕ
      cell = cell_of f by_channel_of channels times word second samples ancillary

      sample_lt : (k : ℕ) → carried by_channel_of channels times samples k < 2 ^ f.sample_bits
      sample_lt = carried_lt by_channel_of channels times samples (2 ^ f.sample_bits) small (pow_pos f.sample_bits)

      ancillary_lt : (k : ℕ) → carried by_channel_of channels times ancillary k < 2 ^ f.ancillary_bits
      ancillary_lt = carried_lt by_channel_of channels times ancillary (2 ^ f.ancillary_bits) few (pow_pos f.ancillary_bits)

      abbrev sent : ℕ → ℕ
      sent k =
          subframe_of f
          (carried by_channel_of channels times samples k)
          (carried by_channel_of channels times ancillary k)
          (word_bit word second k)

      pub subframe_there : {k : ℕ} → k < f.slots → subframe_at f cell k ≡ sent k
      unfolding subframe_at cell_of slot_octets
      subframe_there {k} h =
          ap number_of
          (part_joined (slot_octets f by_channel_of channels times word second samples ancillary) f.width f.slots slot_length h)
          ∙ read_octets f.width 0 (sent k)
          ∙ rw (zero-mul (256 ^ f.width), mod-eq_of_lt (subframe_lt s (sample_lt k) (ancillary_lt k) (bit_lt word second k)))
          (omega arith)

      -- what a slot's subframe has
      sample_of : (k : ℕ) → sample_in f (sent k) ≡ carried by_channel_of channels times samples k
      sample_of k = sample_back s (sample_lt k) (ancillary_lt k) (bit_lt word second k)

      ancillary_of_lem : (k : ℕ) → ancillary_in f (sent k) ≡ carried by_channel_of channels times ancillary k
      ancillary_of_lem k = ancillary_back s (sample_lt k) (ancillary_lt k) (bit_lt word second k)

      sample_there : {k : ℕ} → k < f.slots → sample_in f (subframe_at f cell k) ≡ carried by_channel_of channels times samples k
      sample_there {k} h = ap (sample_in f) (subframe_there h) ∙ sample_of k

      ancillary_there : {k : ℕ} → k < f.slots → ancillary_in f (subframe_at f cell k) ≡ carried by_channel_of channels times ancillary k
      ancillary_there {k} h = ap (ancillary_in f) (subframe_there h) ∙ ancillary_of_lem k

      -- "Unused slots have sample and ancillary 0"
      pub unused_zero : {k : ℕ} → channels * times ≤ k → k < f.slots
          → (sample_in f (subframe_at f cell k) ≡ 0) × (ancillary_in f (subframe_at f cell k) ≡ 0)
      unfolding carried
      unused_zero {k} past h = (sample_there h ∙ rw (le-ltb _ _ past), ancillary_there h ∙ rw (le-ltb _ _ past))

      module _ (some : zero < channels) (fit : channels * times ≤ f.slots) where
        abbrev slot : ℕ → ℕ
        slot = slot_of_entry by_channel_of channels times

        within : {i : ℕ} → i < channels * times → slot i < f.slots
        within h = omega (arith, slot_lt channels times some by_channel_of h)

        -- what is read off the slot of each entry makes a run, where it is that run's entry
        read_back : (read : ℕ → ℕ) (run : List ℕ) → length run ≡ channels * times
            → ((i : ℕ) → i < channels * times → read (sent (slot i)) ≡ get_or run i 0)
            → entries_of read f by_channel_of channels times cell ≡ run
        unfolding entries_of
        read_back read run len each =
            tab_is _ (channels * times) run len (λ i h. ap read (subframe_there (within h)) ∙ each i h)

        pub samples_back : length samples ≡ channels * times → entries_of (sample_in f) f by_channel_of channels times cell ≡ samples
        samples_back len =
            read_back (sample_in f) samples len
            (λ i h. sample_of (slot i) ∙ carried_entry channels times by_channel_of samples some h)

        pub ancillaries_back : length ancillary ≡ channels * times
            → entries_of (ancillary_in f) f by_channel_of channels times cell ≡ ancillary
        ancillaries_back len =
            read_back (ancillary_in f) ancillary len
            (λ i h. ancillary_of_lem (slot i) ∙ carried_entry channels times by_channel_of ancillary some h)

        pub marks_back : entries_of (mark_in f) f by_channel_of channels times cell ≡ replicate (channels * times) 0
        marks_back =
            read_back (mark_in f) (replicate (channels * times) 0) (length-replicate (channels * times) 0)
            (λ i h.
            mark_back s (sample_lt (slot i)) (ancillary_lt (slot i)) (bit_lt word second (slot i))
            ∙ sym (get_or-replicate (channels * times) i 0 0 h))

        -- the slot of channel c at time t carries entry t×C + c
        module _ (channel time : ℕ) (which : channel < channels) (when : time < times) where
          abbrev place : ℕ
          place = slot_of by_channel_of channels times channel time

          of_entry : slot (time * channels + channel) ≡ place
          unfolding slot_of_entry
          of_entry = ap₂ (slot_of by_channel_of channels times) (digits_mod time which) (digits_div time which)

          entry_in : time * channels + channel < channels * times
          entry_in = rw (mul_comm channels times) (digits_lt when which)

          place_in : place < f.slots
          place_in = rw (← of_entry) (within entry_in)

          carries : (run : List ℕ) → carried by_channel_of channels times run place ≡ get_or run (time * channels + channel) 0
          carries run =
              ap (carried by_channel_of channels times run) (sym of_entry) ∙ carried_entry channels times by_channel_of run some entry_in

          pub sample_at : sample_in f (subframe_at f cell place) ≡ get_or samples (time * channels + channel) 0
          sample_at = sample_there place_in ∙ carries samples

          pub ancillary_at_lem : ancillary_in f (subframe_at f cell place) ≡ get_or ancillary (time * channels + channel) 0
          ancillary_at_lem = ancillary_there place_in ∙ carries ancillary

      module _ (over : f.overhead_bits ≡ 0 → ⊥) where
        -- the three last bits of every slot protect what stands there, and are 111 where nothing does
        pub protection_at : {k : ℕ} → k < f.slots
            → subframe_at f cell k % 8
            ≡ guard_in f (sample_in f (subframe_at f cell k)) (ancillary_in f (subframe_at f cell k))
        protection_at {k} h =
            ap (λ (n : ℕ). n % 8) (subframe_there h)
            ∙ guard_back s (sample_lt k) (ancillary_lt k) (bit_lt word second k) over
            ∙ sym (ap₂ (guard_in f) (sample_there h) (ancillary_there h))

        pub protection_unused : {k : ℕ} → channels * times ≤ k → k < f.slots → subframe_at f cell k % 8 ≡ 7
        protection_unused past h =
            let none = unused_zero past h in
            protection_at h ∙ ap₂ (guard_in f) none.0 none.1 ∙ guard_zero f

        bit_there : {k : ℕ} → k < f.slots → bit_in f cell k ≡ word_bit word second k
        unfolding bit_in
        bit_there {k} h =
            ap (λ (n : ℕ). n / 8 % 2) (subframe_there h)
            ∙ bit_back s (sample_lt k) (ancillary_lt k) (bit_lt word second k) over

        pub eight_in_back : word < 256 → eight_in f cell ≡ word
        unfolding eight_in
        eight_in_back h =
            gathered_same (bit_in f cell) (word_bit word second) 8 (λ k less. bit_there (omega (arith, less, s.slots_from)))
            ∙ eight_back second h

        pub second_in_back : 12 ≤ f.slots → second < 16 → second_in f cell ≡ second
        unfolding second_in
        second_in_back enough h =
            rw (
              le-ltb _ _ enough,
              bit_there {k = 8} (omega arith),
              bit_there {k = 9} (omega arith),
              bit_there {k = 10} (omega arith),
              bit_there {k = 11} (omega arith),
            )
            (second_back word h)

        -- bits 9 to 12 one by one, and those after them
        pub second_bits : {i : ℕ} → i < 4 → 12 ≤ f.slots → bit_in f cell (8 + i) ≡ second / 2 ^ i % 2
        second_bits {i} h enough = bit_there {k = 8 + i} (omega arith) ∙ second_bit word second h

        pub later_bits : {k : ℕ} → 12 ≤ k → k < f.slots → bit_in f cell k ≡ 0
        later_bits past h = bit_there h ∙ later_bit word second past

        pub second_in_none : f.slots < 12 → second_in f cell ≡ 0
        unfolding second_in
        second_in_none less = rw (lt-ltb _ _ less)
