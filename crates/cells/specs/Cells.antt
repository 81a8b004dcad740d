-- Cells, document 01: one subframe as a number, and a whole cell there and back.
-- Assumes nothing.
use Rattle.std.specs.Prelude.{ℕ, ◌+◌, ◌*◌, ◌/◌, ◌%◌, ◌^◌, Bool, cond, List, take, drop, ◌==◌, nat_lt}
use Rattle.runs.specs.Runs.{tab, joined, octets_of, number_of}
use Rattle.formats.specs.declared.Format.{Format}
use Rattle.numbers.specs.Numbers.{word_bit, eight_of, second_of}
use Rattle.guards.specs.Guards.{v_of, guard_of}
use Rattle.cells.specs.Placement.{slot_of_entry, carried}

-- the protection bits of a sample and an ancillary number by the format's fields: V, or none where there are no ancillary bits
abbrev pub guard_in : Format → ℕ → ℕ → ℕ
guard_in f sample ancillary = guard_of f.sample_bits sample (v_of f.ancillary_bits ancillary)

-- "then a sequencing bit and three protection bits", where the format has overhead
unfoldable pub overhead_of : Format → ℕ → ℕ → ℕ → ℕ
overhead_of f sample ancillary bit = cond (f.overhead_bits == 0) 0 (bit * 8 + guard_in f sample ancillary)

-- "A subframe is: sample, most significant bit first; then B, C, U, V; then" the overhead
unfoldable pub subframe_of : Format → ℕ → ℕ → ℕ → ℕ
subframe_of f sample ancillary bit =
    (sample * 2 ^ f.ancillary_bits + ancillary) * 2 ^ f.overhead_bits + overhead_of f sample ancillary bit

-- what slot k of a cell holds: the subframe, "Octets are filled from their top bit"
unfoldable pub slot_octets : Format → Bool → ℕ → ℕ → ℕ → ℕ → List ℕ → List ℕ → ℕ → List ℕ
slot_octets f by_channel_of channels times word second samples ancillary k =
    octets_of f.width
    (subframe_of f
    (carried by_channel_of channels times samples k)
    (carried by_channel_of channels times ancillary k)
    (word_bit word second k))

-- a cell of S slots, whose first eight sequencing bits are `word`
unfoldable pub cell_of : Format → Bool → ℕ → ℕ → ℕ → ℕ → List ℕ → List ℕ → List ℕ
cell_of f by_channel_of channels times word second samples ancillary =
    joined (slot_octets f by_channel_of channels times word second samples ancillary) f.slots

-- the subframe in slot k of a cell, and what it holds
unfoldable pub subframe_at : Format → List ℕ → ℕ → ℕ
subframe_at f cell k = number_of (take f.width (drop (k * f.width) cell))

-- its sample and its ancillary number
unfoldable pub sample_in : Format → ℕ → ℕ
sample_in f subframe = subframe / 2 ^ (f.ancillary_bits + f.overhead_bits)

unfoldable pub ancillary_in : Format → ℕ → ℕ
ancillary_in f subframe = subframe / 2 ^ f.overhead_bits % 2 ^ f.ancillary_bits

-- "Mark 0 is sound; mark 1 means that the three protection bits disagree"
unfoldable pub mark_in : Format → ℕ → ℕ
mark_in f subframe =
    cond (f.overhead_bits == 0) 0
    (cond (subframe % 8 == guard_in f (sample_in f subframe) (ancillary_in f subframe)) 0 1)

-- the sequencing bit of slot k
unfoldable pub bit_in : Format → List ℕ → ℕ → ℕ
bit_in f cell k = subframe_at f cell k / 8 % 2

-- the first eight sequencing bits, and the second number, "0 where there is none"
unfoldable pub eight_in : Format → List ℕ → ℕ
eight_in f cell = eight_of (bit_in f cell)

unfoldable pub second_in : Format → List ℕ → ℕ
second_in f cell = cond (nat_lt f.slots 12) 0 (second_of (bit_in f cell))

-- a cell's own entries: each read off its slot
unfoldable pub entries_of : (ℕ → ℕ) → Format → Bool → ℕ → ℕ → List ℕ → List ℕ
entries_of read f by_channel_of channels times cell =
    tab (λ i. read (subframe_at f cell (slot_of_entry by_channel_of channels times i))) (channels * times)
