-- The cases of document 01 marked P, two of request 4, three of request 6, and one whole cell beside them: what the definitions give, and
-- what is printed, row by row.
-- Assumes nothing.
use Rattle.std.specs.Prelude.{false, true, List, [], ◌∷◌, ◌++◌, map, ℕ, ◌^◌, replicate}
use Rattle.formats.specs.Formats.{slots_of, times_of}
use Rattle.numbers.specs.Numbers.{entry_of, divided_entry}
use Rattle.guards.specs.Guards.{no_v, v_in, guard_of}
use Rattle.cells.specs.Placement.{slot_of}
use Rattle.sender.specs.Sender.{open_state, cell_now}
use Rattle.status.specs.Step.{Stepped, step_of}

six_numbers : List ℕ
six_numbers = 0 ∷ 1 ∷ 2 ∷ 3 ∷ 4 ∷ 8 ∷ []

-- a block of 191 bits with this first octet, Appendix 2's others and the check character's first seven bits, brought forward by this
-- ancillary number: the answer and the octets
finished_by : ℕ → ℕ → List ℕ
finished_by first ancillary =
    let octets : List ℕ = first ∷ 0x02 ∷ 0 ∷ 0 ∷ 0x02 ∷ (replicate 18 0 ++ (0x1B ∷ [])) in
    let step : Stepped = step_of (record { bits = 191; octets = octets }) ancillary 0 in
    step.handed.answer ∷ step.handed.octets

unfoldable pub defined : List (List ℕ)
unfolding six_numbers finished_by
defined =
    map entry_of six_numbers
    ∷ map divided_entry six_numbers
    ∷ (guard_of 24 0 (v_in 0) ∷ guard_of 24 0 (v_in 1) ∷ guard_of 24 (2 ^ 15) (v_in 0) ∷ guard_of 24 (2 ^ 23) (v_in 0)
    ∷ guard_of 8 1 (v_in 0) ∷ [])
    ∷ (guard_of 20 0 no_v ∷ guard_of 20 (2 ^ 11) no_v ∷ [])
    ∷ (times_of (slots_of 0x56) 5 ∷ slot_of false 5 2 3 1 ∷ slot_of true 5 2 3 1 ∷ [])
    ∷ cell_now (open_state 0x56 2 0 0 false 0) false (replicate 12 0) (replicate 12 0)
    -- five channels by order 1, number 5, second number 12; each run has time 0 and then time 1
    ∷ cell_now (open_state 0x56 5 1 5 true 12) false
    (0x7FFFFF ∷ 0xFFFFFF ∷ 0xFFFFFF ∷ 0x628062 ∷ 0x000000 ∷ 0x042E3B ∷ 0xF7F3B3 ∷ 0x800000 ∷ 0x000001 ∷ 0x856AE2 ∷ [])
    (10 ∷ 4 ∷ 6 ∷ 15 ∷ 7 ∷ 7 ∷ 1 ∷ 14 ∷ 4 ∷ 8 ∷ [])
    -- three blocks of channel status, each finished by its last bit: Appendix 2's first example with that bit 1 and with that bit 0, and
    -- the first again without bit 0 of octet 0
    ∷ finished_by 0x3D 4 ∷ finished_by 0x3D 0 ∷ finished_by 0x3C 4
    ∷ []

unfoldable pub printed : List (List ℕ)
printed =
    -- "numbers 0, 1, 2, 3, 4 and 8 give 0F, 84, 41, CA, 22, 18", by the table and by the division
    (0x0F ∷ 0x84 ∷ 0x41 ∷ 0xCA ∷ 0x22 ∷ 0x18 ∷ [])
    ∷ (0x0F ∷ 0x84 ∷ 0x41 ∷ 0xCA ∷ 0x22 ∷ 0x18 ∷ [])
    -- "sample 0 with V 0 is 111; V alone 100; the ninth bit alone 001; the top bit alone 000; 8-bit sample 1 gives 000"
    ∷ (0b111 ∷ 0b100 ∷ 0b001 ∷ 0b000 ∷ 0b000 ∷ [])
    -- request 4, without V: sample 0 is 111, and the ninth bit alone 100, where with V = 0 it is 001
    ∷ (0b111 ∷ 0b100 ∷ [])
    -- "56 hex with C = 5: T = 2; channel 3 at time 1 is slot 8 in order 0, slot 7 in order 1"
    ∷ (2 ∷ 8 ∷ 7 ∷ [])
    -- "00 00 00 07 four times, 00 00 00 0F four times, 00 00 00 07 four times"
    ∷ (0x00 ∷ 0x00 ∷ 0x00 ∷ 0x07 ∷ 0x00 ∷ 0x00 ∷ 0x00 ∷ 0x07 ∷ 0x00 ∷ 0x00 ∷ 0x00 ∷ 0x07 ∷ 0x00 ∷ 0x00 ∷ 0x00 ∷ 0x07
    ∷ 0x00 ∷ 0x00 ∷ 0x00 ∷ 0x0F ∷ 0x00 ∷ 0x00 ∷ 0x00 ∷ 0x0F ∷ 0x00 ∷ 0x00 ∷ 0x00 ∷ 0x0F ∷ 0x00 ∷ 0x00 ∷ 0x00 ∷ 0x0F
    ∷ 0x00 ∷ 0x00 ∷ 0x00 ∷ 0x07 ∷ 0x00 ∷ 0x00 ∷ 0x00 ∷ 0x07 ∷ 0x00 ∷ 0x00 ∷ 0x00 ∷ 0x07 ∷ 0x00 ∷ 0x00 ∷ 0x00 ∷ 0x07 ∷ [])
    -- the whole cell as another implementation, written from the paper alone in another language, packs it (a line of
    -- tests/vectors/send.txt): ancillary behind each sample, A9 in the first eight sequencing bits, then 0, 0, 1, 1; two unused slots
    ∷ (0x7F ∷ 0xFF ∷ 0xFF ∷ 0xA9 ∷ 0x04 ∷ 0x2E ∷ 0x3B ∷ 0x75 ∷ 0xFF ∷ 0xFF ∷ 0xFF ∷ 0x4E ∷ 0xF7 ∷ 0xF3 ∷ 0xB3 ∷ 0x17
    ∷ 0xFF ∷ 0xFF ∷ 0xFF ∷ 0x6E ∷ 0x80 ∷ 0x00 ∷ 0x00 ∷ 0xE0 ∷ 0x62 ∷ 0x80 ∷ 0x62 ∷ 0xF2 ∷ 0x00 ∷ 0x00 ∷ 0x01 ∷ 0x4F
    ∷ 0x00 ∷ 0x00 ∷ 0x00 ∷ 0x74 ∷ 0x85 ∷ 0x6A ∷ 0xE2 ∷ 0x86 ∷ 0x00 ∷ 0x00 ∷ 0x00 ∷ 0x0F ∷ 0x00 ∷ 0x00 ∷ 0x00 ∷ 0x0F ∷ [])
    -- document 02, request 6: "fits, doesn't fit, none carried", which are 2, 1 and 3; then the octets that are handed out, the last of
    -- which is 9B hex, as Appendix 2 prints it, in the first
    ∷ (2 ∷ 0x3D ∷ 0x02 ∷ 0 ∷ 0 ∷ 0x02 ∷ 0 ∷ 0 ∷ 0 ∷ 0 ∷ 0 ∷ 0 ∷ 0 ∷ 0 ∷ 0 ∷ 0 ∷ 0 ∷ 0 ∷ 0 ∷ 0 ∷ 0 ∷ 0 ∷ 0 ∷ 0 ∷ 0x9B ∷ [])
    ∷ (1 ∷ 0x3D ∷ 0x02 ∷ 0 ∷ 0 ∷ 0x02 ∷ 0 ∷ 0 ∷ 0 ∷ 0 ∷ 0 ∷ 0 ∷ 0 ∷ 0 ∷ 0 ∷ 0 ∷ 0 ∷ 0 ∷ 0 ∷ 0 ∷ 0 ∷ 0 ∷ 0 ∷ 0 ∷ 0x1B ∷ [])
    ∷ (3 ∷ 0x3C ∷ 0x02 ∷ 0 ∷ 0 ∷ 0x02 ∷ 0 ∷ 0 ∷ 0 ∷ 0 ∷ 0 ∷ 0 ∷ 0 ∷ 0 ∷ 0 ∷ 0 ∷ 0 ∷ 0 ∷ 0 ∷ 0 ∷ 0 ∷ 0 ∷ 0 ∷ 0 ∷ 0x9B ∷ [])
    ∷ []
