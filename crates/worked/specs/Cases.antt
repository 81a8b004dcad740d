-- Cases of document 01's channel status and list and of the requests' own numbers: what the definitions give, at each bound and of small
-- logs, blocks, frames and units, and what the sentences say. A pair of lists for each request, row by row.
-- Assumes nothing.
use Rattle.std.specs.Prelude.{Bool, true, false, cond, List, [], ◌∷◌, ℕ, ◌-◌, ◌^◌, replicate}
use Rattle.formats.specs.Formats.{format_of}
use Rattle.text.specs.Words.{words}
use Rattle.cable.specs.Frames as Cable
use Rattle.cable.specs.Slots.{sample_in, ancillary_in}
use Rattle.circuits.specs.Circuits.{check_refusal, plan_refusal, cells_per_second, planned_of}
use Rattle.figures.specs.Figures.{per_million, too_many_of}
use Rattle.figures.specs.Sheets.{rows_of, sheet_refusal}
use Rattle.figures.specs.declared.Counts.{Counts}
use Rattle.listing.specs.List.{list_of}
use Rattle.presence.specs.Presence.{presence_of}
use Rattle.presence.specs.Taking.{reads_on, search_start}
use Rattle.presence.specs.declared.Presence.{Presence}
use Rattle.presence.specs.declared.Search.{Search}
use Rattle.saving.specs.Salvage as Saving
use Rattle.saving.specs.declared.Salvaged.{Salvaged}
use Rattle.status.specs.Bits.{zeros}
use Rattle.status.specs.Step.{Stepped, step_of}
use Rattle.units.specs.Units.{export_refusal, read_refusal, export_octets, exported_of}
use Rattle.units.specs.declared.Exported.{Exported}

abbrev two : ℕ → ℕ → List ℕ
two first second = first ∷ second ∷ []

-- document 01: "For 56 02 00, then twice 00 and the zero cell": 00 00 00 07 four times, 00 00 00 0F four times, 00 00 00 07 four times
abbrev pub four_slots : ℕ → List ℕ → List ℕ
four_slots low rest = 0 ∷ 0 ∷ 0 ∷ low ∷ 0 ∷ 0 ∷ 0 ∷ low ∷ 0 ∷ 0 ∷ 0 ∷ low ∷ 0 ∷ 0 ∷ 0 ∷ low ∷ rest

abbrev pub zero_record : List ℕ → List ℕ
zero_record rest = 0 ∷ four_slots 7 (four_slots 15 (four_slots 7 rest))

abbrev pub paper's_log : List ℕ
paper's_log = 0x56 ∷ 2 ∷ 0 ∷ zero_record (zero_record [])

-- the paper's log with a third record that is cut behind two octets
abbrev torn_log : List ℕ
torn_log = 0x56 ∷ 2 ∷ 0 ∷ zero_record (zero_record (0 ∷ 7 ∷ []))

-- the zero cell, and then number 3 (CA hex in the table), in which slot 0 has protection 110, where 111 is asked
abbrev damaged_log : List ℕ
damaged_log =
    0x56 ∷ 2 ∷ 0
    ∷ zero_record (0 ∷ 0 ∷ 0 ∷ 0 ∷ 0x0E ∷ 0 ∷ 0 ∷ 0 ∷ 0x0F ∷ 0 ∷ 0 ∷ 0 ∷ 0x07 ∷ 0 ∷ 0 ∷ 0 ∷ 0x07
    ∷ 0 ∷ 0 ∷ 0 ∷ 0x0F ∷ 0 ∷ 0 ∷ 0 ∷ 0x07 ∷ 0 ∷ 0 ∷ 0 ∷ 0x0F ∷ 0 ∷ 0 ∷ 0 ∷ 0x07 ∷ four_slots 0x07 [])

-- 02 hex with one channel, 48 samples a cell: a record of zeros, and one whose last sample is this
abbrev pub last_sample : ℕ → List ℕ
last_sample sample =
    2 ∷ 1 ∷ 0 ∷ 0 ∷ 0 ∷ 0 ∷ 0 ∷ 0 ∷ 0 ∷ 0 ∷ 0 ∷ 0 ∷ 0 ∷ 0 ∷ 0 ∷ 0 ∷ 0 ∷ 0 ∷ 0 ∷ 0 ∷ 0 ∷ 0 ∷ 0 ∷ 0 ∷ 0 ∷ 0 ∷ 0 ∷ 0 ∷ 0 ∷ 0
    ∷ 0 ∷ 0 ∷ 0 ∷ 0 ∷ 0 ∷ 0 ∷ 0 ∷ 0 ∷ 0 ∷ 0 ∷ 0 ∷ 0 ∷ 0 ∷ 0 ∷ 0 ∷ 0 ∷ 0 ∷ 0 ∷ 0 ∷ 0 ∷ 0 ∷ 0
    ∷ 0 ∷ 0 ∷ 0 ∷ 0 ∷ 0 ∷ 0 ∷ 0 ∷ 0 ∷ 0 ∷ 0 ∷ 0 ∷ 0 ∷ 0 ∷ 0 ∷ 0 ∷ 0 ∷ 0 ∷ 0 ∷ 0 ∷ 0 ∷ 0 ∷ 0 ∷ 0 ∷ 0 ∷ 0 ∷ 0
    ∷ 0 ∷ 0 ∷ 0 ∷ 0 ∷ 0 ∷ 0 ∷ 0 ∷ 0 ∷ 0 ∷ 0 ∷ 0 ∷ 0 ∷ 0 ∷ 0 ∷ 0 ∷ 0 ∷ 0 ∷ 0 ∷ 0 ∷ 0 ∷ 0 ∷ 0 ∷ sample ∷ []

-- channel status: a block of so many bits and these octets, brought forward: the refusal, then the bits and octets left
stepped : ℕ → List ℕ → ℕ → ℕ → List ℕ
stepped bits octets ancillary mark =
    let step : Stepped = step_of (record { bits = bits; octets = octets }) ancillary mark in
    step.handed.refusal ∷ step.block.bits ∷ step.block.octets

unfoldable pub status_asked : List (List ℕ)
unfolding stepped
status_asked =
    stepped 0 zeros 12 0 ∷ stepped 9 zeros 4 1 ∷ stepped 9 (replicate 24 255) 0 0 ∷ stepped 9 (replicate 24 255) 12 2
    ∷ stepped 191 zeros 15 2 ∷ stepped 0 zeros 0 3 ∷ stepped 0 zeros 16 0 ∷ stepped 192 zeros 0 0
    ∷ []

unfoldable pub status_said : List (List ℕ)
status_said =
    -- "B = 1 begins a block with that C bit as bit 0 and zeros after it"
    (0 ∷ 1 ∷ 1 ∷ replicate 23 0)
    -- "Bit k goes to octet k/8, bit k mod 8, bit 0 being the lowest; the other bits stay"; "marks 0 and 1 count alike"
    ∷ (0 ∷ 10 ∷ 0 ∷ 2 ∷ replicate 22 0) ∷ (0 ∷ 10 ∷ 255 ∷ 253 ∷ replicate 22 255)
    -- "Mark 2 drops the block and B isn't looked at"; "Dropping .. leaves a block of no bits and zero octets"
    ∷ (0 ∷ 0 ∷ replicate 24 0) ∷ (0 ∷ 0 ∷ replicate 24 0)
    -- "A mark above 2, an ancillary above 15, or a lent block with more than 191 bits begun is refused"
    ∷ (14 ∷ 0 ∷ replicate 24 0) ∷ (14 ∷ 0 ∷ replicate 24 0) ∷ (14 ∷ 192 ∷ replicate 24 0)
    ∷ []

-- the list
unfoldable pub list_asked : List (List ℕ)
list_asked = list_of torn_log ∷ list_of damaged_log ∷ list_of (0x56 ∷ 2 ∷ 0 ∷ 2 ∷ []) ∷ list_of (0x56 ∷ 13 ∷ 0 ∷ []) ∷ list_of [] ∷ []

unfoldable pub list_said : List (List ℕ)
list_said =
    -- "A framing fault after the header prints `k broken r`, then the end line, and isn't counted as refused"
    words "format 86 2 0\n0 sound 0 number 0\n1 refused 9\n2 broken 12\nend 1 sound 0 missing 1 refused\n"
    -- "A sound line gives record, missing count, number"
    ∷ words "format 86 2 0\n0 sound 0 number 0\n1 sound 2 number 3\nend 2 sound 2 missing 0 refused\n"
    -- "11 .. an indication above 1"; "A fault in the header .. prints only `log refused r`"; "an empty log is refused 11"
    ∷ words "format 86 2 0\n0 broken 11\nend 0 sound 0 missing 0 refused\n"
    ∷ words "log refused 2\n" ∷ words "log refused 11\n"
    ∷ []

-- request 1
unfoldable pub frames_asked : List (List ℕ)
frames_asked =
    (Cable.import_refusal (two 0x58 0x59) (two 0x30 0x50) ∷ Cable.import_refusal (two 0x5A 0x59) (two 0x30 0x50)
    ∷ Cable.import_refusal (two 0x59 0x58) (two 0x30 0x50) ∷ Cable.import_refusal (two 0x58 0x58) (two 0x10 0x50)
    ∷ Cable.import_refusal (two 0x58 0x59) (two 0x10 0x50) ∷ Cable.import_refusal (two 0x58 0x59) (two 0x30 0x10) ∷ [])
    ∷ (Cable.export_refusal (two (2 ^ 24) 0) (two 8 0) ∷ Cable.export_refusal (two 0 0) (two 0 16) ∷ Cable.export_refusal (two 0 0) (two 8 0)
    ∷ Cable.export_refusal (two (2 ^ 24 - 1) 0) (two 15 8) ∷ [])
    -- slot 4 alone, slot 27 alone; then validity, user and channel status in slots 28, 29 and 30, with and without a block beginning
    ∷ (sample_in (2 ^ 4) ∷ sample_in (2 ^ 27) ∷ ancillary_in 0 (2 ^ 28) ∷ ancillary_in 0 (2 ^ 29) ∷ ancillary_in 0 (2 ^ 30) ∷ ancillary_in 1 0 ∷ [])
    -- slots 4 and 5 in the first half, slot 0 beside them or not
    ∷ (Cable.import_of (two 0x5A 0x59) (two 0x30 0)).ancillary ∷ (Cable.import_of (two 0x58 0x59) (two 0x30 0)).ancillary
    ∷ (Cable.import_of (two 0x58 0x59) (two 0x31 0)).samples
    ∷ (Cable.export_of (two 3 0) (two 8 8)).preambles ∷ (Cable.export_of (two 3 0) (two 0 0)).preambles
    ∷ (Cable.export_of (two 3 1) (two 8 8)).subframes
    ∷ []

unfoldable pub frames_said : List (List ℕ)
frames_said =
    -- "on import 16 for preambles that aren't X then Y or Z then Y, then 17 for odd parity in either half"
    (0 ∷ 0 ∷ 16 ∷ 16 ∷ 17 ∷ 17 ∷ [])
    -- "on export 6 as in 01, then 29 where the two B bits differ"
    ∷ (6 ∷ 6 ∷ 29 ∷ 0 ∷ [])
    -- "audio in 4 to 27 with the low bit first, then validity, user, channel status"; "B worth 8 and V worth 1"
    ∷ (1 ∷ 2 ^ 23 ∷ 1 ∷ 2 ∷ 4 ∷ 8 ∷ [])
    -- "Z and Y in the same frame begin a block for both channels, so the importer .. sets B in both"; "slots 0 to 3 aren't read"
    ∷ two 8 8 ∷ two 0 0
    ∷ two 3 0
    -- "and the same preambles"; "even parity over slots 4 to 31", the last of which is slot 31
    ∷ two 0x5A 0x59 ∷ two 0x58 0x59
    ∷ two 0x30 0x80000010
    ∷ []

-- request 3
abbrev heard_sound : ℕ → Counts
heard_sound sound =
    record {
      sound = sound;
      missing = 0;
      refused_8 = 0;
      refused_9 = 0;
      refused_15 = 0;
      refused_20 = 0;
      marked_0 = 0;
      marked_1 = 0;
      marked_2 = 0;
    }

unfoldable pub sheets_asked : List (List ℕ)
sheets_asked =
    (sheet_refusal [] (replicate 4097 0) 0 ∷ sheet_refusal [] (replicate 4096 0) 0 ∷ sheet_refusal [] [] 0 ∷ [])
    ∷ (per_million 2 1 ∷ per_million 0 0 ∷ per_million 0 7 ∷ [])
    ∷ (cond (too_many_of (heard_sound 4294967295)) 19 0 ∷ cond (too_many_of (heard_sound 4294967296)) 19 0 ∷ [])
    ∷ rows_of (torn_log ∷ damaged_log ∷ (0x56 ∷ 13 ∷ 0 ∷ zero_record []) ∷ [])
    ∷ []

unfoldable pub sheets_said : List (List ℕ)
sheets_said =
    -- "18 for more than 4,096 logs, then 5 where .. rows and logs differ in number"
    (18 ∷ 5 ∷ 0 ∷ [])
    -- "missing per million of sound plus missing, rounded down, and 0 where that sum is 0"
    ∷ (333333 ∷ 0 ∷ 1000000 ∷ [])
    -- "then 19 for a total above 4,294,967,295"
    ∷ (0 ∷ 19 ∷ [])
    -- "for each log .., the cells sound, missing and refused (by number), and samples marked 0, 1 and 2. Also missing per million";
    -- "each read up to its first framing fault (a refused header counts nothing)"
    ∷ (1 ∷ 0 ∷ 0 ∷ 1 ∷ 0 ∷ 0 ∷ 12 ∷ 0 ∷ 0 ∷ 0 ∷ 2 ∷ 2 ∷ 0 ∷ 0 ∷ 0 ∷ 0 ∷ 23 ∷ 1 ∷ 24 ∷ 500000
    ∷ 0 ∷ 0 ∷ 0 ∷ 0 ∷ 0 ∷ 0 ∷ 0 ∷ 0 ∷ 0 ∷ 0 ∷ [])
    ∷ []

-- request 7: the refusal, 1 for a yes, and the number
present : List ℕ → List ℕ
present log =
    let answer : Presence = presence_of log in
    answer.refusal ∷ cond answer.found 1 0 ∷ answer.number ∷ []

-- a search before the first octet, with this answer so far: 1 where it reads on
reads_with : Bool → ℕ
reads_with found =
    let start : Search = search_start in
    cond (reads_on (record {
      standing = start.standing;
      sought = record { state = start.sought.state; refusal = 0; found = found; number = 0 };
    })) 1 0

unfoldable pub presence_asked : List (List ℕ)
unfolding present reads_with
presence_asked =
    two (reads_with false) (reads_with true) ∷
    present (last_sample 5) ∷ present (last_sample 0) ∷ present torn_log ∷ present damaged_log ∷ present (0x56 ∷ 13 ∷ 0 ∷ []) ∷ []

unfoldable pub presence_said : List (List ℕ)
presence_said =
    -- "It should stop at the first one"
    two 1 0
    -- "is there a sample marked 0 that isn't zero?"; "It also tells the first such record"
    ∷ (0 ∷ 1 ∷ 1 ∷ [])
    -- "a no tells how many whole records were read", "up to the first framing fault or the end"
    ∷ (0 ∷ 0 ∷ 2 ∷ []) ∷ (0 ∷ 0 ∷ 2 ∷ []) ∷ (0 ∷ 0 ∷ 2 ∷ [])
    -- "A log whose header is refused answers with that refusal"
    ∷ (2 ∷ 0 ∷ 0 ∷ [])
    ∷ []

-- request 9: the refusal, octets of the new log, records left out, octets cut; the new log; the list
salvaged : List ℕ → ℕ → ℕ → List ℕ
salvaged log out list =
    let answer : Salvaged = Saving.salvaged_of log out list in
    answer.refusal ∷ answer.octets ∷ answer.left_out ∷ answer.cut ∷ []

unfoldable pub salvage_asked : List (List ℕ)
unfolding salvaged
salvage_asked =
    salvaged torn_log 52 2 ∷ Saving.new_log torn_log ∷ Saving.list_of torn_log
    ∷ salvaged torn_log 51 2 ∷ salvaged torn_log 52 1 ∷ salvaged (0x56 ∷ 13 ∷ 0 ∷ []) 0 0
    ∷ []

unfoldable pub salvage_said : List (List ℕ)
salvage_said =
    -- "the same header and exactly the records that the receiver .. answers as sound"; "how many octets were cut, from a faulty record's
    -- first to the end"; "two numbers each (record, refusal)"
    (0 ∷ 52 ∷ 1 ∷ 2 ∷ []) ∷ (0x56 ∷ 2 ∷ 0 ∷ zero_record []) ∷ two 1 9
    -- "header faults as in 01, then 21 if either lent output is shorter than the whole result"
    ∷ (21 ∷ 0 ∷ 0 ∷ 0 ∷ []) ∷ (21 ∷ 0 ∷ 0 ∷ 0 ∷ []) ∷ (2 ∷ 0 ∷ 0 ∷ 0 ∷ [])
    ∷ []

-- request 11
unfoldable pub circuits_asked : List (List ℕ)
circuits_asked =
    (check_refusal 0 1024 48000 64 64 ∷ check_refusal 1 1025 0 65 64 ∷ check_refusal 0 1025 0 65 64 ∷ check_refusal 0 1025 48000 64 64
    ∷ check_refusal 0 1024 0 65 65 ∷ check_refusal 0 1024 0 64 64 ∷ check_refusal 0 1024 1000000 64 64 ∷ check_refusal 0 1024 1000001 64 64 ∷ [])
    ∷ (plan_refusal 0 12 24 2 ∷ plan_refusal 0 12 25 2 ∷ plan_refusal 0 12 1025 65 ∷ plan_refusal 1 12 25 2 ∷ [])
    ∷ (cells_per_second 12 5 48000 ∷ cells_per_second 12 5 44101 ∷ cells_per_second 12 12 48000 ∷ [])
    ∷ planned_of 12 30 4
    ∷ []

unfoldable pub circuits_said : List (List ℕ)
circuits_said =
    -- "1 as in 01, 5 for unequal runs, 22 for more than 64 circuits or 1,024 channels, then 23 for frequency 0 or above 1,000,000"
    (0 ∷ 1 ∷ 5 ∷ 22 ∷ 22 ∷ 23 ∷ 0 ∷ 23 ∷ [])
    -- "from the planner, 30 exactly when S times the circuits is below the channels"
    ∷ (0 ∷ 30 ∷ 22 ∷ 1 ∷ [])
    -- "cells per second (sampling frequency divided by its T, rounded up)": T is 2, 2 and 1
    ∷ (24000 ∷ 22051 ∷ 48000 ∷ [])
    -- "fills circuits in the given order as far as S allows"
    ∷ (12 ∷ 12 ∷ 6 ∷ 0 ∷ [])
    ∷ []

-- request 13: 06 hex has 24 bits in three octets, 43 hex 12 bits and the ancillary four in two
abbrev told_of : Exported → List ℕ
told_of e = e.refusal ∷ e.octets ∷ e.full ∷ e.units ∷ []

unfoldable pub units_asked : List (List ℕ)
units_asked =
    (export_refusal 0x09 2 6 (two 0 0) (two 0 0) 6 ∷ export_refusal 0x06 17 6 (two 0 0) (two 0 0) 6 ∷ export_refusal 0x06 2 6 (two 0 0) (0 ∷ []) 6
    ∷ export_refusal 0x06 2 6 (0 ∷ []) (0 ∷ []) 6 ∷ export_refusal 0x06 2 5 (two (2 ^ 24) 0) (two 0 0) 6 ∷ export_refusal 0x56 2 5 (two 0 0) (two 0 0) 6
    ∷ export_refusal 0x06 2 5 (two 0 0) (two 0 0) 5 ∷ export_refusal 0x06 2 6 (two 0 0) (two 0 0) 5 ∷ export_refusal 0x06 2 6 (two 0 0) (two 0 0) 6 ∷ [])
    ∷ (read_refusal 0x06 2 0 2 2 ∷ read_refusal 0x06 2 7 2 2 ∷ read_refusal 0x06 2 6 2 3 ∷ read_refusal 0x56 2 8 1 1 ∷ read_refusal 0x06 2 6 1 1
    ∷ read_refusal 0x06 2 6 2 2 ∷ [])
    ∷ export_octets (format_of 0x43) 2 (0xABC ∷ 0x123 ∷ 0x567 ∷ 0x89A ∷ []) (0xD ∷ 0x4 ∷ 0x8 ∷ 0xB ∷ []) 1
    ∷ told_of (exported_of 0x43 2 7 (replicate 6 0) (replicate 6 0) 12) ∷ told_of (exported_of 0x43 2 8 (replicate 6 0) (replicate 6 0) 12)
    ∷ []

unfoldable pub units_said : List (List ℕ)
units_said =
    -- "1, 2 as in 01, 5 for unequal runs or a part frame .., 6 as in 01, then 26 for a format with overhead, 27 for a size below one frame,
    -- 28 for too little room"
    (1 ∷ 2 ∷ 5 ∷ 5 ∷ 6 ∷ 26 ∷ 27 ∷ 28 ∷ 0 ∷ [])
    -- "(in reading also an empty unit)"
    ∷ (5 ∷ 5 ∷ 5 ∷ 26 ∷ 28 ∷ 0 ∷ [])
    -- "a frame is one subframe for each channel at one sample time"; "sample, most significant bit first; then B, C, U, V"
    ∷ (0xAB ∷ 0xCD ∷ 0x12 ∷ 0x34 ∷ 0x56 ∷ 0x78 ∷ 0x89 ∷ 0xAB ∷ [])
    -- "a data unit holds whole frames, as many as fit a stated size, the last one perhaps fewer": octets, octets of a full unit, units
    ∷ (0 ∷ 12 ∷ 4 ∷ 3 ∷ []) ∷ (0 ∷ 12 ∷ 8 ∷ 2 ∷ [])
    ∷ []
