-- One subframe of an AES3 cable, time slot by time slot: source document 002, 2.2.1. It passes as a number of 32 bits, time slot k being
-- worth 2^k.
-- Assumes nothing.
use Rattle.std.specs.Prelude.{cond, ℕ, zero, suc, ◌+◌, ◌-◌, ◌*◌, ◌/◌, ◌%◌, ◌^◌, ltb, eqb}
use Rattle.std.specs.Int.Count.{ones}

-- what time slot k carries
unfoldable pub time_slot : ℕ → ℕ → ℕ
time_slot subframe k = subframe / 2 ^ k % 2

-- the number that n bits make, the low bit first
unfoldable pub word_of : (ℕ → ℕ) → ℕ → ℕ
word_of bit zero = 0
word_of bit (suc n) = word_of bit n + bit n * 2 ^ n

-- "Time slots 4 to 27 (audio samples word)"; "the LSB is in time slot 4"
unfoldable pub sample_in : ℕ → ℕ
sample_in subframe = word_of (λ i. time_slot subframe (4 + i)) 24

-- "Time slot 28 (validity bit)", "Time slot 29 (user data bit)", "Time slot 30 (channel status bit)"; document 01: "B worth 8 and V
-- worth 1"
unfoldable pub ancillary_in : ℕ → ℕ → ℕ
ancillary_in begins subframe = begins * 8 + time_slot subframe 30 * 4 + time_slot subframe 29 * 2 + time_slot subframe 28

-- the ones that "time slots 4 to 31 inclusive" carry, modulo 2; slots 0 to 3 "aren't read"
unfoldable pub parity_of : ℕ → ℕ
parity_of subframe = ones (subframe / 2 ^ 4) % 2

-- Fig. 1: what time slot k, 0 to 30, carries on export. Slots 0 to 3 "leave as 0"
unfoldable pub carried_in : ℕ → ℕ → ℕ → ℕ
carried_in sample ancillary k =
    cond (ltb k 4) 0
    (cond (ltb k 28) (sample / 2 ^ (k - 4) % 2)
    (cond (eqb k 28) (ancillary % 2)
    (cond (eqb k 29) (ancillary / 2 % 2)
    (ancillary / 4 % 2))))

-- time slots 0 to 30
abbrev pub carried : ℕ → ℕ → ℕ
carried sample ancillary = word_of (carried_in sample ancillary) 31

-- "Time slot 31 (parity bit)": "such that time slots 4 to 31 inclusive will carry an even number of ones"
unfoldable pub subframe_of : ℕ → ℕ → ℕ
subframe_of sample ancillary = carried sample ancillary + parity_of (carried sample ancillary) * 2 ^ 31
