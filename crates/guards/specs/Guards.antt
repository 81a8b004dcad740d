-- Protection of a sample, document 01 and clause 4.1.4.2 of source document 001. A subframe may have no V at all (request 4). That
-- both sentences of the clause are met is proved (guards/proofs/Laws).
-- Assumes nothing.
use Rattle.std.specs.Prelude.{cond, ℕ, ◌+◌, ◌*◌, ◌/◌, ◌%◌, ◌-◌, ◌^◌, eqb}
use Rattle.runs.specs.Division.{remainder}

-- a subframe's V, or none: "If the ancillary data field contains a V bit" and "Otherwise"
pub data VOrNone : Type 0 where
  no_v : VOrNone
  with_v : ℕ → VOrNone

-- V of an ancillary number: "V worth 1"
abbrev pub v_in : ℕ → VOrNone
v_in ancillary = with_v (ancillary % 2)

-- of an ancillary number in a field of so many bits: its V, and none where there is no field
unfoldable pub v_of : ℕ → ℕ → VOrNone
v_of bits ancillary = cond (eqb bits 0) no_v (v_in ancillary)

-- "the nine top sample bits"; "an 8-bit sample has a ninth bit of 0"
unfoldable pub nine_of : ℕ → ℕ → ℕ
nine_of bits sample = sample * 512 / 2 ^ bits % 512

-- what is protected, as one number: the nine bits, and V after them where there is one
unfoldable pub protected_bits : ℕ → VOrNone → ℕ
protected_bits nine no_v = nine
protected_bits nine (with_v v) = nine * 2 + v

-- "The complement of the remainder by x^3 + x + 1" of x^3 times what is protected, which has ten bits at most. With V that is "x^4
-- times the nine top sample bits (the top one as x^8) plus x^3 times V"; without it "the product x3 multiplied by the most
-- significant nine bits of the audio sample"
unfoldable pub ten_guard : ℕ → ℕ
ten_guard ten = 7 - remainder 3 0b1011 13 (ten * 8)

-- of a sample of so many bits, and V or none
unfoldable pub guard_of : ℕ → ℕ → VOrNone → ℕ
guard_of bits sample v = ten_guard (protected_bits (nine_of bits sample) v)
