-- Laws of filling a cell slot after slot: the loops' invariant, and what each slot carries.
-- Assumes nothing.
use Rattle.std.proofs.Common.{◌≡◌, ℕ, ◌+◌, ◌*◌, ◌/◌, ◌%◌, ◌^◌, ◌<◌, ◌≤◌, Bool, true, false, cond, eqb, List, ◌++◌, length, get_or, take, drop, sym, refl, ap, ◌∙◌, ap₂, mul-le-mul_right, mul_comm, zero-add, zero-mul, mul-one, div-one, arith, shr-shr, le-ltb, lt-ltb}
use native.Mathlib.Nat.{zero-mod, zero-div}
use Rattle.runs.specs.Runs.{joined, octets_of}
use Rattle.runs.proofs.Filling.{filled_on}
use Rattle.runs.proofs.Laws.{length_octets}
use Rattle.formats.specs.declared.Format.{Format}
use Rattle.formats.specs.Settled.{Settled}
use Rattle.formats.specs.Sound.{Sound, Limits}
use Rattle.guards.specs.Guards.{v_of, guard_of}
use Rattle.cells.specs.Cells.{overhead_of, subframe_of}
use Rattle.cells.specs.Code.{step_on}
use Rattle.cells.specs.Placement.{entry_of_slot, carried}
use Rattle.cells.proofs.Placement.{entry_lt, entry_next}
use Rattle.cells.proofs.Places.{step_fits}
use Rattle.cells.proofs.Subframes.{guard_zero, slot_room}
use Rattle.sender.specs.Packing.{Packable, Named, entry_at, slot_by, filled_to, idle_number}
use Rattle.sender.proofs.Subframes.{guarded_is, plain_fits}

-- a cell filled up to `slot`, of the slots before `end` that a loop fills
pub record Filling (set : Settled) (sequence : ℕ) (samples ancillary cell₀ : List ℕ) (end : ℕ) (cell : List ℕ) (slot : ℕ) : Type 0 where
  pub within : slot ≤ end
  pub is : cell ≡ filled_to set sequence samples ancillary cell₀ slot
  pub same : length cell ≡ length cell₀

-- what a slot carries of a run
abbrev carried_at : Settled → List ℕ → ℕ → ℕ
carried_at set run slot = carried set.by_channel set.channels set.times run slot

module _ (set : Settled) (sequence : ℕ) (samples ancillary cell₀ : List ℕ) where
  pub filling_begun : (end : ℕ) → Filling set sequence samples ancillary cell₀ end cell₀ 0
  unfolding joined
  filling_begun end =
      record { within = omega arith; is = ap (λ (n : ℕ). drop n cell₀) (sym (zero-mul set.format.width)); same = refl }

  module _ {end : ℕ} {cell : List ℕ} {slot : ℕ} (so_far : Filling set sequence samples ancillary cell₀ end cell slot) where
    pub filling_on : {cell₁ : List ℕ} {width number : ℕ} → slot < end → width ≡ set.format.width
        → number ≡ subframe_of set.format (carried_at set samples slot) (carried_at set ancillary slot) (sequence / 2 ^ slot % 2)
        → cell₁ ≡ take (slot * width) cell ++ octets_of width number ++ drop (slot * width + width) cell
        → length cell₁ ≡ length cell
        → Filling set sequence samples ancillary cell₀ end cell₁ (slot + 1)
    unfolding slot_by
    filling_on less width_is number_is put kept =
        record {
          within = omega arith;
          is =
              filled_on (slot_by set sequence samples ancillary) set.format.width cell₀ slot (λ k. length_octets set.format.width _)
              so_far.is
              (put
              ∙ ap₂ (λ (w n : ℕ). take (slot * w) cell ++ octets_of w n ++ drop (slot * w + w) cell) width_is number_is);
          same = kept ∙ so_far.same;
        }

    pub filling_done : end ≤ slot → cell ≡ filled_to set sequence samples ancillary cell₀ end
    filling_done all =
        so_far.is
        ∙ ap (filled_to set sequence samples ancillary cell₀) (let last : slot ≡ end = omega (arith, so_far.within) in last)

-- the sequencing bits, one taken off in each slot
pub bits_begun : (sequence : ℕ) → sequence ≡ sequence / 2 ^ 0
bits_begun sequence = sym (div-one sequence)

pub bits_on : (sequence slot : ℕ) {rest : ℕ} → rest ≡ sequence / 2 ^ slot → rest / 2 ≡ sequence / 2 ^ (slot + 1)
bits_on sequence slot e = ap (λ (n : ℕ). n / 2) e ∙ shr-shr sequence slot 1

-- sample and ancillary 0 have the protection 111
idle_is : (f : Format) (bit : ℕ) → subframe_of f 0 0 bit ≡ idle_number f.overhead_bits bit
unfolding subframe_of overhead_of idle_number
idle_is f bit =
    let none : (0 * 2 ^ f.ancillary_bits + 0) * 2 ^ f.overhead_bits ≡ 0
    = ap (λ (n : ℕ). (n + 0) * 2 ^ f.overhead_bits) (zero-mul (2 ^ f.ancillary_bits)) ∙ zero-mul (2 ^ f.overhead_bits) in
    ap₂ (λ (high guard : ℕ). high + cond (eqb f.overhead_bits 0) 0 (bit * 8 + guard)) none (guard_zero f)
    ∙ zero-add (idle_number f.overhead_bits bit)

-- runs that can be packed: the slots that they fill, and the entries in them
module _ {set : Settled} {samples ancillary : List ℕ} (p : Packable set samples ancillary) where
  pub used_in_lem : length samples ≤ set.format.slots
  used_in_lem = omega (arith, p.samples_length, p.limits.used_in_lem)

  pub used_few : length samples ≤ 48
  used_few = omega (arith, p.samples_length, p.limits.used_to)

  pub as_many : length ancillary ≡ length samples
  as_many = p.ancillary_length ∙ sym p.samples_length

  -- what they bound, by the numbers that a call names
  module _ {sample-bits ancillary-bits overhead width : ℕ} (named : Named set.format sample-bits ancillary-bits overhead width) where
    bits_to : sample-bits ≤ 40
    bits_to = omega (arith, named.sample_is, p.limits.sound.sample_to)

    pub few_to : ancillary-bits ≤ 4
    few_to = omega (arith, named.ancillary_is, p.limits.sound.ancillary_to)

    width_to : width ≤ 6
    width_to = omega (arith, named.width_is, p.limits.sound.width_to)

    pub small_at : (i : ℕ) → get_or samples i 0 < 2 ^ sample-bits
    small_at i = rw named.sample_is (p.small i)

    pub few_at : (i : ℕ) {few : ℕ} → few ≡ get_or ancillary i 0 → few < 2 ^ ancillary-bits
    few_at i e = rw (e, named.ancillary_is) (p.few i)

    pub used_room : {slot : ℕ} → slot < length samples → slot * width + width ≤ 48
    used_room less = rw named.width_is (slot_room p.limits.sound (omega (arith, used_in_lem)))

    pub put_ready : {slot room whole : ℕ} → slot < length samples → room ≡ whole → whole ≡ 48
        → (slot * width + width ≤ room) × (width ≤ 6)
    put_ready less same all = (omega (arith, used_room less), width_to)

  -- what the loop's calls ask
  pub slot_ready : (i : ℕ) {few bit : ℕ} → few ≡ get_or ancillary i 0 → bit < 2
      → Sound set.format × (get_or samples i 0 < 2 ^ set.format.sample_bits) × (few < 2 ^ set.format.ancillary_bits) × (bit < 2)
  slot_ready i few-is small-bit = (p.limits.sound, p.small i, rw few-is (p.few i), small-bit)

  pub slot_put : {slot room whole : ℕ} → slot < length samples → room ≡ whole → whole ≡ 48
      → (slot * set.format.width + set.format.width ≤ room) × (set.format.width ≤ 6)
  slot_put {slot} less same all =
      let inside : slot < set.format.slots = omega (arith, used_in_lem) in
      (omega (arith, same, all, slot_room p.limits.sound inside), p.limits.sound.width_to)

  -- a used slot's subframe
  pub used_number : {slot at few bit sequencing number : ℕ} → at ≡ entry_at set slot → slot < length samples → few ≡ get_or ancillary at 0
      → bit ≡ sequencing
      → number ≡ subframe_of set.format (get_or samples at 0) few bit
      → number ≡ subframe_of set.format (carried_at set samples slot) (carried_at set ancillary slot) sequencing
  unfolding carried
  used_number {slot} {at} {few} {bit} {sequencing} at_is less few-is bit_is e =
      let used : slot < set.channels * set.times = omega (arith, p.samples_length) in
      e
      ∙ ap₂ (λ (a b : ℕ). subframe_of set.format (get_or samples at 0) a b) few-is bit_is
      ∙ ap (λ (i : ℕ). subframe_of set.format (get_or samples i 0) (get_or ancillary i 0) sequencing) at_is
      ∙ rw (lt-ltb slot (set.channels * set.times) used)

  -- the same with overhead, by the numbers that a call names
  module _ {sample-bits ancillary-bits width : ℕ} (named : Named set.format sample-bits ancillary-bits 4 width) where
    pub subframe_ready : (i : ℕ) {guard few bit : ℕ} → guard ≡ guard_of sample-bits (get_or samples i 0) (v_of ancillary-bits 0)
        → few ≡ get_or ancillary i 0 → bit < 2
        → (sample-bits ≤ 40) × (ancillary-bits ≤ 4) × (get_or samples i 0 < 2 ^ sample-bits)
        × (guard ≡ guard_of sample-bits (get_or samples i 0) (v_of ancillary-bits 0)) × (few < 2 ^ ancillary-bits) × (bit < 2)
    subframe_ready i guard-is few-is small-bit =
        (bits_to named, few_to named, small_at named i, guard-is, few_at named i few-is, small-bit)

    pub guarded_number : {slot at few bit sequencing number : ℕ} → at ≡ entry_at set slot → slot < length samples
        → few ≡ get_or ancillary at 0 → bit ≡ sequencing
        → number
        ≡ (get_or samples at 0 * 2 ^ ancillary-bits + few) * 16 + (bit * 8 + guard_of sample-bits (get_or samples at 0) (v_of ancillary-bits few))
        → number ≡ subframe_of set.format (carried_at set samples slot) (carried_at set ancillary slot) sequencing
    guarded_number {at = at} {few = few} {bit = bit} at_is less few-is bit_is e =
        used_number at_is less few-is bit_is (e ∙ guarded_is (get_or samples at 0) few bit named)

  -- without overhead
  module _ {sample-bits ancillary-bits width : ℕ} (named : Named set.format sample-bits ancillary-bits 0 width) where
    short : sample-bits + ancillary-bits ≤ 63
    short = omega (arith, bits_to named, few_to named)

    pub plain_room : (i : ℕ) {few : ℕ} → few ≡ get_or ancillary i 0 → (get_or samples i 0 * 2 ^ ancillary-bits) % 2 ^ 64 + few < 2 ^ 64
    plain_room i {few} few-is = plain_fits (get_or samples i 0) few 0 named short (small_at named i) (few_at named i few-is)

  -- and an unused one's
  pub idle_number_lem : (bit : ℕ) {slot number : ℕ} → length samples ≤ slot → number ≡ idle_number set.format.overhead_bits bit
      → number ≡ subframe_of set.format (carried_at set samples slot) (carried_at set ancillary slot) bit
  unfolding carried
  idle_number_lem bit {slot} past e =
      let after : set.channels * set.times ≤ slot = omega (arith, p.samples_length) in
      e ∙ sym (idle_is set.format bit) ∙ rw (le-ltb slot (set.channels * set.times) after)

-- settings' entries, from slot to slot: in order 0 slot k carries entry k, in order 1 the entries go on by C
module _ (set : Settled) where
  pub in_order : set.by_channel ≡ false → {slot : ℕ} → slot ≡ entry_at set slot
  unfolding entry_of_slot
  in_order is = rw is

  pub entry_first : 0 ≡ entry_at set 0
  unfolding entry_of_slot
  entry_first = first set.by_channel
    where
      first : (b : Bool) → 0 ≡ entry_of_slot b set.channels set.times 0
      first true =
          sym
          (ap₂ (λ (low high : ℕ). low * set.channels + high) (zero-mod set.times) (zero-div set.times)
          ∙ omega (arith, zero-mul set.channels))
      first false = refl

  module _ (limits : Limits set) {used : ℕ} (used_is : used ≡ set.channels * set.times) {slot entry : ℕ} (less : slot < used)
      (here : entry ≡ entry_at set slot)
    where
      used_slot : slot < set.channels * set.times
      used_slot = omega (arith, used_is)

      pub entry_in : entry < used
      entry_in = omega (arith, here, entry_lt set.channels set.times limits.times_from set.by_channel used_slot, used_is)

      pub entry_on : set.by_channel ≡ true → {next : ℕ} → next ≡ step_on set.channels used entry % 2 ^ 64 → next ≡ entry_at set (slot + 1)
      entry_on is e =
          let short : set.channels ≤ 48
          = omega (
            arith,
            limits.used_to,
            mul-one set.channels,
            mul_comm set.channels set.times,
            mul_comm set.channels 1,
            mul-le-mul_right {m = 1} {n = set.times} set.channels limits.times_from,
          ) in
          let few : used ≤ 48 = omega (arith, used_is, limits.used_to) in
          e
          ∙ step_fits set.channels used entry_in few short
          ∙ ap₂ (step_on set.channels) used_is
          (here ∙ ap (λ (b : Bool). entry_of_slot b set.channels set.times slot) is)
          ∙ entry_next set.channels set.times limits.times_from used_slot
          ∙ ap (λ (b : Bool). entry_of_slot b set.channels set.times (slot + 1)) (sym is)
