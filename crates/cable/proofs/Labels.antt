-- Labels survive: a block of channel status that a cable brings bit by bit comes out of the channel status step as it went in.
-- Assumes nothing.
use mathlib.Core.List.{List, [], ◌∷◌}
use mathlib.Core.Path.{◌≡◌, refl, sym, ◌∙◌, ap}
use Prim.Native.Nat.{ℕ, zero, suc, ◌/◌, ◌^◌, ◌≤◌, ◌<◌}
use native.Mathlib.Nat.{mod-lt}
use native.Mathlib.Omega.{arith}
use borrow.Author.Tests.{eq-eqb, ne_eqb}
use lib.ListN.{get_or}
use Rattle.status.specs.Sender.{brought_out, Octets}
use Rattle.status.specs.Step.{fit_of, b_of, c_of}
use Rattle.status.specs.declared.step.Block.{Block}
use Rattle.status.proofs.Sent.{brings_out}
use Rattle.cable.specs.Slots.{time_slot, ancillary_in}
use Rattle.cable.specs.Frames.{Imported, first, preamble_z, begins_by, import_of, imported}
use Rattle.cable.specs.Labels.{Labelled, ancillary_at}
use Rattle.cable.proofs.Back.{begins_le}
use Rattle.cable.proofs.Demand1.{demand_1_import}
use Rattle.cable.proofs.Refusals.{import_taken}

-- an ancillary number's parts are B and the slots that it was read from
record Parts (begins subframe : ℕ) : Type 0 where
  within : begins ≤ 1 → ancillary_in begins subframe ≤ 15
  b_part : b_of (ancillary_in begins subframe) ≡ begins
  c_part : c_of (ancillary_in begins subframe) ≡ time_slot subframe 30

slot_lt : (subframe k : ℕ) → time_slot subframe k < 2
unfolding time_slot
slot_lt subframe k = mod-lt (subframe / 2 ^ k) (omega arith)

parts : (begins subframe : ℕ) → Parts begins subframe
unfolding ancillary_in
parts begins subframe =
    let v = slot_lt subframe 28 in
    let u = slot_lt subframe 29 in
    let c = slot_lt subframe 30 in
    record { within = λ h. omega arith; b_part = omega arith; c_part = omega arith }

-- what either half of an imported frame brings
half_brings : (preambles subframes : List ℕ) (half : ℕ) → half < 2 → (import_of preambles subframes).refusal ≡ 0
    → get_or (import_of preambles subframes).ancillary half 0 ≡ ancillary_in (begins_by (first preambles)) (get_or subframes half 0)
half_brings preambles subframes half h taken =
    let none = sym (demand_1_import preambles subframes _ refl).0 ∙ taken in
    ap (λ (x : Imported). get_or x.ancillary half 0) (sym (import_taken preambles subframes none)) ∙ there half h
  where
    there : (half : ℕ) → half < 2
        → get_or (imported preambles subframes).ancillary half 0 ≡ ancillary_in (begins_by (first preambles)) (get_or subframes half 0)
    there zero h = refl
    there (suc zero) h = refl
    there (suc (suc n)) h = absurd (omega arith)

begins_z : {preamble : ℕ} → preamble ≡ preamble_z → begins_by preamble ≡ 1
unfolding begins_by
begins_z is = rw (eq-eqb _ _ is)

begins_none : {preamble : ℕ} → (preamble ≡ preamble_z → ⊥) → begins_by preamble ≡ 0
unfolding begins_by
begins_none other = rw (ne_eqb _ _ other)

module _ (preambles subframes : ℕ → List ℕ) (half : ℕ) (one : half < 2) (octets : List ℕ) (labelled : Labelled preambles subframes half octets) where
  brings : (k : ℕ) → k < 192
      → ancillary_at preambles subframes half k ≡ ancillary_in (begins_by (first (preambles k))) (get_or (subframes k) half 0)
  brings k h = half_brings (preambles k) (subframes k) half one (labelled.sound k h)

-- The octets of a block that the cable brings in either half come out of the 192 steps, once, whatever block was under assembly and
-- with marks 0 or 1; fewer steps bring out nothing.
pub labels_survive : (preambles subframes : ℕ → List ℕ) (half : ℕ) → half < 2 → (octets : List ℕ) → Octets octets
    → Labelled preambles subframes half octets
    → (block : Block) (mark : ℕ → ℕ) → block.bits ≤ 191 → ((k : ℕ) → k < 192 → mark k ≤ 1)
    → (brought_out block (ancillary_at preambles subframes half) mark 192 ≡ (fit_of octets, octets) ∷ [])
    × ((n : ℕ) → n < 192 → brought_out block (ancillary_at preambles subframes half) mark n ≡ [])
labels_survive preambles subframes half one octets whole labelled block mark begun sound =
    let brought = brings preambles subframes half one octets labelled in
    let few : (k : ℕ) → begins_by (first (preambles k)) ≤ 1 = λ k. begins_le (first (preambles k)) in
    brings_out block octets (ancillary_at preambles subframes half) mark begun whole
    (record {
      within = λ k h. rw (brought k h) ((parts _ _).within (few k));
      first = rw (brought 0 (omega arith)) ((parts _ _).b_part ∙ begins_z labelled.begins);
      alone = λ k p h. rw (brought k h) ((parts _ _).b_part ∙ begins_none (labelled.goes_on k p h));
      carries = λ k h. rw (brought k h) ((parts _ _).c_part ∙ labelled.carries k h);
    })
    sound
