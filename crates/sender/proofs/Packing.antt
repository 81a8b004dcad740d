-- Laws of packing: a cell all of whose slots are filled is the cell of its settings, its number and its second number.
-- Assumes nothing.
use Rattle.std.proofs.Common.{◌≡◌, ℕ, zero, suc, ◌+◌, ◌*◌, ◌/◌, ◌%◌, ◌^◌, ◌<◌, ◌≤◌, true, false, cond, eqb, List, ◌++◌, length, drop, sym, refl, ap, ◌∙◌, ap₂, le_refl, arith, drop_at, eqb-true}
use native.Mathlib.Nat.{le_step}
use Rattle.runs.specs.Runs.{joined, octets_of}
use Rattle.runs.proofs.Filling.{filled}
use Rattle.runs.proofs.Laws.{split, length_joined, length_octets}
use Rattle.formats.specs.Settled.{Settled}
use Rattle.formats.specs.Code.{is_usual}
use Rattle.formats.specs.Settings.{settings_of}
use Rattle.formats.proofs.Laws.{usual_is, usual_set}
use Rattle.numbers.specs.Code.{sequence_of}
use Rattle.numbers.specs.Numbers.{entry_of}
use Rattle.numbers.proofs.Laws.{sequence_bit}
use Rattle.cells.specs.Cells.{overhead_of, subframe_of, slot_octets, cell_of}
use Rattle.cells.specs.Placement.{carried}
use Rattle.sender.specs.declared.Sender.{Sender}
use Rattle.sender.specs.ManyCode.{sequence_in}
use Rattle.sender.specs.Packing.{packed, Packable, Named, slot_by, filled_to, filled_cell, Usual}

-- parts that agree at each place are joined to one
joined_same : (g h : ℕ → List ℕ) (n : ℕ) → ((k : ℕ) → k < n → g k ≡ h k) → joined g n ≡ joined h n
unfolding joined
joined_same g h zero same = refl
joined_same g h (suc n) same =
    ap₂ (λ (before part : List ℕ). before ++ part) (joined_same g h n (λ k less. same k (le_step less))) (same n (le_refl (suc n)))

module _ (set : Settled) (samples ancillary : List ℕ) where
  -- without overhead the sequencing bits aren't sent: a cell may be filled by any, or by 0
  pub bits_in : (number second : ℕ) {sequence : ℕ} {cell : List ℕ} → sequence ≡ sequence_in set.format number second
      → cell ≡ filled_cell set sequence samples ancillary
      → cell ≡ filled_cell set (sequence_of (entry_of (number % 16)) second) samples ancillary
  unfolding slot_by subframe_of overhead_of
  bits_in number second {sequence} is e =
      let bits = sequence_of (entry_of (number % 16)) second in
      e
      ∙ split (eqb set.format.overhead_bits 0)
      (λ t.
      let none : set.format.overhead_bits ≡ 0 = eqb-true set.format.overhead_bits 0 t in
      joined_same (slot_by set sequence samples ancillary) (slot_by set bits samples ancillary) set.format.slots (λ k less. rw none))
      (λ t. let same : sequence ≡ bits = is ∙ rw t in ap (λ (n : ℕ). filled_cell set n samples ancillary) same)

  pub no_bits : set.format.overhead_bits ≡ 0 → (sequence other : ℕ) (cell : List ℕ) {cell₁ : List ℕ}
      → cell₁ ≡ filled_to set sequence samples ancillary cell (length samples)
      → cell₁ ≡ filled_to set other samples ancillary cell (length samples)
  unfolding slot_by subframe_of overhead_of
  no_bits none sequence other cell e =
      e
      ∙ ap (λ (part : List ℕ). part ++ drop (length samples * set.format.width) cell)
      (joined_same (slot_by set sequence samples ancillary) (slot_by set other samples ancillary) (length samples) (λ k less. rw none))

  -- filling leaves what is behind the slots as it was
  pub refilled : (sequence : ℕ) (cell : List ℕ) (k : ℕ) {cell₁ : List ℕ} → cell₁ ≡ filled_to set sequence samples ancillary cell k
      → cell₁ ≡ filled_to set sequence samples ancillary cell₁ k
  unfolding slot_by
  refilled sequence cell k e =
      let slots = joined (slot_by set sequence samples ancillary) k in
      let front : length slots ≡ k * set.format.width
      = length_joined (slot_by set sequence samples ancillary) set.format.width k (λ j. length_octets set.format.width _) in
      e
      ∙ ap (λ (rest : List ℕ). slots ++ rest)
      (sym (ap (drop (k * set.format.width)) e ∙ drop_at slots (drop (k * set.format.width) cell) (k * set.format.width) front))

  -- a cell that is filled to the last slot holds nothing else
  pub all_filled : Packable set samples ancillary → (sequence : ℕ) (cell : List ℕ) {cell₁ : List ℕ} → length cell ≡ 48
      → cell₁ ≡ filled_to set sequence samples ancillary cell set.format.slots
      → cell₁ ≡ filled_cell set sequence samples ancillary
  all_filled p sequence cell whole e =
      filled (slot_by set sequence samples ancillary) set.format.width cell set.format.slots set.format.slots e refl
      (p.limits.sound.cell ∙ sym whole)

  -- its sequencing bits are those of the word
  pub packs : (word second : ℕ) {sequence : ℕ} {cell : List ℕ} → word < 256 → second < 16 → sequence ≡ sequence_of word second
      → cell ≡ filled_cell set sequence samples ancillary → cell ≡ packed set word second samples ancillary
  unfolding cell_of slot_octets slot_by
  packs word second {sequence} hw hs bits e =
      e
      ∙ joined_same _ _ set.format.slots
      (λ k less.
      ap
      (λ (bit : ℕ).
      octets_of set.format.width
      (subframe_of set.format
      (carried set.by_channel set.channels set.times samples k)
      (carried set.by_channel set.channels set.times ancillary k) bit))
      (ap (λ (n : ℕ). n / 2 ^ k % 2) bits ∙ sequence_bit k hw hs))

-- with overhead the sample bits decide a format's other numbers
module _ {set : Settled} {samples ancillary : List ℕ} (p : Packable set samples ancillary) (some : set.format.overhead_bits ≡ 0 → ⊥) where
  pub named_itself : Named set.format set.format.sample_bits set.format.ancillary_bits 4 set.format.width
  named_itself =
      let s = p.limits.sound in
      record {
        sample_is = refl;
        ancillary_is = refl;
        overhead_is = omega (arith, some, s.overhead_fours, s.overhead_to);
        width_is = refl;
      }

  pub named_by : {sample ancillary-bits width : ℕ} → set.format.sample_bits ≡ sample → sample + ancillary-bits + 4 ≡ 8 * width
      → ancillary-bits % 4 ≡ 0 → ancillary-bits ≤ 4 → Named set.format sample ancillary-bits 4 width
  named_by is whole fours few =
      let s = p.limits.sound in
      let four = named_itself.overhead_is in
      record {
        sample_is = sym is;
        ancillary_is = omega (arith, is, whole, fours, few, four, s.bits, s.ancillary_fours, s.ancillary_to);
        overhead_is = four;
        width_is = omega (arith, is, whole, fours, few, four, s.bits, s.ancillary_fours, s.ancillary_to);
      }

-- the usual call's settings
module _ {st : Sender} {entries : ℕ} (u : Usual st entries) {set : Settled}
    (given : set ≡ settings_of 0x56 (cond (eqb st.channels 2) 2 1) 0)
  where
    pub usual_settles : set ≡ settings_of st.format st.channels st.order
    usual_settles = usual_set st.channels given st.format st.order u.settings_are

    pub usual_in_order : set.by_channel ≡ false
    usual_in_order = usual_is st.channels given (λ (x : Settled). x.by_channel ≡ false) refl refl

    pub usual_named : Named set.format 24 4 4 4
    usual_named =
        usual_is st.channels given (λ (x : Settled). Named x.format 24 4 4 4)
        (record { sample_is = refl; ancillary_is = refl; overhead_is = refl; width_is = refl })
        (record { sample_is = refl; ancillary_is = refl; overhead_is = refl; width_is = refl })

    pub all_used : entries ≡ set.format.slots
    all_used = u.samples_are ∙ usual_is st.channels given (λ (x : Settled). 12 ≡ x.format.slots) refl refl

-- settings that are the usual ones
module _ (st : Sender) {set : Settled} (is : is_usual st.format st.channels st.order ≡ true)
    (given : set ≡ settings_of st.format st.channels st.order)
  where
    abbrev usual : Usual st 12
    usual = record { settings_are = is; samples_are = refl }

    as_usual : set ≡ settings_of 0x56 (cond (eqb st.channels 2) 2 1) 0
    as_usual = given ∙ sym (usual_set st.channels refl st.format st.order is)

    pub set_twelve : set.channels * set.times ≡ 12
    set_twelve = usual_is st.channels as_usual (λ (x : Settled). x.channels * x.times ≡ 12) refl refl

    pub set_in_order : set.by_channel ≡ false
    set_in_order = usual_in_order usual as_usual

    pub set_named : Named set.format 24 4 4 4
    set_named = usual_named usual as_usual

    -- their used slots are all slots
    pub set_filled : {samples ancillary : List ℕ} → Packable set samples ancillary → (sequence : ℕ) (cell : List ℕ) {cell₁ : List ℕ}
        → length cell ≡ 48 → cell₁ ≡ filled_to set sequence samples ancillary cell (length samples)
        → cell₁ ≡ filled_cell set sequence samples ancillary
    set_filled {samples} {ancillary} p sequence cell whole e =
        let all : length samples ≡ set.format.slots = p.samples_length ∙ set_twelve ∙ all_used usual as_usual in
        all_filled set samples ancillary p sequence cell whole (e ∙ ap (filled_to set sequence samples ancillary cell) all)
