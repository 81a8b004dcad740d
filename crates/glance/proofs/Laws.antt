-- Laws of a look at a cell: octets read, what is protected in a subframe, and what the entries come to.
-- Assumes nothing.
use mathlib.Core.Bool.{Bool, true, false, ◌&&◌}
use mathlib.Core.List.{List}
use mathlib.Core.Path.{◌≡◌, refl, sym, ◌∙◌, ap, ap₂}
use Prim.Native.Nat.{ℕ, ◌+◌, ◌*◌, ◌/◌, ◌%◌, ◌-◌, ◌^◌, ◌≤◌, ◌<◌}
use native.Mathlib.Nat.{mod-lt, div-le_self}
use native.Mathlib.Numerals.{add-one}
use native.Mathlib.Omega.{arith}
use borrow.Author.Tests.{eq-eqb, ne_eqb}
use lib.Arith.{digits_lt}
use lib.Dec.{eqb}
use lib.ListN.{length, get_or}
use lib.Pow.{pow-add, pow_mono, pow_pos}
use Rattle.runs.specs.Runs.{read_on}
use Rattle.formats.specs.declared.Format.{Format}
use Rattle.formats.specs.Settled.{Settled}
use Rattle.formats.specs.Formats.{settings_refusal}
use Rattle.formats.specs.Settings.{settled, settings_of}
use Rattle.formats.specs.Sound.{Sound, Limits}
use Rattle.formats.proofs.Laws.{refusal_of_lem, settled_of_lem, limits_of}
use Rattle.guards.specs.Guards.{nine_of, protected_bits, v_of}
use Rattle.guards.proofs.Laws.{v_none, v_some, nine_shifted}
use Rattle.cells.specs.Cells.{subframe_at, sample_in, ancillary_in, mark_in}
use Rattle.cells.specs.Placement.{slot_of_entry, entry_of_slot}
use Rattle.cells.proofs.Placement.{slot_lt, entry_lt, slot_of_entry_lem}
use Rattle.cells.proofs.Subframes.{four_ancillary}
use Rattle.receiver.specs.declared.Receiver.{Receiver}
use Rattle.receiver.specs.Unpacking.{used_in, own_entries}
use Rattle.receiver.proofs.Reading.{read, read_more}
use Rattle.receiver.proofs.Unpacking.{own_at}
use Rattle.glance.specs.Glance.{is_sound, some, sound_at, readable, sounds_of}
use Rattle.glance.specs.Code.{sound_in}
use Rattle.glance.proofs.Some.{some_here, some_from, same_bool}

-- octets read one more at a time
module _ (octets : List ℕ) (at width : ℕ) where
  pub record Reads (number i : ℕ) : Type 0 where
    pub within : i ≤ width
    pub is : number ≡ read octets at i
    pub below : number < 2 ^ (8 * i)

  pub reads_begun : Reads 0 0
  unfolding read_on
  reads_begun = record { within = omega arith; is = refl; below = pow_pos (8 * 0) }

  module _ {number i : ℕ} (so_far : Reads number i) (few : width ≤ 6) where
    pub reads_small : i < width → number < 1099511627776
    reads_small less =
        let far : 2 ^ (8 * i) ≤ 2 ^ 40 = pow_mono {i = 8 * i} {j = 40} (omega arith) in
        omega (arith, so_far.below, far)

    pub reads_on : {octet : ℕ} → at + width ≤ length octets → i < width → octet ≡ get_or octets (at + i) 0 → octet < 256
        → Reads (number * 256 + octet) (i + 1)
    reads_on {octet} room less e small =
        let further : 2 ^ (8 * (i + 1)) ≡ 2 ^ (8 * i) * 256
        = ap (λ (k : ℕ). 2 ^ k) (let next : 8 * (i + 1) ≡ 8 * i + 8 = omega arith in next) ∙ pow-add 2 (8 * i) 8 in
        record {
          within = omega arith;
          is =
              ap₂ (λ (x y : ℕ). x * 256 + y) so_far.is e
              ∙ sym (read_more octets at i (omega arith))
              ∙ ap (read octets at) (sym (add-one i));
          below = rw further (digits_lt so_far.below small);
        }

    pub reads_done : width ≤ i → (number ≡ read octets at width) × (number < 2 ^ 48)
    reads_done all =
        let same : i ≡ width = omega (arith, so_far.within) in
        let far : 2 ^ (8 * i) ≤ 2 ^ 48 = pow_mono {i = 8 * i} {j = 48} (omega (arith, so_far.within)) in
        (so_far.is ∙ ap (read octets at) same, omega (arith, so_far.below, far))

pub shifted_fits : (x k : ℕ) → x < 2 ^ 48 → x / 2 ^ k * 2 < 2 ^ 64
shifted_fits x k small = omega (arith, small, div-le_self x (2 ^ k))

-- what is protected in a subframe with overhead
module _ {f : Format} (s : Sound f) (overhead : f.overhead_bits ≡ 4) (subframe : ℕ) where
  abbrev nine : ℕ
  nine = subframe / 2 ^ (f.ancillary_bits + f.overhead_bits) * 2 / 2 ^ (f.sample_bits - 8) % 512

  abbrev pub protected_in : ℕ
  protected_in =
      protected_bits (nine_of f.sample_bits (sample_in f subframe)) (v_of f.ancillary_bits (ancillary_in f subframe))

  nine_is : nine ≡ nine_of f.sample_bits (sample_in f subframe)
  unfolding sample_in
  nine_is = nine_shifted f.sample_bits _ s.sample_from

  nine_small : nine < 512
  nine_small = mod-lt _ (omega arith)

  pub protected_bare : f.ancillary_bits ≡ 0 → (nine ≡ protected_in) × (nine < 1024)
  unfolding protected_bits
  protected_bare bare = (
    nine_is ∙ sym (ap (protected_bits (nine_of f.sample_bits (sample_in f subframe))) (v_none _ bare)),
    omega (arith, nine_small),
  )

  v_is : (f.ancillary_bits ≡ 0 → ⊥) → subframe / 16 % 2 ≡ ancillary_in f subframe % 2
  unfolding ancillary_in
  v_is any = rw (four_ancillary s any, overhead) (omega arith)

  pub protected_v : (f.ancillary_bits ≡ 0 → ⊥) → (nine * 2 + subframe / 16 % 2 ≡ protected_in)
      × (nine * 2 + subframe / 16 % 2 < 1024)
  unfolding protected_bits
  protected_v any = (
    ap₂ (λ (n v : ℕ). n * 2 + v) nine_is (v_is any)
        ∙ sym (ap (protected_bits (nine_of f.sample_bits (sample_in f subframe))) (v_some _ any)),
    omega (arith, nine_small),
  )

-- a slot's sample that is zero, or told by its mark
pub zero_silent : (f : Format) (cell : List ℕ) (slot : ℕ) {subframe : ℕ} → subframe ≡ subframe_at f cell slot
    → subframe / 2 ^ (f.ancillary_bits + f.overhead_bits) ≡ 0 → false ≡ sound_in f cell slot
unfolding sound_in is_sound sample_in
zero_silent f cell slot is e =
    rw (eq-eqb _ 0 (ap (λ (x : ℕ). x / 2 ^ (f.ancillary_bits + f.overhead_bits)) (sym is) ∙ e))

pub by_mark : (f : Format) (cell : List ℕ) (slot : ℕ) {subframe mark : ℕ} → subframe ≡ subframe_at f cell slot
    → (subframe / 2 ^ (f.ancillary_bits + f.overhead_bits) ≡ 0 → ⊥) → mark ≡ mark_in f subframe
    → eqb mark 0 ≡ sound_in f cell slot
unfolding sound_in is_sound sample_in
by_mark f cell slot is any mark_is =
    rw (ne_eqb _ 0 (λ e. any (ap (λ (x : ℕ). x / 2 ^ (f.ancillary_bits + f.overhead_bits)) is ∙ e)))
    (ap (λ (m : ℕ). eqb m 0) (mark_is ∙ ap (mark_in f) is))

-- slot by slot, and entry by entry
module _ (set : Settled) (cell : List ℕ) (limits : Limits set) where
  abbrev by_entry : ℕ → Bool
  by_entry = sound_at (own_entries (sample_in set.format) set cell) (own_entries (mark_in set.format) set cell)

  entry_in_slot : {i : ℕ} → i < used_in set
      → by_entry i ≡ sound_in set.format cell (slot_of_entry set.by_channel set.channels set.times i)
  unfolding sound_at sound_in
  entry_in_slot less =
      ap₂ is_sound (sym (own_at set cell (sample_in set.format) less)) (sym (own_at set cell (mark_in set.format) less))

  pub by_slots : some (sound_in set.format cell) (used_in set) ≡ some by_entry (used_in set)
  by_slots =
      same_bool _ _
      (some_from (sound_in set.format cell) by_entry (used_in set) (used_in set)
      (λ slot h e.
      let less = entry_lt set.channels set.times limits.times_from set.by_channel {slot = slot} h in
      some_here by_entry (used_in set) (entry_of_slot set.by_channel set.channels set.times slot) less
      (entry_in_slot less
      ∙ ap (sound_in set.format cell) (slot_of_entry_lem set.channels set.times limits.times_from set.by_channel h)
      ∙ e)))
      (some_from by_entry (sound_in set.format cell) (used_in set) (used_in set)
      (λ i h e.
      some_here (sound_in set.format cell) (used_in set) (slot_of_entry set.by_channel set.channels set.times i)
      (slot_lt set.channels set.times limits.channels_from set.by_channel h)
      (sym (entry_in_slot h) ∙ e)))

-- a cell that isn't of 48 octets
both_short : (b : Bool) → b && false ≡ false
both_short true = refl
both_short false = refl

pub short_silent : (st : Receiver) (cell : List ℕ) → (length cell ≡ 48 → ⊥) → false ≡ sounds_of st cell
unfolding sounds_of readable
short_silent st cell short =
    rw (ne_eqb (length cell) 48 short, both_short (eqb (settings_refusal st.format st.channels st.order) 0))

-- what a state settles
module _ (st : Receiver) (cell : List ℕ) {set : Settled}
    (settles : set ≡ settings_of st.format st.channels st.order) where
  refusal_is : set.refusal ≡ settings_refusal st.format st.channels st.order
  refusal_is = ap (λ (x : Settled). x.refusal) settles ∙ refusal_of_lem st.format st.channels st.order

  module _ (refused : set.refusal ≡ 0 → ⊥) where
    unreadable : readable st cell ≡ false
    unfolding readable
    unreadable = rw (ne_eqb _ 0 (λ e. refused (refusal_is ∙ e)))

    pub refused_silent : false ≡ sounds_of st cell
    unfolding sounds_of
    refused_silent = rw unreadable

  module _ (taken : set.refusal ≡ 0) where
    none : settings_refusal st.format st.channels st.order ≡ 0
    none = sym refusal_is ∙ taken

    is : set ≡ settled st.format st.channels st.order
    is = settles ∙ settled_of_lem st.format st.channels st.order none

    limits : Limits set
    limits = limits_of st.format st.channels st.order settles taken

    module _ (whole : length cell ≡ 48) where
      read_whole : readable st cell ≡ true
      unfolding readable
      read_whole = rw (eq-eqb _ 0 none, eq-eqb _ 48 whole)

      pub sounds_said : {found : Bool} → found ≡ some (sound_in set.format cell) (used_in set) → found ≡ sounds_of st cell
      unfolding sounds_of
      sounds_said found_is =
          rw read_whole
          (found_is
          ∙ by_slots set cell limits
          ∙ ap
          (λ (x : Settled).
          some (sound_at (own_entries (sample_in x.format) x cell) (own_entries (mark_in x.format) x cell)) (used_in x)) is)
