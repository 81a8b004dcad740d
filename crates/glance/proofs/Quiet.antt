-- Laws of a silent cell: none of its octets has a bit that is a sample's.
-- Assumes nothing.
use mathlib.Core.Bool.{false, cond}
use mathlib.Core.List.{List}
use mathlib.Core.Logic.{⊎_elim}
use mathlib.Core.Path.{◌≡◌, refl, sym, ◌∙◌, ap, ap₂, subst}
use Prim.Native.Nat.{ℕ, zero, suc, ◌+◌, ◌-◌, ◌*◌, ◌/◌, ◌%◌, ◌^◌, ◌≤◌, ◌<◌}
use native.Mathlib.Nat.{eq-or-lt_of_le, le_of_suc-le-suc, not-suc-le-zero, mul-add-mod_self_right, mod-eq_of_lt, zero-add}
use native.Mathlib.Numerals.{add-one}
use native.Mathlib.Omega.{arith}
use borrow.Author.Tests.{eq-eqb, ne_eqb, leb-true, leb-false, eqb-true, eqb-false}
use lib.Arith.{digits_lt}
use lib.Bits.{bit_and, bit_or, or_add_and, and_le_l, and_le_r, and_zero_l, and_block, and_high, or_shifted_r}
use lib.Dec.{eqb, leb}
use lib.ListN.{length, get_or}
use lib.Pow.{pow-add, pow_pos, shl_exact, shl-shr, shr_le, shr_lt}
use Rattle.runs.specs.Runs.{read_on}
use Rattle.runs.proofs.Laws.{split}
use Rattle.formats.specs.declared.Format.{Format}
use Rattle.formats.specs.Settled.{Settled}
use Rattle.formats.specs.Formats.{format_of, settings_refusal}
use Rattle.formats.specs.Settings.{settings_of}
use Rattle.formats.specs.Sound.{Sound, Limits}
use Rattle.formats.proofs.Laws.{refusal_of_lem, settled_of_lem, limits_of}
use Rattle.cells.specs.Cells.{subframe_at}
use Rattle.cells.proofs.Subframes.{slot_room}
use Rattle.receiver.specs.declared.Receiver.{Receiver}
use Rattle.receiver.specs.Unpacking.{used_in}
use Rattle.receiver.proofs.Reading.{read, read_more, one_left}
use Rattle.glance.specs.declared.Masks.{Masks}
use Rattle.glance.specs.Glance.{some, sounds_of}
use Rattle.glance.specs.Code.{sound_in, low_at, bits_at, packed, Eight, Blank, word_from, masks_of, Under, Clear}
use Rattle.glance.proofs.Some.{some_fails}
use Rattle.glance.proofs.Laws.{zero_silent, refused_silent, sounds_said}

-- octets packed into one number
abbrev Octets : (ℕ → ℕ) → ℕ → Type 0
Octets g n = (i : ℕ) → i < n → g i < 256

fewer : {g : ℕ → ℕ} {n : ℕ} → Octets g (suc n) → Octets g n
fewer small i h = small i (omega (arith, h))

packed_lt : (g : ℕ → ℕ) (n : ℕ) → Octets g n → packed g n < 2 ^ (8 * n)
unfolding packed
packed_lt g zero small = pow_pos (8 * zero)
packed_lt g (suc n) small =
    let next : 8 * suc n ≡ 8 + 8 * n = omega arith in
    let further : 2 ^ (8 * suc n) ≡ 256 * 2 ^ (8 * n) = ap (λ (k : ℕ). 2 ^ k) next ∙ pow-add 2 8 (8 * n) in
    rw further (digits_lt (small n (omega arith)) (packed_lt g n (fewer small)))

packed_and : (g h : ℕ → ℕ) (n : ℕ) → Octets g n → Octets h n
    → bit_and (packed g n) (packed h n) ≡ packed (λ i. bit_and (g i) (h i)) n
unfolding packed
packed_and g h zero a b = and_zero_l 0
packed_and g h (suc n) a b =
    and_block (8 * n) (g n) (h n) (packed g n) (packed h n) (packed_lt g n (fewer a)) (packed_lt h n (fewer b))
    ∙ ap (λ (x : ℕ). bit_and (g n) (h n) * 2 ^ (8 * n) + x) (packed_and g h n (fewer a) (fewer b))

packed_zero : (g : ℕ → ℕ) (n : ℕ) → packed g n ≡ 0 → (i : ℕ) → i < n → g i ≡ 0
unfolding packed
packed_zero g zero e i h = absurd (not-suc-le-zero h)
packed_zero g (suc n) e i h =
    ⊎_elim
    (λ same.
    let top : g n ≡ 0 = omega (arith, e, shl-shr (g n) (8 * n), shr_le (g n * 2 ^ (8 * n)) (8 * n)) in
    ap g same ∙ top)
    (λ less. let rest : packed g n ≡ 0 = omega (arith, e) in packed_zero g n rest i less)
    (eq-or-lt_of_le (le_of_suc-le-suc h))

-- one octet more
module _ (cell : List ℕ) (at : ℕ) where
  pub eight_begun : Eight cell at 0 0
  unfolding packed
  eight_begun = record { is = refl; octets = λ i h. absurd (not-suc-le-zero h) }

  pub eight_small : {number i : ℕ} → Eight cell at i number → number < 2 ^ (8 * i)
  eight_small {number} {i} so_far = rw so_far.is (packed_lt (λ k. get_or cell (at + k) 0) i so_far.octets)

  pub eight_on : {number i octet : ℕ} → Eight cell at i number → i < 8 → octet ≡ get_or cell (at + i) 0 → octet < 256
      → Eight cell at (i + 1) (bit_or number (octet * 2 ^ (8 * i) % 2 ^ 64))
  unfolding packed
  eight_on {number} {i} {octet} so_far less e small =
      rw (add-one i, shl_exact 8 (8 * i) 64 small (omega (arith, less)))
      (record {
        is =
            or_shifted_r octet (8 * i) number (eight_small so_far)
            ∙ ap₂ (λ (x y : ℕ). x * 2 ^ (8 * i) + y) e so_far.is;
        octets =
            λ k h.
            ⊎_elim
            (λ same. rw same (subst (λ (x : ℕ). x < 256) e small))
            (so_far.octets k)
            (eq-or-lt_of_le (le_of_suc-le-suc h));
      })

-- no bit in the one and none in the other
or_none : (a b : ℕ) → bit_or a b ≡ 0 → (a ≡ 0) × (b ≡ 0)
or_none a b e =
    (omega (arith, e, or_add_and a b, and_le_r a b), omega (arith, e, or_add_and a b, and_le_l a b))

bits_small : (f : Format) (i : ℕ) → bits_at f i < 256
bits_small f i = omega (arith, pow_pos (low_at f i))

-- a word of the cell, and the bits of it that are a sample's
module _ (f : Format) (cell : List ℕ) (start from at : ℕ) (at_is : at ≡ start + from) {mask : ℕ}
    (mask_is : mask ≡ word_from from f) (blank : Blank cell at mask) where
  eight_clear : (i : ℕ) → i < 8 → Under (get_or cell (start + (from + i)) 0) (low_at f (from + i))
  eight_clear i h =
      let all : packed (λ k. bit_and (get_or cell (at + k) 0) (bits_at f (from + k))) 8 ≡ 0
      = sym (packed_and (λ k. get_or cell (at + k) 0) (λ k. bits_at f (from + k)) 8 blank.reads.octets (λ k hk. bits_small f (from + k)))
      ∙ sym (ap₂ bit_and blank.reads.is mask_is)
      ∙ blank.none in
      let place : at + i ≡ start + (from + i) = omega arith in
      subst (λ (k : ℕ). Under (get_or cell k 0) (low_at f (from + i))) place
      (record {
        fits = blank.reads.octets i h;
        none = packed_zero (λ k. bit_and (get_or cell (at + k) 0) (bits_at f (from + k))) 8 all i h;
      })

-- what holds in three eights holds in all
thirds : (P : ℕ → Type 0) → ((i : ℕ) → i < 8 → P (0 + i)) → ((i : ℕ) → i < 8 → P (8 + i)) → ((i : ℕ) → i < 8 → P (16 + i))
    → (i : ℕ) → i < 24 → P i
thirds P a b c i h =
    split (leb 8 i)
    (λ t.
    split (leb 16 i)
    (λ u.
    let there : 16 + (i - 16) ≡ i = omega (arith, leb-true 16 i u) in
    subst P there (c (i - 16) (omega (arith, leb-true 16 i u))))
    (λ u.
    let there : 8 + (i - 8) ≡ i = omega (arith, leb-true 8 i t) in
    subst P there (b (i - 8) (omega (arith, leb-false 16 i u, leb-true 8 i t)))))
    (λ t. let there : 0 + i ≡ i = omega arith in subst P there (a i (leb-false 8 i t)))

-- a mask and what a cell has of it, in both halves
pub or_blank : (cell : List ℕ) (at : ℕ) {word next mask : ℕ} → Eight cell at 8 word → Eight cell (at + 24) 8 next
    → bit_or (bit_and word mask) (bit_and next mask) ≡ 0 → Blank cell at mask × Blank cell (at + 24) mask
or_blank cell at {word} {next} {mask} here behind none =
    let both = or_none (bit_and word mask) (bit_and next mask) none in (
      record { word = word; reads = here; none = both.0 },
      record { word = next; reads = behind; none = both.1 },
    )

abbrev Halves : List ℕ → ℕ → ℕ → ℕ → Type 0
Halves cell at mask r = r ≡ 0 → Blank cell at mask × Blank cell (at + 24) mask

pub all_clear : (octet : ℕ) (cell : List ℕ) {bits : Masks} {first second third : ℕ} → bits ≡ masks_of octet
    → Halves cell 0 bits.first first → Halves cell 8 bits.second second → Halves cell 16 bits.third third
    → bit_or (bit_or first second) third ≡ 0 → Clear (format_of octet) cell
unfolding masks_of
all_clear octet cell {bits} {first} {second} {third} is a b c e =
    let (front, last) = or_none (bit_or first second) third e in
    let (one, two) = or_none first second front in
    let f = format_of octet in
    let first-is : bits.first ≡ word_from 0 f = ap (λ (m : Masks). m.first) is in
    let second_is : bits.second ≡ word_from 8 f = ap (λ (m : Masks). m.second) is in
    let third-is : bits.third ≡ word_from 16 f = ap (λ (m : Masks). m.third) is in
    record {
      before =
          thirds (λ i. Under (get_or cell (0 + i) 0) (low_at f i))
          (eight_clear f cell 0 0 0 refl first-is (a one).0)
          (eight_clear f cell 0 8 8 refl second_is (b two).0)
          (eight_clear f cell 0 16 16 refl third-is (c last).0);
      behind =
          thirds (λ i. Under (get_or cell (24 + i) 0) (low_at f i))
          (eight_clear f cell 24 0 24 refl first-is (a one).1)
          (eight_clear f cell 24 8 32 refl second_is (b two).1)
          (eight_clear f cell 24 16 40 refl third-is (c last).1);
    }

-- an octet with no bit above the low ones
under_none : (o : ℕ) → Under o 0 → o ≡ 0
under_none o u = omega (arith, u.fits, u.none, and_high o 8 0)

under_few : (o low : ℕ) → low % 4 ≡ 0 → low ≤ 8 → Under o low → o < 2 ^ low
under_few o low fours few u =
    split (eqb low 0)
    (λ t.
    let e = eqb-true low 0 t in
    let none = under_none o (subst (Under o) e u) in
    rw e (omega (arith, none)))
    (λ t.
    split (eqb low 4)
    (λ v.
    let e = eqb-true low 4 v in
    let four : Under o 4 = subst (Under o) e u in
    let top : o / 16 % 16 ≡ 0 = omega (arith, four.none, and_high o 4 4) in
    let all : o / 16 ≡ 0 = omega (arith, four.fits, top) in
    rw e (omega (arith, all)))
    (λ v.
    let e : low ≡ 8 = omega (arith, eqb-false low 0 t, eqb-false low 4 v) in
    rw e u.fits))

under_shifted : {n : ℕ} (low : ℕ) → n < 2 ^ low → n / 2 ^ low ≡ 0
under_shifted {n} low h = omega (arith, shr_lt 0 low (subst (λ (k : ℕ). n < 2 ^ k) (sym (zero-add low)) h))

-- the second half is like the first: each width divides 24
module _ {f : Format} (s : Sound f) where
  again : (i : ℕ) → (24 + i) % f.width ≡ i % f.width
  again i =
      split (eqb f.width 4)
      (λ t. rw (eqb-true f.width 4 t) (omega arith))
      (λ four.
      split (eqb f.width 3)
      (λ t. rw (eqb-true f.width 3 t) (omega arith))
      (λ three.
      split (eqb f.width 2)
      (λ t. rw (eqb-true f.width 2 t) (omega arith))
      (λ two.
      split (eqb f.width 6)
      (λ t. rw (eqb-true f.width 6 t) (omega arith))
      (λ six.
      rw (one_left s (eqb-false f.width 4 four) (eqb-false f.width 3 three) (eqb-false f.width 2 two)
      (eqb-false f.width 6 six))
      (omega arith)))))

  low_again : (i : ℕ) → low_at f (24 + i) ≡ low_at f i
  unfolding low_at
  low_again i =
      ap (λ (m : ℕ). cond (eqb m (f.width - 1)) (f.ancillary_bits + f.overhead_bits) 0) (again i)

  -- slot by slot
  module _ (cell : List ℕ) (whole : length cell ≡ 48) (clear : Clear f cell) where
    octet_under : (i : ℕ) → i < 48 → Under (get_or cell i 0) (low_at f i)
    octet_under i h =
        split (leb 24 i)
        (λ t.
        let there : 24 + (i - 24) ≡ i = omega (arith, leb-true 24 i t) in
        subst (λ (k : ℕ). Under (get_or cell k 0) (low_at f k)) there
        (subst (Under (get_or cell (24 + (i - 24)) 0)) (sym (low_again (i - 24))) (clear.behind (i - 24) (omega (arith, h)))))
        (λ t.
        let there : 0 + i ≡ i = omega arith in
        subst (λ (k : ℕ). Under (get_or cell k 0) (low_at f i)) there (clear.before i (leb-false 24 i t)))

    lead : (i : ℕ) → i < 48 → (i % f.width ≡ f.width - 1 → ⊥) → get_or cell i 0 ≡ 0
    unfolding low_at
    lead i h before =
        let none : low_at f i ≡ 0 = rw (ne_eqb (i % f.width) (f.width - 1) before) in
        under_none (get_or cell i 0) (subst (Under (get_or cell i 0)) none (octet_under i h))

    last : (i : ℕ) → i < 48 → i % f.width ≡ f.width - 1
        → get_or cell i 0 < 2 ^ (f.ancillary_bits + f.overhead_bits)
    unfolding low_at
    last i h at_last =
        let all : low_at f i ≡ f.ancillary_bits + f.overhead_bits
        = rw (eq-eqb (i % f.width) (f.width - 1) at_last) in
        under_few (get_or cell i 0) (f.ancillary_bits + f.overhead_bits)
        (omega (arith, s.ancillary_fours, s.overhead_fours)) (omega (arith, s.ancillary_to, s.overhead_to))
        (subst (Under (get_or cell i 0)) all (octet_under i h))

    module _ (slot : ℕ) (less : slot < f.slots) where
      within : {k : ℕ} → k < f.width → slot * f.width + k < 48
      within h = omega (arith, h, slot_room s less)

      place_in : {k : ℕ} → k < f.width → (slot * f.width + k) % f.width ≡ k
      place_in {k} h = mul-add-mod_self_right slot f.width k ∙ mod-eq_of_lt h

      zeros : (k : ℕ) → k < f.width → read cell (slot * f.width) k ≡ 0
      unfolding read_on
      zeros zero h = refl
      zeros (suc k) h =
          let fits : k < f.width = omega (arith, h) in
          read_more cell (slot * f.width) k (omega (arith, whole, within fits))
          ∙ ap₂ (λ (x y : ℕ). x * 256 + y) (zeros k fits)
          (lead (slot * f.width + k) (within fits) (λ e. omega (arith, place_in fits, e, h)))

      subframe_low : subframe_at f cell slot < 2 ^ (f.ancillary_bits + f.overhead_bits)
      unfolding subframe_at
      subframe_low =
          let all : suc (f.width - 1) ≡ f.width = omega (arith, s.width_from) in
          let fits : f.width - 1 < f.width = omega (arith, s.width_from) in
          let ends : read cell (slot * f.width) f.width ≡ get_or cell (slot * f.width + (f.width - 1)) 0
          = ap (read cell (slot * f.width)) (sym all)
          ∙ read_more cell (slot * f.width) (f.width - 1) (omega (arith, whole, within fits))
          ∙ ap (λ (x : ℕ). x * 256 + get_or cell (slot * f.width + (f.width - 1)) 0) (zeros (f.width - 1) fits)
          ∙ zero-add _ in
          rw ends (last (slot * f.width + (f.width - 1)) (within fits) (place_in fits))

      slot_silent : sound_in f cell slot ≡ false
      slot_silent =
          let gone : subframe_at f cell slot / 2 ^ (f.ancillary_bits + f.overhead_bits) ≡ 0
          = under_shifted (f.ancillary_bits + f.overhead_bits) subframe_low in
          sym (zero_silent f cell slot refl gone)

-- a cell with no sample but zeros
module _ (st : Receiver) (cell : List ℕ) (whole : length cell ≡ 48) (clear : Clear (format_of st.format) cell) where
  abbrev set : Settled
  set = settings_of st.format st.channels st.order

  module _ (taken : settings_refusal st.format st.channels st.order ≡ 0) where
    settles : set.refusal ≡ 0
    settles = refusal_of_lem st.format st.channels st.order ∙ taken

    format_is : format_of st.format ≡ set.format
    format_is = sym (ap (λ (x : Settled). x.format) (settled_of_lem st.format st.channels st.order taken))

    all_silent : some (sound_in set.format cell) (used_in set) ≡ false
    all_silent =
        let limits : Limits set = limits_of st.format st.channels st.order refl settles in
        some_fails (sound_in set.format cell) (used_in set)
        (λ i h.
        slot_silent limits.sound cell whole (subst (λ (f : Format). Clear f cell) format_is clear) i
        (omega (arith, h, limits.used_in_lem)))

  pub quiet_silent : false ≡ sounds_of st cell
  quiet_silent =
      split (eqb (settings_refusal st.format st.channels st.order) 0)
      (λ t.
      let taken = eqb-true (settings_refusal st.format st.channels st.order) 0 t in
      sounds_said st cell refl (settles taken) whole (sym (all_silent taken)))
      (λ t.
      refused_silent st cell refl
      (λ e. eqb-false (settings_refusal st.format st.channels st.order) 0 t
      (sym (refusal_of_lem st.format st.channels st.order) ∙ e)))
