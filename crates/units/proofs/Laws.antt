-- Laws of the refusals: what each check gives in its turn, and what is known where none refuses.
-- Assumes nothing.
use mathlib.Core.Bool.{true, false, cond, not}
use mathlib.Core.List.{List}
use mathlib.Core.Path.{◌≡◌, sym, ◌∙◌, ap}
use Prim.Native.Nat.{ℕ, ◌*◌, ◌%◌, ◌^◌, ◌≤◌, ◌<◌}
use native.Mathlib.Nat.{mul-one, mul-pos, mul-le-mul_left, mul-le-mul_right}
use native.Mathlib.Omega.{arith}
use borrow.Author.Tests.{eq-eqb, ne_eqb, lt-ltb, le-ltb, eqb-true, eqb-false, ltb-false, not-false}
use lib.Dec.{eqb, ltb}
use lib.ListN.{length, get_or}
use lib.Pow.{pow_pos}
use Rattle.runs.proofs.Laws.{then_later, past, past_both, neither}
use Rattle.formats.specs.declared.Format.{Format}
use Rattle.formats.specs.Settled.{Settled}
use Rattle.formats.specs.Formats.{format_of, settings_refusal}
use Rattle.formats.specs.Settings.{settled, settings_of}
use Rattle.formats.specs.Sound.{Limits}
use Rattle.formats.proofs.Laws.{settled_limits, given_refuses, given_none, given_settled, given_later}
use Rattle.sender.specs.Sender.{all_below}
use Rattle.sender.proofs.Laws.{below_each}
use Rattle.units.specs.Units.{
  frame_size,
  export_size,
  runs_refused,
  values_refused,
  has_overhead,
  export_refusal,
  unit_refused,
  entries_in,
  read_refusal,
}

-- check 5 of an export, one length after the other
module _ (channels samples ancillary : ℕ) where
  pub runs_are : runs_refused channels samples ancillary ≡ false → (ancillary ≡ samples) × (samples % channels ≡ 0)
  unfolding runs_refused
  runs_are taken =
      let both = neither (not (eqb ancillary samples)) _ taken in
      (eqb-true ancillary samples (not-false _ both.0), eqb-true (samples % channels) 0 (not-false _ both.1))

-- check 5 of a reading
module _ (frame unit samples ancillary : ℕ) where
  pub unit_is : unit_refused frame unit samples ancillary ≡ false → (ancillary ≡ samples) × (unit ≡ 0 → ⊥) × (unit % frame ≡ 0)
  unfolding unit_refused
  unit_is taken =
      let both = neither (not (eqb ancillary samples)) _ taken in
      let rest = neither (eqb unit 0) _ both.1 in (
        eqb-true ancillary samples (not-false _ both.0),
        eqb-false unit 0 rest.0,
        eqb-true (unit % frame) 0 (not-false _ rest.1),
      )

-- a frame of settings that nothing refuses: at least an octet, at most a cell
pub frame_some : {set : Settled} → Limits set → 1 ≤ set.channels * set.format.width
frame_some limits = mul-pos limits.channels_from limits.sound.width_from

pub frame_small : {set : Settled} → Limits set → set.channels * set.format.width ≤ 48
frame_small {set} limits =
    let few : set.channels ≤ set.format.slots
    = omega (arith, mul-one set.channels, mul-le-mul_left {m = 1} {n = set.times} set.channels limits.times_from, limits.used_in_lem) in
    omega (arith, mul-le-mul_right {m = set.channels} {n = set.format.slots} set.format.width few, limits.sound.cell)

-- as many subframes as a run of 64-bit numbers has entries
pub subframes_fit : (entries width : ℕ) → width ≤ 6 → entries * 8 < 2 ^ 63 → entries * width < 2 ^ 64
subframes_fit entries width to few = omega (arith, mul-le-mul_left {m = width} {n = 6} entries to)

-- checks of an export, by the settings
module _ {set : Settled} (octet channels size : ℕ) (samples ancillary : List ℕ) (room : ℕ) (given : set ≡ settings_of octet channels 0) where
  abbrev refused : ℕ
  refused = export_refusal octet channels size samples ancillary room

  pub exports_settings : (set.refusal ≡ 0 → ⊥) → set.refusal ≡ refused
  unfolding export_refusal
  exports_settings some = given_refuses octet channels 0 _ given some

  module _ (none : set.refusal ≡ 0) where
    is : set ≡ settled octet channels 0
    is = given_settled octet channels 0 0 given none

    pub export_limits : Limits set
    export_limits = settled_limits octet channels 0 is (given_none octet channels 0 0 given none)

    later : refused
        ≡ cond (runs_refused set.channels (length samples) (length ancillary)) 5
        (cond (values_refused set.format samples ancillary) 6
        (cond (has_overhead set.format) 26
        (cond (ltb size (frame_size set.format set.channels)) 27 (cond (ltb room (export_size set.format samples)) 28 0))))
    unfolding export_refusal
    later =
        given_later octet channels 0 _ given none
        ∙ ap
        (λ (x : Settled).
        cond (runs_refused x.channels (length samples) (length ancillary)) 5
        (cond (values_refused x.format samples ancillary) 6
        (cond (has_overhead x.format) 26
        (cond (ltb size (frame_size x.format x.channels)) 27 (cond (ltb room (export_size x.format samples)) 28 0)))))
        (sym is)

    pub exports_5 : true ≡ runs_refused set.channels (length samples) (length ancillary) → 5 ≡ refused
    exports_5 e = sym (later ∙ rw (← e))

    module _ (even : false ≡ runs_refused set.channels (length samples) (length ancillary)) where
      pub exports_6 : true ≡ values_refused set.format samples ancillary → 6 ≡ refused
      exports_6 e = sym (later ∙ rw (← even, ← e))

      module _ (small : false ≡ values_refused set.format samples ancillary) where
        pub exports_26 : (set.format.overhead_bits ≡ 0 → ⊥) → 26 ≡ refused
        exports_26 some = sym (later ∙ rw (← even, ← small, ne_eqb set.format.overhead_bits 0 some))

        module _ (bare : set.format.overhead_bits ≡ 0) where
          pub exports_27 : size < frame_size set.format set.channels → 27 ≡ refused
          exports_27 less =
              sym (later ∙ rw (← even, ← small, eq-eqb set.format.overhead_bits 0 bare, lt-ltb size (frame_size set.format set.channels) less))

          module _ (fits : frame_size set.format set.channels ≤ size) where
            rest : refused ≡ cond (ltb room (export_size set.format samples)) 28 0
            rest =
                later
                ∙ rw (← even, ← small, eq-eqb set.format.overhead_bits 0 bare, le-ltb size (frame_size set.format set.channels) fits)

            pub exports_28 : room < export_size set.format samples → 28 ≡ refused
            exports_28 less = sym (rest ∙ rw (lt-ltb room (export_size set.format samples) less))

            pub exports_0 : export_size set.format samples ≤ room → 0 ≡ refused
            exports_0 enough = sym (rest ∙ rw (le-ltb room (export_size set.format samples) enough))

-- what is known of an export that nothing refuses
pub record Passes (octet channels size : ℕ) (samples ancillary : List ℕ) (room : ℕ) : Type 0 where
  pub settings_none : settings_refusal octet channels 0 ≡ 0
  pub limits : Limits (settled octet channels 0)
  pub as_many : length ancillary ≡ length samples
  pub whole : length samples % channels ≡ 0
  pub small : (i : ℕ) → get_or samples i 0 < 2 ^ (format_of octet).sample_bits
  pub few : (i : ℕ) → get_or ancillary i 0 < 2 ^ (format_of octet).ancillary_bits
  pub bare : (format_of octet).overhead_bits ≡ 0
  pub fits : frame_size (format_of octet) channels ≤ size
  pub enough : export_size (format_of octet) samples ≤ room

pub export_passes : (octet channels size : ℕ) (samples ancillary : List ℕ) (room : ℕ)
    → export_refusal octet channels size samples ancillary room ≡ 0 → Passes octet channels size samples ancillary room
unfolding export_refusal values_refused
export_passes octet channels size samples ancillary room none =
    let f : Format = format_of octet in
    let first = past_both (settings_refusal octet channels 0) _ none in
    let fifth = past (runs_refused channels (length samples) (length ancillary)) 4 _ first.1 in
    let sixth = past (values_refused f samples ancillary) 5 _ fifth.1 in
    let next = past (has_overhead f) 25 _ sixth.1 in
    let size-test = past (ltb size (frame_size f channels)) 26 _ next.1 in
    let room-test = past (ltb room (export_size f samples)) 27 _ size-test.1 in
    let lengths = runs_are channels (length samples) (length ancillary) fifth.0 in
    let values = neither (not (all_below (2 ^ f.sample_bits) samples)) _ sixth.0 in
    record {
      settings_none = first.0;
      limits = settled_limits octet channels 0 (λ i. settled octet channels 0) first.0;
      as_many = lengths.0;
      whole = lengths.1;
      small = below_each (2 ^ f.sample_bits) samples (pow_pos f.sample_bits) (not-false _ values.0);
      few = below_each (2 ^ f.ancillary_bits) ancillary (pow_pos f.ancillary_bits) (not-false _ values.1);
      bare = eqb-true f.overhead_bits 0 (not-false _ next.0);
      fits = ltb-false size (frame_size f channels) size-test.0;
      enough = ltb-false room (export_size f samples) room-test.0;
    }

-- checks of a reading, by the settings
module _ {set : Settled} (octet channels unit samples ancillary : ℕ) (given : set ≡ settings_of octet channels 0) where
  abbrev unread : ℕ
  unread = read_refusal octet channels unit samples ancillary

  pub reads_settings : (set.refusal ≡ 0 → ⊥) → set.refusal ≡ unread
  unfolding read_refusal
  reads_settings some = given_refuses octet channels 0 _ given some

  module _ (none : set.refusal ≡ 0) where
    settled_is : set ≡ settled octet channels 0
    settled_is = given_settled octet channels 0 0 given none

    pub read_limits : Limits set
    read_limits = settled_limits octet channels 0 settled_is (given_none octet channels 0 0 given none)

    read_later : unread
        ≡ cond (unit_refused (frame_size set.format set.channels) unit samples ancillary) 5
        (cond (has_overhead set.format) 26 (cond (ltb samples (entries_in set.format unit)) 28 0))
    unfolding read_refusal
    read_later =
        given_later octet channels 0 _ given none
        ∙ ap
        (λ (x : Settled).
        cond (unit_refused (frame_size x.format x.channels) unit samples ancillary) 5
        (cond (has_overhead x.format) 26 (cond (ltb samples (entries_in x.format unit)) 28 0)))
        (sym settled_is)

    pub reads_5 : true ≡ unit_refused (frame_size set.format set.channels) unit samples ancillary → 5 ≡ unread
    reads_5 e = sym (read_later ∙ rw (← e))

    module _ (even : false ≡ unit_refused (frame_size set.format set.channels) unit samples ancillary) where
      pub reads_26 : (set.format.overhead_bits ≡ 0 → ⊥) → 26 ≡ unread
      reads_26 some = sym (read_later ∙ rw (← even, ne_eqb set.format.overhead_bits 0 some))

      module _ (bare : set.format.overhead_bits ≡ 0) where
        pub reads_28 : samples < entries_in set.format unit → 28 ≡ unread
        reads_28 less =
            sym (read_later ∙ rw (← even, eq-eqb set.format.overhead_bits 0 bare, lt-ltb samples (entries_in set.format unit) less))

        pub reads_0 : entries_in set.format unit ≤ samples → 0 ≡ unread
        reads_0 enough =
            sym (read_later ∙ rw (← even, eq-eqb set.format.overhead_bits 0 bare, le-ltb samples (entries_in set.format unit) enough))

-- what is known of a reading that nothing refuses
pub record ReadPasses (octet channels unit samples ancillary : ℕ) : Type 0 where
  pub settings_none : settings_refusal octet channels 0 ≡ 0
  pub limits : Limits (settled octet channels 0)
  pub as_many : ancillary ≡ samples
  pub some : unit ≡ 0 → ⊥
  pub whole : unit % frame_size (format_of octet) channels ≡ 0
  pub bare : (format_of octet).overhead_bits ≡ 0
  pub enough : entries_in (format_of octet) unit ≤ samples

pub read_passes : (octet channels unit samples ancillary : ℕ) → read_refusal octet channels unit samples ancillary ≡ 0
    → ReadPasses octet channels unit samples ancillary
unfolding read_refusal
read_passes octet channels unit samples ancillary none =
    let f : Format = format_of octet in
    let first = past_both (settings_refusal octet channels 0) _ none in
    let fifth = past (unit_refused (frame_size f channels) unit samples ancillary) 4 _ first.1 in
    let next = past (has_overhead f) 25 _ fifth.1 in
    let room-test = past (ltb samples (entries_in f unit)) 27 _ next.1 in
    let lengths = unit_is (frame_size f channels) unit samples ancillary fifth.0 in
    record {
      settings_none = first.0;
      limits = settled_limits octet channels 0 (λ i. settled octet channels 0) first.0;
      as_many = lengths.0;
      some = lengths.1;
      whole = lengths.2;
      bare = eqb-true f.overhead_bits 0 (not-false _ next.0);
      enough = ltb-false samples (entries_in f unit) room-test.0;
    }

-- an export and a reading that nothing refuses
pub export_taken : (octet channels size : ℕ) (samples ancillary : List ℕ) (room : ℕ)
    → settings_refusal octet channels 0 ≡ 0
    → length ancillary ≡ length samples
    → length samples % channels ≡ 0
    → values_refused (format_of octet) samples ancillary ≡ false
    → (format_of octet).overhead_bits ≡ 0
    → frame_size (format_of octet) channels ≤ size
    → export_size (format_of octet) samples ≤ room
    → export_refusal octet channels size samples ancillary room ≡ 0
unfolding export_refusal runs_refused
export_taken octet channels size samples ancillary room none equal whole small bare fits enough =
    then_later _ none
    ∙ rw (
      eq-eqb (length ancillary) (length samples) equal,
      eq-eqb (length samples % channels) 0 whole,
      small,
      eq-eqb (format_of octet).overhead_bits 0 bare,
      le-ltb size (frame_size (format_of octet) channels) fits,
      le-ltb room (export_size (format_of octet) samples) enough,
    )

pub read_taken : (octet channels unit samples ancillary : ℕ)
    → settings_refusal octet channels 0 ≡ 0
    → ancillary ≡ samples
    → (unit ≡ 0 → ⊥)
    → unit % frame_size (format_of octet) channels ≡ 0
    → (format_of octet).overhead_bits ≡ 0
    → entries_in (format_of octet) unit ≤ samples
    → read_refusal octet channels unit samples ancillary ≡ 0
unfolding read_refusal unit_refused
read_taken octet channels unit samples ancillary none equal some whole bare room =
    then_later _ none
    ∙ rw (
      eq-eqb ancillary samples equal,
      ne_eqb unit 0 some,
      eq-eqb (unit % frame_size (format_of octet) channels) 0 whole,
      eq-eqb (format_of octet).overhead_bits 0 bare,
      le-ltb samples (entries_in (format_of octet) unit) room,
    )
