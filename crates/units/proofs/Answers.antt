-- The answers of an export and of a reading, refused and taken.
-- Assumes nothing.
use mathlib.Core.List.{List, ◌++◌}
use mathlib.Core.Path.{◌≡◌, sym, ◌∙◌, ap, ap₂}
use Prim.Native.Nat.{ℕ, ◌*◌, ◌/◌, ◌%◌, ◌^◌, ◌≤◌}
use native.Mathlib.Nat.{div-mul-le_self, le-div_iff_mul-le}
use native.Mathlib.Omega.{arith}
use borrow.Author.Tests.{ne_eqb}
use lib.ListN.{length, drop}
use lib.Pow.{pow_mono, pow_pos}
use Rattle.runs.specs.Runs.{tab, over}
use Rattle.formats.specs.declared.Format.{Format}
use Rattle.formats.specs.Settled.{Settled}
use Rattle.formats.specs.Formats.{format_of}
use Rattle.formats.specs.Settings.{settled, settings_of}
use Rattle.formats.specs.Sound.{Sound, Limits}
use Rattle.formats.proofs.Laws.{settled_of_lem}
use Rattle.cells.specs.Cells.{sample_in, ancillary_in}
use Rattle.units.specs.declared.Exported.{Exported}
use Rattle.units.specs.Code.{packed, Packable, number_at, Unpackable, Unpacks}
use Rattle.units.specs.Units.{
  fit_of,
  units_of,
  export_octets,
  export_refusal,
  not_exported,
  exported_of,
  export_gives,
  Exports,
  entries_in,
  read_refusal,
  entered_of,
  read_off,
  read_gives,
  Reads,
}
use Rattle.units.proofs.Joined.{joined_same}
use Rattle.units.proofs.Laws.{frame_some, Passes, export_passes, ReadPasses, read_passes}
use Rattle.units.proofs.Packing.{subframe_is, sample_is, ancillary_is}
use Rattle.units.proofs.Units.{export_subframes, export_length}

base_to : (f : Format) → Sound f → 2 ^ f.ancillary_bits ≤ 16
base_to f sound = pow_mono {i = f.ancillary_bits} {j = 4} sound.ancillary_to

module _ (octet channels size : ℕ) (samples ancillary out : List ℕ) where
  pub exports_refused : {n : ℕ} {answer : Exported} → (n ≡ 0 → ⊥) → n ≡ export_refusal octet channels size samples ancillary (length out)
      → answer ≡ not_exported n → Exports octet channels size samples ancillary out answer out
  unfolding exported_of export_gives over
  exports_refused some e is =
      record { answered = is ∙ rw (← e, ne_eqb _ _ some); out_after = rw (← e, ne_eqb _ _ some) }

  module _ {set : Settled} (given : set ≡ settings_of octet channels 0)
      (none : 0 ≡ export_refusal octet channels size samples ancillary (length out))
    where
      pub passes : Passes octet channels size samples ancillary (length out)
      passes = export_passes octet channels size samples ancillary (length out) (sym none)

      set_is : set ≡ settled octet channels 0
      set_is = given ∙ settled_of_lem octet channels 0 passes.settings_none

      pub export_bounds : Limits set
      export_bounds = rw set_is passes.limits

      pub fit_some : 1 ≤ size / (set.channels * set.format.width)
      fit_some = rw set_is ((le-div_iff_mul-le (frame_some passes.limits)).1 (omega (arith, passes.fits)))

      pub can_pack : (set.format.ancillary_bits % 4 ≡ 0)
          × (set.format.ancillary_bits ≤ 4)
          × Packable (2 ^ set.format.ancillary_bits) set.format.width samples ancillary out
      can_pack = rw set_is packs
        where
          f : Format
          f = format_of octet

          sound : Sound (format_of octet)
          sound = passes.limits.sound

          far : 2 ^ (format_of octet).sample_bits ≤ 2 ^ 40
          far = pow_mono {i = (format_of octet).sample_bits} {j = 40} sound.sample_to

          packs : ((format_of octet).ancillary_bits % 4 ≡ 0)
              × ((format_of octet).ancillary_bits ≤ 4)
              × Packable (2 ^ (format_of octet).ancillary_bits) (format_of octet).width samples ancillary out
          packs = (
            sound.ancillary_fours,
            sound.ancillary_to,
            record {
              base_to = base_to (format_of octet) sound;
              width_to = sound.width_to;
              as_many = passes.as_many;
              small = λ i. omega (arith, passes.small i, far);
              room = passes.enough;
            },
          )

      -- what was packed is the units end to end
      packed_units : packed (2 ^ (format_of octet).ancillary_bits) (format_of octet).width samples ancillary out
          ≡ over (export_octets (format_of octet) channels samples ancillary (fit_of (format_of octet) channels size)) out
      unfolding over
      packed_units =
          ap₂ (λ (l : List ℕ) (n : ℕ). l ++ drop n out)
          (joined_same _ _ (length samples) (λ k h. subframe_is (format_of octet) passes.bare samples ancillary k)
          ∙ sym (export_subframes (format_of octet) channels samples ancillary passes.whole (fit_of (format_of octet) channels size)))
          (sym (export_length (format_of octet) channels samples ancillary passes.whole (fit_of (format_of octet) channels size)))

      pub exports_taken : {units : ℕ} {out₁ : List ℕ}
          → units ≡ units_of (length samples / set.channels) (size / (set.channels * set.format.width))
          → out₁ ≡ packed (2 ^ set.format.ancillary_bits) set.format.width samples ancillary out
          → Exports octet channels size samples ancillary out
          (record {
            refusal = 0;
            octets = length samples * set.format.width;
            full = size / (set.channels * set.format.width) * (set.channels * set.format.width);
            units = units;
          })
          out₁
      unfolding exported_of export_gives
      exports_taken {units} {out₁} units-is written =
          record {
            answered =
                ap
                (λ (n : ℕ).
                record {
                  refusal = 0;
                  octets = length samples * set.format.width;
                  full = size / (set.channels * set.format.width) * (set.channels * set.format.width);
                  units = n;
                })
                units-is
                ∙ ap
                (λ (x : Settled).
                record {
                  refusal = 0;
                  octets = length samples * x.format.width;
                  full = size / (x.channels * x.format.width) * (x.channels * x.format.width);
                  units = units_of (length samples / x.channels) (size / (x.channels * x.format.width));
                })
                set_is
                ∙ rw (← none);
            out_after =
                written
                ∙ ap (λ (x : Settled). packed (2 ^ x.format.ancillary_bits) x.format.width samples ancillary out) set_is
                ∙ packed_units
                ∙ rw (← none);
          }

module _ (octet channels : ℕ) (unit samples ancillary : List ℕ) where
  pub reads_refused : {n : ℕ} → (n ≡ 0 → ⊥) → n ≡ read_refusal octet channels (length unit) (length samples) (length ancillary)
      → Reads octet channels unit samples ancillary (record { refusal = n; entries = 0 }) samples ancillary
  unfolding entered_of read_gives over
  reads_refused some e =
      record {
        answered = rw (← e, ne_eqb _ _ some);
        samples_after = rw (← e, ne_eqb _ _ some);
        ancillary_after = rw (← e, ne_eqb _ _ some);
      }

  module _ {set : Settled} (given : set ≡ settings_of octet channels 0)
      (none : 0 ≡ read_refusal octet channels (length unit) (length samples) (length ancillary))
    where
      read_passed : ReadPasses octet channels (length unit) (length samples) (length ancillary)
      read_passed = read_passes octet channels (length unit) (length samples) (length ancillary) (sym none)

      settled_is : set ≡ settled octet channels 0
      settled_is = given ∙ settled_of_lem octet channels 0 read_passed.settings_none

      pub read_bounds : Limits set
      read_bounds = rw settled_is read_passed.limits

      pub can_unpack : (set.format.ancillary_bits % 4 ≡ 0)
          × (set.format.ancillary_bits ≤ 4)
          × Unpackable (2 ^ set.format.ancillary_bits) set.format.width (length unit / set.format.width) unit samples ancillary
      can_unpack = rw settled_is unpacks
        where
          sound : Sound (format_of octet)
          sound = read_passed.limits.sound

          unpacks : ((format_of octet).ancillary_bits % 4 ≡ 0)
              × ((format_of octet).ancillary_bits ≤ 4)
              × Unpackable (2 ^ (format_of octet).ancillary_bits) (format_of octet).width (length unit / (format_of octet).width) unit samples ancillary
          unpacks = (
            sound.ancillary_fours,
            sound.ancillary_to,
            record {
              base_from = pow_pos (format_of octet).ancillary_bits;
              base_to = base_to (format_of octet) sound;
              width_to = sound.width_to;
              whole = div-mul-le_self (length unit) (format_of octet).width;
              samples_room = read_passed.enough;
              ancillary_room = omega (arith, read_passed.enough, read_passed.as_many);
            },
          )

      -- what was taken apart is what is read off the subframes
      samples_are : tab (λ entry. number_at (format_of octet).width unit entry / 2 ^ (format_of octet).ancillary_bits)
          (entries_in (format_of octet) (length unit))
          ≡ read_gives octet channels unit (length samples) (length ancillary) (read_off (sample_in (format_of octet)) (format_of octet) unit)
      unfolding read_gives read_off
      samples_are =
          ap (λ (g : ℕ → ℕ). tab g (entries_in (format_of octet) (length unit))) (λ i entry. sample_is (format_of octet) read_passed.bare unit entry i)
          ∙ rw (← none)

      ancillary_are : tab (λ entry. number_at (format_of octet).width unit entry % 2 ^ (format_of octet).ancillary_bits)
          (entries_in (format_of octet) (length unit))
          ≡ read_gives octet channels unit (length samples) (length ancillary) (read_off (ancillary_in (format_of octet)) (format_of octet) unit)
      unfolding read_gives read_off
      ancillary_are =
          ap (λ (g : ℕ → ℕ). tab g (entries_in (format_of octet) (length unit))) (λ i entry. ancillary_is (format_of octet) read_passed.bare unit entry i)
          ∙ rw (← none)

      pub reads_taken : {samples₁ ancillary₁ : List ℕ}
          → Unpacks (2 ^ set.format.ancillary_bits) set.format.width (length unit / set.format.width) unit samples ancillary samples₁ ancillary₁
          → Reads octet channels unit samples ancillary (record { refusal = 0; entries = length unit / set.format.width }) samples₁ ancillary₁
      unfolding entered_of
      reads_taken {samples₁} {ancillary₁} did =
          record {
            answered =
                ap (λ (x : Settled). record { refusal = 0; entries = length unit / x.format.width }) settled_is ∙ rw (← none);
            samples_after =
                did.samples_are
                ∙ ap
                (λ (x : Settled).
                over (tab (λ entry. number_at x.format.width unit entry / 2 ^ x.format.ancillary_bits) (length unit / x.format.width)) samples)
                settled_is
                ∙ ap (λ (l : List ℕ). over l samples) samples_are;
            ancillary_after =
                did.ancillary_is
                ∙ ap
                (λ (x : Settled).
                over (tab (λ entry. number_at x.format.width unit entry % 2 ^ x.format.ancillary_bits) (length unit / x.format.width)) ancillary)
                settled_is
                ∙ ap (λ (l : List ℕ). over l ancillary) ancillary_are;
          }
