-- A format's facts by the settings with one channel in order 0, which nothing but the octet can refuse.
-- Assumes nothing.
use mathlib.Core.Path.{◌≡◌}
use Prim.Native.Nat.{ℕ, ◌≤◌}
use native.Mathlib.Omega.{arith}
use borrow.Author.Tests.{le-ltb}
use Rattle.runs.proofs.Laws.{split}
use Rattle.formats.specs.Formats.{is_listed, slots_of, format_of, settings_refusal, no_format}
use Rattle.formats.specs.Settings.{settings_of}
use Rattle.formats.specs.declared.Format.{Format}
use Rattle.formats.proofs.Laws.{sound_fields, sound_format}
use Rattle.rimesatchel.specs.Facts.{format_refusal}

module _ (octet : ℕ) where
  alone_refusal : settings_refusal octet 1 0 ≡ format_refusal octet
  unfolding settings_refusal
  alone_refusal =
      split (is_listed octet)
      (λ listed. rw (listed, le-ltb (slots_of octet) 1 (omega (arith, (sound_fields octet listed).slots_from))))
      (λ listed. rw listed)

  pub alone_refused : (settings_of octet 1 0).refusal ≡ format_refusal octet
  unfolding settings_of
  alone_refused = split (is_listed octet) (λ listed. rw (alone_refusal, listed)) (λ listed. rw (alone_refusal, listed))

  pub alone_format : (settings_of octet 1 0).format ≡ format_of octet
  unfolding settings_of format_of
  alone_format = split (is_listed octet) (λ listed. rw (alone_refusal, listed)) (λ listed. rw (alone_refusal, listed))

-- a format's numbers are small
pub record Small (f : Format) : Type 0 where
  pub sample_to : f.sample_bits ≤ 40
  pub ancillary_to : f.ancillary_bits ≤ 4
  pub overhead_to : f.overhead_bits ≤ 4
  pub slots_to : f.slots ≤ 48

none_small : Small no_format
none_small = record { sample_to = omega arith; ancillary_to = omega arith; overhead_to = omega arith; slots_to = omega arith }

pub small_format : (octet : ℕ) → Small (format_of octet)
unfolding format_of
small_format octet =
    split (is_listed octet)
    (λ listed.
    let s = sound_format octet listed in
    record { sample_to = s.sample_to; ancillary_to = s.ancillary_to; overhead_to = s.overhead_to; slots_to = s.slots_to })
    (λ listed. rw listed none_small)
