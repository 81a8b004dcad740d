-- Wrong answers to the public functions: their contracts rule them out. Stated over the contracts themselves.
-- Assumes nothing.
use mathlib.Core.Bool.{true, false, true≢false}
use mathlib.Core.Path.{◌≡◌, sym, ◌∙◌, ap}
use native.Mathlib.Omega.{arith}
use contract.Lifetimes.{Lfts}
use Rattle.runs.proofs.Wrong.{Never}
use Rattle.formats.specs.Settled.{Settled}
use Rattle.formats.specs.Formats.{
  length_of,
  sample_bits,
  ancillary_bits,
  overhead_bits,
  listed_octets,
  is_among,
  is_listed,
  width_of,
  slots_of,
  format_of,
  settings_refusal,
}
use Rattle.formats.specs.Settings.{answered, settings_of}
use Rattle.formats.specs.Code.{is_usual}
use Rattle.formats.proofs.settings.Kinds as settings-kinds
use Rattle.formats.proofs.settings.Reads as settings-reads
use Rattle.formats.proofs.is_usual.Kinds as is-usual-kinds
use Rattle.formats.proofs.is_usual.Reads as is-usual-reads
use Rattle.formats.proofs.usual.Kinds as usual-kinds
use Rattle.formats.proofs.usual.Reads as usual-reads

-- every definition on the way down to the numbers
unfoldable pub unfolded : Unit {0}
unfolding length_of sample_bits ancillary_bits overhead_bits listed_octets is_among is_listed width_of slots_of format_of settings_refusal settings_of is_usual
unfolded = tt

module _ (κs : Lfts 0) where
  -- settings that nothing is wrong with refused, by whatever number
  pub not_always_refused : Never settings-kinds.ps settings-kinds.r settings-reads.Post κs (0x56, (2, (0, tt))) (λ x v. (answered x).refusal ≡ 0 → ⊥)
  unfolding unfolded
  not_always_refused x v wrong p = wrong (ap (λ (s : Settled). s.refusal) p)

  -- a number above an octet taken for its low octet
  pub not_cut_to_an_octet : Never settings-kinds.ps settings-kinds.r settings-reads.Post κs (0x156, (2, (0, tt))) (λ x v. (answered x).refusal ≡ 0)
  unfolding unfolded
  not_cut_to_an_octet x v wrong p = let right : (answered x).refusal ≡ 1 = ap (λ (s : Settled). s.refusal) p in omega arith

  -- overhead alone refused, as before request 4
  pub overhead_alone_not_refused : Never settings-kinds.ps settings-kinds.r settings-reads.Post κs (0x15, (16, (0, tt))) (λ x v. (answered x).refusal ≡ 1)
  unfolding unfolded
  overhead_alone_not_refused x v wrong p = let right : (answered x).refusal ≡ 0 = ap (λ (s : Settled). s.refusal) p in omega arith

  -- overhead alone taken for overhead with ancillary bits
  pub overhead_alone_not_with_ancillary : Never settings-kinds.ps settings-kinds.r settings-reads.Post κs (0x17, (2, (0, tt)))
      (λ x v. (answered x).format.ancillary_bits ≡ 4)
  unfolding unfolded
  overhead_alone_not_with_ancillary x v wrong p =
      let right : (answered x).format.ancillary_bits ≡ 0 = ap (λ (s : Settled). s.format.ancillary_bits) p in omega arith

  -- T rounded up: five channels in twelve slots
  pub times_not_rounded_up : Never settings-kinds.ps settings-kinds.r settings-reads.Post κs (0x56, (5, (0, tt))) (λ x v. (answered x).times ≡ 3)
  unfolding unfolded
  times_not_rounded_up x v wrong p = let right : (answered x).times ≡ 2 = ap (λ (s : Settled). s.times) p in omega arith

  -- three channels taken for two
  pub is_usual_not_for_three : Never is-usual-kinds.ps is-usual-kinds.r is-usual-reads.Post κs (0x56, (3, (0, tt))) (λ x v. x ≡ true)
  unfolding unfolded
  is_usual_not_for_three x v wrong p = true≢false (sym wrong ∙ p)

  -- no call usual
  pub is_usual_not_always_false : Never is-usual-kinds.ps is-usual-kinds.r is-usual-reads.Post κs (0x56, (2, (0, tt))) (λ x v. x ≡ false)
  unfolding unfolded
  is_usual_not_always_false x v wrong p = true≢false (sym p ∙ wrong)

  -- one channel where there are two
  pub usual_not_always_mono : Never usual-kinds.ps usual-kinds.r usual-reads.Post κs (true, tt) (λ x v. x.channels ≡ 1)
  unfolding unfolded
  usual_not_always_mono x v wrong p = let right : x.channels ≡ 2 = ap (λ (s : Settled). s.channels) p in omega arith

  -- as many times as slots with two channels too
  pub usual_not_12_times : Never usual-kinds.ps usual-kinds.r usual-reads.Post κs (true, tt) (λ x v. x.times ≡ 12)
  unfolding unfolded
  usual_not_12_times x v wrong p = let right : x.times ≡ 6 = ap (λ (s : Settled). s.times) p in omega arith
