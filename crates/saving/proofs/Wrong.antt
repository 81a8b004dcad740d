-- Wrong tools: the contract of the salvage rules each of them out, the first four at every log. Stated over the contract itself.
-- Assumes nothing.
use mathlib.Core.List.{List, [], ◌∷◌}
use mathlib.Core.Path.{◌≡◌, ap}
use Prim.Native.Nat.{ℕ, ◌+◌, ◌<◌}
use native.Mathlib.Omega.{arith}
use contract.Lifetimes.{Lfts}
use lib.ListN.{length, get_or, take, replicate}
use Rattle.runs.specs.Refusals.{or_else}
use Rattle.runs.specs.Runs.{over}
use Rattle.runs.proofs.Wrong.{Never, Place, lent, lent_mut}
use Rattle.cell_log.proofs.Wrong as log
use Rattle.receiver.proofs.Wrong as receiver
use Rattle.reading.specs.Records.{octets_in}
use Rattle.reading.specs.Totals.{those}
use Rattle.reading.proofs.Computed as reading
use Rattle.saving.specs.declared.Salvaged.{Salvaged}
use Rattle.saving.specs.Salvage.{new_log, list_from, left_out_of, salvage_refusal, salvaged_of, saved_into}
use Rattle.saving.proofs.Demands.{header_taken, wrote_new, octets_counted}
use Rattle.saving.proofs.Laws.{none_left_out}
use Rattle.saving.proofs.Refusals.{out_stays, list_stays}
use Rattle.saving.proofs.salvage.Kinds as salvage-kinds
use Rattle.saving.proofs.salvage.Reads as salvage-reads

-- every definition on the way down to the numbers
unfoldable pub unfolded : Unit {0}
unfolding over or_else log.unfolded receiver.unfolded reading.unfolded those octets_in new_log list_from salvage_refusal salvaged_of saved_into
unfolded = tt

-- a header, a record of zeros, which the receiver refuses 8, and five octets of another
abbrev torn : List ℕ
torn = 0x56 ∷ 2 ∷ 0 ∷ replicate 54 0

module _ (κs : Lfts 3) (p q r : Place) where
  abbrev Saving : List ℕ → List ℕ → List ℕ → (Salvaged → List ℕ → List ℕ → Type 0) → Type 0
  Saving log out list Wrong =
      Never salvage-kinds.ps salvage-kinds.r salvage-reads.Post κs (lent p log, (lent_mut q out, (lent_mut r list, tt)))
      (λ x v. Wrong x v.1.0 v.1.1.0)

  module _ (log out list : List ℕ) where
    -- records are left out, and the octets of the new log reported as if they were kept
    pub left_out_not_counted_as_kept : Saving log out list
        (λ x new noted. (x.refusal ≡ 0) × (0 < x.left_out) × (x.octets + x.cut ≡ length log))
    left_out_not_counted_as_kept x v wrong s = omega (arith, octets_counted s wrong.0, wrong.1, wrong.2)

    -- the new log is written, and then the list found too short; or the other way round
    pub nothing_written_before_21 : Saving log out list (λ x new noted. (x.refusal ≡ 21) × (new ≡ out → ⊥))
    nothing_written_before_21 x v wrong s = wrong.1 (out_stays s (λ z. omega (arith, z, wrong.0)))

    pub nothing_listed_before_21 : Saving log out list (λ x new noted. (x.refusal ≡ 21) × (noted ≡ list → ⊥))
    nothing_listed_before_21 x v wrong s = wrong.1 (list_stays s (λ z. omega (arith, z, wrong.0)))

    -- a record is kept that the receiver refuses when it runs over the new log
    pub refused_record_not_kept : Saving log out list (λ x new noted. (x.refusal ≡ 0) × (0 < left_out_of (take x.octets new)))
    refused_record_not_kept x v wrong s =
        omega (arith, wrong.1, ap (λ (l : List ℕ). left_out_of l) (wrote_new s wrong.0), none_left_out log (header_taken s wrong.0))

  abbrev Torn : (Salvaged → List ℕ → List ℕ → Type 0) → Type 0
  Torn = Saving torn (replicate 3 9) (9 ∷ 9 ∷ 9 ∷ [])

  -- refused although both are just long enough
  pub not_always_refused : Torn (λ x new noted. x.refusal ≡ 0 → ⊥)
  unfolding unfolded
  not_always_refused x v wrong s = wrong (ap (λ (a : Salvaged). a.refusal) s.answered)

  -- the record that is left out counted as cut
  pub whole_record_not_cut : Torn (λ x new noted. x.cut ≡ 54)
  unfolding unfolded
  whole_record_not_cut x v wrong s = let right : x.cut ≡ 5 = ap (λ (a : Salvaged). a.cut) s.answered in omega arith

  -- records counted from 1
  pub records_counted_from_0 : Torn (λ x new noted. get_or noted 0 9 ≡ 1)
  unfolding unfolded
  records_counted_from_0 x v wrong s =
      let right : get_or v.1.1.0 0 9 ≡ 0 = ap (λ (l : List ℕ). get_or l 0 9) s.list_after in omega arith

  -- the refusal lost
  pub refusal_listed : Torn (λ x new noted. get_or noted 1 9 ≡ 0)
  unfolding unfolded
  refusal_listed x v wrong s =
      let right : get_or v.1.1.0 1 9 ≡ 8 = ap (λ (l : List ℕ). get_or l 1 9) s.list_after in omega arith

  -- what is past the list overwritten
  pub past_the_list_stays : Torn (λ x new noted. get_or noted 2 0 ≡ 0)
  unfolding unfolded
  past_the_list_stays x v wrong s =
      let right : get_or v.1.1.0 2 0 ≡ 9 = ap (λ (l : List ℕ). get_or l 2 0) s.list_after in omega arith
