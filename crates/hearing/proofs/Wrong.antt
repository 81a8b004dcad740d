-- Wrong answers of judging: the contract rules them out. Stated over the contract itself.
-- Assumes nothing.
use mathlib.Core.Bool.{false}
use mathlib.Core.List.{List, [], ◌∷◌, ◌++◌, flat_map}
use mathlib.Core.Path.{◌≡◌, ap}
use Prim.Native.Nat.{ℕ}
use native.Mathlib.Omega.{arith}
use contract.Lifetimes.{Lfts}
use lib.ListN.{get_or, replicate}
use Rattle.runs.specs.Refusals.{or_else}
use Rattle.runs.specs.Runs.{over}
use Rattle.runs.proofs.Wrong.{Never, Place, lent, lent_mut}
use Rattle.cell_log.proofs.Wrong as log
use Rattle.receiver.specs.declared.Receiver.{Receiver}
use Rattle.receiver.proofs.Wrong as receiver
use Rattle.reading.proofs.Computed as reading
use Rattle.hearing.specs.declared.judging.Judged.{Judged}
use Rattle.hearing.specs.Judging.{report_of}
use Rattle.hearing.proofs.judging.judge.Kinds as judge-kinds
use Rattle.hearing.proofs.judging.judge.Reads as judge-reads

-- every definition on the way down to the numbers
unfoldable pub unfolded : Unit {0}
unfolding over or_else flat_map log.unfolded receiver.unfolded reading.unfolded report_of
unfolded = tt

-- a fresh receiver of one channel
abbrev fresh : ℕ → Receiver
fresh format = record { format = format; channels = 1; order = 0; started = false; last = 0; count = 0 }

-- a record of zeros, which a format without overhead takes and one with overhead refuses 8
abbrev quiet : List ℕ
quiet = replicate 49 0

module _ (κs : Lfts 2) (p q : Place) where
  -- nine octets of room, all of them nines: one record
  abbrev Judging : ℕ → List ℕ → (Judged → List ℕ → Type 0) → Type 0
  Judging format log Wrong =
      Never judge-kinds.ps judge-kinds.r judge-reads.Post κs (fresh format, (lent p log, (0, (lent_mut q (replicate 9 9), tt))))
      (λ x v. Wrong x v.1.1.1.0)

  -- the stop of a cut record told as the end
  pub cut_not_the_end : Judging 0x02 (0 ∷ 0 ∷ []) (λ x reports. x.stop ≡ 0)
  unfolding unfolded
  cut_not_the_end x v wrong j = let right : x.stop ≡ 12 = ap (λ (r : Judged). r.stop) j.answered in omega arith

  -- no room told as the end
  pub full_not_the_end : Judging 0x02 (quiet ++ quiet) (λ x reports. x.stop ≡ 0)
  unfolding unfolded
  full_not_the_end x v wrong j = let right : x.stop ≡ 10 = ap (λ (r : Judged). r.stop) j.answered in omega arith

  -- a second record judged where there is room for one
  pub one_record_not_two : Judging 0x02 (quiet ++ quiet) (λ x reports. x.next ≡ 98)
  unfolding unfolded
  one_record_not_two x v wrong j = let right : x.next ≡ 49 = ap (λ (r : Judged). r.next) j.answered in omega arith

  -- a refused record reported as taken
  pub refusal_reported : Judging 0x56 quiet (λ x reports. get_or reports 0 0 ≡ 0)
  unfolding unfolded
  refusal_reported x v wrong j = let right : get_or v.1.1.1.0 0 0 ≡ 8 = ap (λ (l : List ℕ). get_or l 0 0) j.reports_after in omega arith

  -- a refused call that writes
  pub refused_call_writes_nothing : Judging 0x53 quiet (λ x reports. get_or reports 0 0 ≡ 0)
  unfolding unfolded
  refused_call_writes_nothing x v wrong j =
      let right : get_or v.1.1.1.0 0 0 ≡ 9 = ap (λ (l : List ℕ). get_or l 0 0) j.reports_after in omega arith
