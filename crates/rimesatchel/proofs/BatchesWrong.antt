-- Wrong answers of the calls over many records: their contracts rule them out. Stated over the contracts themselves.
-- Assumes nothing.
use mathlib.Core.List.{List, [], ◌∷◌}
use mathlib.Core.Path.{◌≡◌, ap}
use Prim.Native.Nat.{ℕ}
use native.Mathlib.Omega.{arith}
use contract.Lifetimes.{Lfts}
use lib.ListN.{get_or, replicate}
use Rattle.runs.proofs.Wrong.{Never, Place, lent, lent_mut}
use Rattle.reading.specs.Heard.{end_by}
use Rattle.hearing.proofs.ReceivingWrong as receiving
use Rattle.hearing.proofs.Wrong as hearing
use Rattle.rimesatchel.specs.Boxes.{yes_no, count_of, count_octets, receiver_of, receiver_octets}
use Rattle.rimesatchel.proofs.batches.rime_judge_log.Kinds as judge-log-kinds
use Rattle.rimesatchel.proofs.batches.rime_judge_log.Reads as judge-log-reads
use Rattle.rimesatchel.proofs.batches.rime_receive_log.Kinds as receive-log-kinds
use Rattle.rimesatchel.proofs.batches.rime_receive_log.Reads as receive-log-reads

-- every definition on the way down to the numbers
unfoldable unfolded : Unit {0}
unfolding hearing.unfolded receiving.unfolded end_by yes_no count_of count_octets receiver_of receiver_octets
unfolded = tt

module _ (κs : Lfts 4) (p q r s : Place) where
  -- a receiver of 02 hex that was started, whose yes is 7; the log holds no record; reports and counts are lent as nines
  abbrev Judging : ℕ → (ℕ → List ℕ → List ℕ → Type 0) → Type 0
  Judging format Wrong =
      Never judge-log-kinds.ps judge-log-kinds.r judge-log-reads.Post κs
      (lent_mut p (format ∷ 1 ∷ 0 ∷ 7 ∷ replicate 5 0), (lent q (0 ∷ []), (0, (lent_mut r (replicate 5 9), (lent_mut s (replicate 3 9), tt)))))
      (λ x v. Wrong x v.0 v.1.1.1.1.0)

  -- a yes that isn't 1 left so, since no record was taken
  pub yes_not_left : Judging 0x02 (λ x left counts. get_or left 3 0 ≡ 7)
  unfolding unfolded
  yes_not_left x v wrong j = let right : get_or v.0 3 0 ≡ 1 = ap (λ (l : List ℕ). get_or l 3 0) j.leaves in omega arith

  -- a refused call's counts left as they were lent_mut
  pub refused_counts_not_left : Judging 0x53 (λ x left counts. get_or counts 0 0 ≡ 9)
  unfolding unfolded
  refused_counts_not_left x v wrong j =
      let right : get_or v.1.1.1.1.0 0 0 ≡ 0 = ap (λ (l : List ℕ). get_or l 0 0) j.counted in omega arith

  -- a refused call's state written
  pub refused_state_not_written : Judging 0x53 (λ x left counts. get_or left 3 0 ≡ 1)
  unfolding unfolded
  refused_state_not_written x v wrong j = let right : get_or v.0 3 0 ≡ 7 = ap (λ (l : List ℕ). get_or l 3 0) j.leaves in omega arith

module _ (κs : Lfts 6) (p q r s t u : Place) where
  -- the same receiver, and a log that holds no record; three runs of four entries, and counts lent as nines
  abbrev Receiving : ℕ → (ℕ → List ℕ → List ℕ → Type 0) → Type 0
  Receiving format Wrong =
      Never receive-log-kinds.ps receive-log-kinds.r receive-log-reads.Post κs (
        lent_mut p (format ∷ 1 ∷ 0 ∷ 7 ∷ replicate 5 0),
        (
          lent q (0 ∷ []),
          (0, (lent_mut r (replicate 4 9), (lent_mut s (replicate 4 9), (lent_mut t (replicate 4 9), (lent_mut u (replicate 9 9), tt))))),
        ),
      )
      (λ x v. Wrong x v.0 v.1.1.1.1.1.1.0)

  -- a yes that isn't 1 left so, since no record was taken
  pub received_yes_not_left : Receiving 0x02 (λ x left counts. get_or left 3 0 ≡ 7)
  unfolding unfolded
  received_yes_not_left x v wrong j = let right : get_or v.0 3 0 ≡ 1 = ap (λ (l : List ℕ). get_or l 3 0) j.leaves in omega arith

  -- entries and the stop swapped in the counts
  pub entries_and_stop_not_swapped : Receiving 0x02 (λ x left counts. get_or counts 1 0 ≡ 12)
  unfolding unfolded
  entries_and_stop_not_swapped x v wrong j =
      let right : get_or v.1.1.1.1.1.1.0 1 0 ≡ 0 = ap (λ (l : List ℕ). get_or l 1 0) j.counted in omega arith

  -- a refused call's counts left as they were lent_mut
  pub refused_batch_counts_not_left : Receiving 0x53 (λ x left counts. get_or counts 0 0 ≡ 9)
  unfolding unfolded
  refused_batch_counts_not_left x v wrong j =
      let right : get_or v.1.1.1.1.1.1.0 0 0 ≡ 0 = ap (λ (l : List ℕ). get_or l 0 0) j.counted in omega arith
