-- Wrong answers of sending many cells: the contract rules them out. Stated over the contract itself.
-- Assumes nothing.
use mathlib.Core.Bool.{true}
use mathlib.Core.List.{List, [], ◌∷◌}
use mathlib.Core.Path.{◌≡◌, ap}
use Prim.Native.Nat.{ℕ}
use native.Mathlib.Omega.{arith}
use contract.Lifetimes.{Lfts}
use lib.ListN.{get_or, replicate}
use Rattle.runs.proofs.Wrong.{Never, Place, lent, lent_mut}
use Rattle.sender.proofs.ManyWrong as sender
use Rattle.rimesatchel.specs.Boxes.{yes_no, sender_of, sender_octets}
use Rattle.rimesatchel.proofs.many.rime_send_log.Kinds as send-log-kinds
use Rattle.rimesatchel.proofs.many.rime_send_log.Reads as send-log-reads

-- every definition on the way down to the numbers
unfoldable unfolded : Unit {0}
unfolding sender.unfolded yes_no sender_of sender_octets
unfolded = tt

module _ (κs : Lfts 5) (p q r s t : Place) where
  -- a sender that has sent a cell, whose yes is 7, and runs of eight entries; the log has so many octets, all of them nines, and the
  -- counts are lent as nines
  abbrev Sending : ℕ → ℕ → (ℕ → List ℕ → List ℕ → List ℕ → Type 0) → Type 0
  Sending format octets Wrong =
      Never send-log-kinds.ps send-log-kinds.r send-log-reads.Post κs (
        lent_mut p (format ∷ 1 ∷ 0 ∷ 1 ∷ 0 ∷ 0 ∷ 7 ∷ []),
        (
          true,
          (
            lent q (replicate 8 1),
            (
              lent r (replicate 8 0),
              (
                lent_mut s (replicate octets 9),
                (0, (lent_mut t (replicate 4 9), tt)),
              ),
            ),
          ),
        ),
      )
      (λ x v. Wrong x v.0 v.1.1.1.1.0 v.1.1.1.1.1.1.0)

  -- a yes that isn't 1 left so, since no cell was sent
  pub yes_not_left : Sending 0x5A 48 (λ x left log counts. get_or left 6 0 ≡ 7)
  unfolding unfolded
  yes_not_left x v wrong j = let right : get_or v.0 6 0 ≡ 1 = ap (λ (l : List ℕ). get_or l 6 0) j.leaves in omega arith

  -- the state of a cell that didn't fit
  pub no_room_not_counted : Sending 0x5A 48 (λ x left log counts. get_or left 3 0 ≡ 2)
  unfolding unfolded
  no_room_not_counted x v wrong j = let right : get_or v.0 3 0 ≡ 1 = ap (λ (l : List ℕ). get_or l 3 0) j.leaves in omega arith

  -- the first octets of a cell that doesn't fit whole
  pub half_not_written : Sending 0x5A 48 (λ x left log counts. get_or log 0 0 ≡ 0)
  unfolding unfolded
  half_not_written x v wrong j =
      let right : get_or v.1.1.1.1.0 0 0 ≡ 9 = ap (λ (l : List ℕ). get_or l 0 0) j.writes in omega arith

  -- a refused call's counts left as they were lent
  pub refused_counts_not_left : Sending 0x53 49 (λ x left log counts. get_or counts 0 0 ≡ 9)
  unfolding unfolded
  refused_counts_not_left x v wrong j =
      let right : get_or v.1.1.1.1.1.1.0 0 0 ≡ 0 = ap (λ (l : List ℕ). get_or l 0 0) j.counted in omega arith

  -- a refused call's state written
  pub refused_state_not_written : Sending 0x53 49 (λ x left log counts. get_or left 6 0 ≡ 1)
  unfolding unfolded
  refused_state_not_written x v wrong j = let right : get_or v.0 6 0 ≡ 7 = ap (λ (l : List ℕ). get_or l 6 0) j.leaves in omega arith
