-- Laws of a reply: what is written where the answer has room, and what the call then leaves.
-- Assumes nothing.
use mathlib.Core.Bool.{Bool}
use mathlib.Core.List.{List}
use mathlib.Core.Path.{◌≡◌, refl}
use Prim.Native.Nat.{ℕ, ◌≤◌, ◌<◌}
use native.Mathlib.Omega.{arith}
use borrow.Author.Tests.{lt-ltb, le-ltb}
use lib.Dec.{eqb, ltb}
use lib.ListN.{length, replicate}
use Rattle.runs.proofs.Laws.{split}
use Rattle.runs.specs.Runs.{over}
use Rattle.management.specs.declared.ports.Enquiry.{Enquiry}
use Rattle.management.specs.Code.{Replies, status_length}
use Rattle.management.specs.Equipment.{Leaves, replied}
use Rattle.management.specs.Status.{status_message}
use Rattle.management.proofs.Messages.{length_status}

pub no_room : (status answer : List ℕ) → length answer < length status → Replies status answer 0 answer
no_room status answer short = record { counted = rw (lt-ltb _ _ short); left = rw (lt-ltb _ _ short) }

pub with_room : (status answer : List ℕ) {octets : ℕ} {answer₁ : List ℕ} → length status ≤ length answer → octets ≡ length status
    → answer₁ ≡ over status answer → Replies status answer octets answer₁
with_room status answer room count is = record { counted = rw (le-ltb _ _ room) count; left = rw (le-ltb _ _ room) is }

-- a status message has two octets at least
some_octets : (ports : List ℕ) (asked : Enquiry) → 2 ≤ length (status_message ports asked)
unfolding status_length
some_octets ports asked =
    rw (length_status ports asked)
    (split (eqb asked.subsystem_code 0)
    (λ t. rw t (omega arith))
    (λ t. split (eqb asked.subsystem_code 1) (λ u. rw (t, u) (omega arith)) (λ u. rw (t, u) (omega arith))))

module _ (ports : List ℕ) (asked : Enquiry) (answer : List ℕ) {octets : ℕ} {answer₁ : List ℕ}
    (replies : Replies (status_message ports asked) answer octets answer₁) where
  abbrev too_short : Bool
  too_short = ltb (length answer) (length (status_message ports asked))

  pub left_short : octets ≡ 0 → Leaves (replied ports asked (length answer)) answer 25 ports answer₁ (replicate 4 0)
  unfolding replied over
  left_short none =
      split too_short
      (λ t. rw t (record { refused = refl; leaves = refl; writes = rw t at replies.left; reports = refl }))
      (λ t. absurd (let all = rw t at replies.counted in omega (arith, all, some_octets ports asked)))
