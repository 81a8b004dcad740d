-- A SETUP, and a connection request with the endpoint reference 0.
-- Assumes nothing.
use mathlib.Core.Bool.{true, false, ◌||◌}
use mathlib.Core.List.{List, [], ◌∷◌}
use mathlib.Core.Path.{◌≡◌, refl, sym, ◌∙◌, ap}
use Prim.Native.Nat.{ℕ, ◌+◌, ◌*◌, ◌<◌}
use native.Mathlib.Omega.{arith}
use borrow.Author.Tests.{eqb-false, leb-false}
use lib.Dec.{eqb, leb, ltb}
use lib.ListN.{length, get_or, get_or-eq_default}
use Rattle.runs.proofs.Laws.{split, neither}
use Rattle.runs.specs.Runs.{number_of}
use Rattle.management.specs.declared.ports.Enquiry.{Enquiry}
use Rattle.management.specs.Demands.{asked_by, reference_in}
use Rattle.management.specs.Equipment.{
  Outcome,
  replied,
  connected_to,
  connected,
  disconnected_from,
  disconnected,
  equipment_of,
}
use Rattle.management.specs.Ports.{port_count, first_reference, identified}
use Rattle.management.specs.Status.{status_message}
use Rattle.management.proofs.Parts.{part_written}
use Rattle.management.proofs.Refused.{by_type}
use Rattle.management.proofs.Requests.{connected_zero}

-- a SETUP is for the party that the network calls 0, and its port then has a first endpoint reference by which the call can be ended
abbrev pub SetUp : Outcome → Type 0
SetUp o = o.network ≡ 1 → (o.reference ≡ 0) × (first_reference o.ports o.port ≡ 0 → ⊥)

another : {n : ℕ} {P : Type 0} → (n ≡ 1 → ⊥) → n ≡ 1 → P
another other is = absurd (other is)

module _ (ports : List ℕ) (asked : Enquiry) (high low room : ℕ) where
  replied_set_up : SetUp (replied ports asked room)
  unfolding replied
  replied_set_up =
      split (ltb room (length (status_message ports asked)))
      (λ t. rw t (another {n = 0} (λ e. omega arith)))
      (λ t. rw t (another {n = 0} (λ e. omega arith)))

  connected_set_up : SetUp (connected ports asked (high ∷ low ∷ []) room)
  unfolding connected connected_to
  connected_set_up =
      split (eqb (number_of (high ∷ low ∷ [])) 0 || leb (port_count ports) (identified ports asked true))
      (λ t. rw t replied_set_up)
      (λ t.
      let both = neither (eqb (number_of (high ∷ low ∷ [])) 0) _ t in
      let inside : identified ports asked true < port_count ports = leb-false _ _ both.1 in
      let some : number_of (high ∷ low ∷ []) ≡ 0 → ⊥ = eqb-false _ _ both.0 in
      rw t
      (split (eqb (first_reference ports (identified ports asked true)) 0)
      (λ u.
      rw u
      (λ is. (
        refl,
        λ none. some (sym (ap number_of (part_written ports (identified ports asked true * 28 + 6) (high ∷ low ∷ []) (omega arith))) ∙ none),
      )))
      (λ u. rw u (another {n = 2} (λ e. omega arith)))))

  disconnected_set_up : SetUp (disconnected ports asked (high ∷ low ∷ []) room)
  unfolding disconnected disconnected_from
  disconnected_set_up =
      split (leb (port_count ports) (identified ports asked false))
      (λ t. rw t replied_set_up)
      (λ t.
      rw t
      (split (eqb (number_of (high ∷ low ∷ [])) 0xFFFF)
      (λ u. rw u (another {n = 3} (λ e. omega arith)))
      (λ u. rw u (another {n = 4} (λ e. omega arith)))))

module _ (ports message : List ℕ) (room : ℕ) where
  pub set_up : SetUp (equipment_of ports message room)
  set_up =
      by_type ports message room SetUp
      (λ none. another {n = 0} (λ e. omega arith))
      (λ some one. replied_set_up ports (asked_by message) 0 0 room)
      (λ some two. connected_set_up ports (asked_by message) (get_or message 5 0) (get_or message 6 0) room)
      (λ some three. disconnected_set_up ports (asked_by message) (get_or message 5 0) (get_or message 6 0) room)
      (λ some one two three. another {n = 0} (λ e. omega arith))

  -- step a's "otherwise", as where no port is identified
  pub zero_replied : get_or message 0 0 ≡ 2 → reference_in message ≡ 0 → equipment_of ports message room ≡ replied ports (asked_by message) room
  zero_replied =
      by_type ports message room (λ o. get_or message 0 0 ≡ 2 → reference_in message ≡ 0 → o ≡ replied ports (asked_by message) room)
      (λ none type. absurd (let z = get_or-eq_default message 0 {n = 0} (omega arith) in omega arith))
      (λ some one type. absurd (omega (arith, one, type)))
      (λ some two type zero. connected_zero ports (asked_by message) (get_or message 5 0 ∷ get_or message 6 0 ∷ []) refl zero room)
      (λ some three type. absurd (omega (arith, three, type)))
      (λ some one two three type. absurd (two type))
