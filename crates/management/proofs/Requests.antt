-- Laws of the equipment's deeds: what the network is asked for, and which message is which.
-- Assumes nothing.
use mathlib.Core.Bool.{true, false}
use mathlib.Core.List.{List, [], ◌∷◌}
use mathlib.Core.Path.{◌≡◌, refl, sym}
use Prim.Native.Nat.{ℕ, ◌<◌}
use native.Mathlib.Omega.{arith}
use borrow.Author.Tests.{eq-eqb, ne_eqb, lt-leb}
use lib.Dec.{eqb}
use lib.ListN.{length, get_or}
use Rattle.runs.proofs.Laws.{split}
use Rattle.runs.specs.Runs.{tab, over, number_of}
use Rattle.management.specs.declared.ports.Enquiry.{Enquiry}
use Rattle.management.specs.Code.{Asks, asked_at}
use Rattle.management.specs.Equipment.{
  Outcome,
  Leaves,
  nothing,
  replied,
  connected_to,
  connected,
  disconnected_from,
  disconnected,
  equipment_of,
}
use Rattle.management.specs.Ports.{port_count, first_reference, identified}
use Rattle.management.specs.Tables.{status_enquiry, audio_connection_request, audio_disconnection_request}
use Rattle.management.proofs.Parts.{get_or_brought, part_brought}

module _ (ports message : List ℕ) (room : ℕ) where
  pub no_octets : length message ≡ 0 → equipment_of ports message room ≡ nothing ports 24
  unfolding equipment_of
  no_octets none = rw (eq-eqb (length message) 0 none)

  module _ (some : length message ≡ 0 → ⊥) where
    pub enquiry : {asked : Enquiry} {code : ℕ} → get_or message 0 0 ≡ 1 → asked ≡ asked_at message code 2 → code ≡ get_or message 1 0
        → equipment_of ports message room ≡ replied ports asked room
    unfolding equipment_of status_enquiry asked_at
    enquiry one is code =
        rw (
          is,
          code,
          ne_eqb (length message) 0 some,
          eq-eqb (get_or message 0 0) 1 one,
          get_or_brought 6 message {k = 1} (omega arith),
          get_or_brought 6 message {k = 2} (omega arith),
          get_or_brought 6 message {k = 3} (omega arith),
          get_or_brought 6 message {k = 4} (omega arith),
          get_or_brought 6 message {k = 5} (omega arith),
        )

    pub connection : {asked : Enquiry} {high low : ℕ} → get_or message 0 0 ≡ 2 → asked ≡ asked_at message 0 1 → high ≡ get_or message 5 0
        → low ≡ get_or message 6 0 → equipment_of ports message room ≡ connected ports asked (high ∷ low ∷ []) room
    unfolding equipment_of audio_connection_request asked_at tab
    connection two is high low =
        rw (
          is,
          high,
          low,
          ne_eqb (length message) 0 some,
          two,
          get_or_brought 27 message {k = 1} (omega arith),
          get_or_brought 27 message {k = 2} (omega arith),
          get_or_brought 27 message {k = 3} (omega arith),
          get_or_brought 27 message {k = 4} (omega arith),
          part_brought 27 message 5 2 (omega arith),
        )

    pub disconnection : {asked : Enquiry} {high low : ℕ} → get_or message 0 0 ≡ 3 → asked ≡ asked_at message 0 1 → high ≡ get_or message 5 0
        → low ≡ get_or message 6 0 → equipment_of ports message room ≡ disconnected ports asked (high ∷ low ∷ []) room
    unfolding equipment_of audio_disconnection_request asked_at tab
    disconnection three is high low =
        rw (
          is,
          high,
          low,
          ne_eqb (length message) 0 some,
          three,
          get_or_brought 7 message {k = 1} (omega arith),
          get_or_brought 7 message {k = 2} (omega arith),
          get_or_brought 7 message {k = 3} (omega arith),
          get_or_brought 7 message {k = 4} (omega arith),
          part_brought 7 message 5 2 (omega arith),
        )

    pub not_recognised : (get_or message 0 0 ≡ 1 → ⊥) → (get_or message 0 0 ≡ 2 → ⊥) → (get_or message 0 0 ≡ 3 → ⊥)
        → equipment_of ports message room ≡ nothing ports 0
    unfolding equipment_of
    not_recognised one two three =
        rw (
          ne_eqb (length message) 0 some,
          ne_eqb (get_or message 0 0) 1 one,
          ne_eqb (get_or message 0 0) 2 two,
          ne_eqb (get_or message 0 0) 3 three,
        )

-- the network is asked, and nothing is answered
Quiet : Outcome → Type 0
Quiet o = (o.refusal ≡ 0) × (o.answer ≡ [])

quiet_asks : (o : Outcome) → Quiet o → {ports₁ report₁ : List ℕ} → Asks o ports₁ report₁ → (answer : List ℕ)
    → Leaves o answer 0 ports₁ answer report₁
unfolding Quiet over
quiet_asks o quiet asks answer =
    record { refused = sym quiet.0; leaves = asks.leaves; writes = rw quiet.1; reports = asks.reports }

module _ (ports : List ℕ) (asked : Enquiry) (reference : List ℕ) where
  quiet_connected : (port : ℕ) → Quiet (connected_to ports reference port)
  unfolding Quiet connected_to
  quiet_connected port = split (eqb (first_reference ports port) 0) (λ t. rw t (refl, refl)) (λ t. rw t (refl, refl))

  quiet_disconnected : (port : ℕ) → Quiet (disconnected_from ports reference port)
  unfolding Quiet disconnected_from
  quiet_disconnected port = split (eqb (number_of reference) 0xFFFF) (λ t. rw t (refl, refl)) (λ t. rw t (refl, refl))

  pub connected_zero : {n : ℕ} → n ≡ number_of reference → n ≡ 0 → (room : ℕ)
      → connected ports asked reference room ≡ replied ports asked room
  unfolding connected
  connected_zero {n} number zero room = rw (← number, eq-eqb n 0 zero)

  pub connected_port : {n port : ℕ} {ports₁ report₁ : List ℕ} → n ≡ number_of reference → (n ≡ 0 → ⊥) → port ≡ identified ports asked true
      → port < port_count ports → Asks (connected_to ports reference port) ports₁ report₁ → (answer : List ℕ)
      → Leaves (connected ports asked reference (length answer)) answer 0 ports₁ answer report₁
  unfolding connected
  connected_port {n} {port} number some is inside asks answer =
      rw (← number, ne_eqb n 0 some, ← is, lt-leb (port_count ports) port inside)
      (quiet_asks (connected_to ports reference port) (quiet_connected port) asks answer)

  pub disconnected_port : {port : ℕ} {ports₁ report₁ : List ℕ} → port ≡ identified ports asked false → port < port_count ports
      → Asks (disconnected_from ports reference port) ports₁ report₁ → (answer : List ℕ)
      → Leaves (disconnected ports asked reference (length answer)) answer 0 ports₁ answer report₁
  unfolding disconnected
  disconnected_port {port} is inside asks answer =
      rw (← is, lt-leb (port_count ports) port inside)
      (quiet_asks (disconnected_from ports reference port) (quiet_disconnected port) asks answer)
