-- Which refusal the equipment gives, and that a refused call does nothing.
-- Assumes nothing.
use mathlib.Core.Bool.{Bool, true, false, cond, ◌||◌}
use mathlib.Core.List.{List, [], ◌∷◌}
use mathlib.Core.Path.{◌≡◌, refl, ◌∙◌, ap}
use Prim.Native.Nat.{ℕ}
use borrow.Author.Tests.{eq-eqb, ne_eqb, eqb-true, eqb-false}
use lib.Dec.{eqb, leb, ltb}
use lib.ListN.{length, get_or}
use Rattle.runs.proofs.Laws.{split}
use Rattle.runs.specs.Runs.{over, number_of}
use Rattle.management.specs.declared.ports.Enquiry.{Enquiry}
use Rattle.management.specs.Code.{asked_at, status_length}
use Rattle.management.specs.Demands.{
  EquipmentCall,
  Equips,
  NothingDone,
  asked_by,
  answer_due,
  answer_octets,
  equipment_refusal,
}
use Rattle.management.specs.Equipment.{
  Outcome,
  nothing,
  asks_network,
  replied,
  connected_to,
  connected,
  disconnected_from,
  disconnected,
  equipment_of,
  report_of,
}
use Rattle.management.specs.Ports.{port_count, first_reference, identified}
use Rattle.management.specs.Status.{status_message}
use Rattle.management.proofs.Messages.{length_status}
use Rattle.management.proofs.Requests.{no_octets, enquiry, connection, disconnection, not_recognised}

-- what the messages ask for, as the code reads them
asked_enquiry : (message : List ℕ) → get_or message 0 0 ≡ 1 → asked_by message ≡ asked_at message (get_or message 1 0) 2
unfolding asked_by asked_at
asked_enquiry message one = rw one

asked_request : (message : List ℕ) → (get_or message 0 0 ≡ 1 → ⊥) → asked_by message ≡ asked_at message 0 1
unfolding asked_by asked_at
asked_request message other = rw (ne_eqb (get_or message 0 0) 1 other)

module _ (ports : List ℕ) (asked : Enquiry) (reference : List ℕ) (room : ℕ) where
  -- 25 where the answer is too short
  abbrev short : ℕ
  short = cond (ltb room (answer_octets asked.subsystem_code)) 25 0

  replied_refusal : (replied ports asked room).refusal ≡ short
  unfolding replied status_length
  replied_refusal =
      let long : length (status_message ports asked) ≡ answer_octets asked.subsystem_code = length_status ports asked in
      rw long
      (split (ltb room (answer_octets asked.subsystem_code)) (λ t. rw t) (λ t. rw t))

  -- step a of a connection request comes to its "otherwise"
  abbrev otherwise : Bool
  otherwise = eqb (number_of reference) 0 || leb (port_count ports) (identified ports asked true)

  connected_refusal : (connected ports asked reference room).refusal ≡ cond otherwise short 0
  unfolding connected connected_to
  connected_refusal =
      split otherwise
      (λ t. rw t replied_refusal)
      (λ t. rw t (split (eqb (first_reference ports (identified ports asked true)) 0) (λ u. rw u) (λ u. rw u)))

  disconnected_refusal : (disconnected ports asked reference room).refusal ≡ cond (leb (port_count ports) (identified ports asked false)) short 0
  unfolding disconnected disconnected_from
  disconnected_refusal =
      split (leb (port_count ports) (identified ports asked false))
      (λ t. rw t replied_refusal)
      (λ t. rw t (split (eqb (number_of reference) 0xFFFF) (λ u. rw u) (λ u. rw u)))

  -- a request is replied to, or the network is asked
  connected_ways : (P : Outcome → Type 0) → P (replied ports asked room)
      → ((ports₁ : List ℕ) (network port number : ℕ) → P (asks_network ports₁ network port number)) → P (connected ports asked reference room)
  unfolding connected connected_to
  connected_ways P reply asks =
      split otherwise
      (λ t. rw t reply)
      (λ t. rw t (split (eqb (first_reference ports (identified ports asked true)) 0) (λ u. rw u (asks _ _ _ _)) (λ u. rw u (asks _ _ _ _))))

  disconnected_ways : (P : Outcome → Type 0) → P (replied ports asked room)
      → ((ports₁ : List ℕ) (network port number : ℕ) → P (asks_network ports₁ network port number)) → P (disconnected ports asked reference room)
  unfolding disconnected disconnected_from
  disconnected_ways P reply asks =
      split (leb (port_count ports) (identified ports asked false))
      (λ t. rw t reply)
      (λ t. rw t (split (eqb (number_of reference) 0xFFFF) (λ u. rw u (asks _ _ _ _)) (λ u. rw u (asks _ _ _ _))))

-- a refused call does nothing
abbrev Nothing : List ℕ → Outcome → Type 0
Nothing ports o = (o.refusal ≡ 0 → ⊥) → o ≡ nothing ports o.refusal

replied_nothing : (ports : List ℕ) (asked : Enquiry) (room : ℕ) → Nothing ports (replied ports asked room)
unfolding replied
replied_nothing ports asked room =
    split (ltb room (length (status_message ports asked))) (λ t. rw t (λ some. refl)) (λ t. rw t (λ some. absurd (some refl)))

-- an answer that is written is the status message for what is asked
abbrev Answers : List ℕ → Enquiry → Outcome → Type 0
Answers ports asked o = (length o.answer ≡ 0 → ⊥) → o.answer ≡ status_message ports asked

replied_answers : (ports : List ℕ) (asked : Enquiry) (room : ℕ) → Answers ports asked (replied ports asked room)
unfolding replied
replied_answers ports asked room =
    split (ltb room (length (status_message ports asked))) (λ t. rw t (λ some. absurd (some refl))) (λ t. rw t (λ some. refl))

-- and where one is written, no record is changed
abbrev Stays : List ℕ → Outcome → Type 0
Stays ports o = (length o.answer ≡ 0 → ⊥) → o.ports ≡ ports

replied_stays : (ports : List ℕ) (asked : Enquiry) (room : ℕ) → Stays ports (replied ports asked room)
unfolding replied
replied_stays ports asked room =
    split (ltb room (length (status_message ports asked))) (λ t. rw t (λ some. refl)) (λ t. rw t (λ some. refl))

-- the same of the whole call, by its message's type
module _ (ports message : List ℕ) (room : ℕ) where
  abbrev type : ℕ
  type = get_or message 0 0

  abbrev reference : List ℕ
  reference = get_or message 5 0 ∷ get_or message 6 0 ∷ []

  -- the four ways, for whatever holds of each
  pub by_type : (P : Outcome → Type 0) → (length message ≡ 0 → P (nothing ports 24))
      → ((length message ≡ 0 → ⊥) → type ≡ 1 → P (replied ports (asked_by message) room))
      → ((length message ≡ 0 → ⊥) → type ≡ 2 → P (connected ports (asked_by message) reference room))
      → ((length message ≡ 0 → ⊥) → type ≡ 3 → P (disconnected ports (asked_by message) reference room))
      → ((length message ≡ 0 → ⊥) → (type ≡ 1 → ⊥) → (type ≡ 2 → ⊥) → (type ≡ 3 → ⊥) → P (nothing ports 0))
      → P (equipment_of ports message room)
  by_type P empty one two three other =
      split (eqb (length message) 0)
      (λ t. rw (no_octets ports message room (eqb-true _ _ t)) (empty (eqb-true _ _ t)))
      (λ t.
      let some : length message ≡ 0 → ⊥ = eqb-false _ _ t in
      split (eqb type 1)
      (λ u. rw (enquiry ports message room some (eqb-true _ _ u) (asked_enquiry message (eqb-true _ _ u)) refl) (one some (eqb-true _ _ u)))
      (λ u.
      let not-1 : type ≡ 1 → ⊥ = eqb-false _ _ u in
      split (eqb type 2)
      (λ v. rw (connection ports message room some (eqb-true _ _ v) (asked_request message not-1) refl refl) (two some (eqb-true _ _ v)))
      (λ v.
      split (eqb type 3)
      (λ w. rw (disconnection ports message room some (eqb-true _ _ w) (asked_request message not-1) refl refl) (three some (eqb-true _ _ w)))
      (λ w.
      rw (not_recognised ports message room some not-1 (eqb-false _ _ v) (eqb-false _ _ w))
      (other some not-1 (eqb-false _ _ v) (eqb-false _ _ w))))))

  pub equipment_refusal_lem : (equipment_of ports message room).refusal ≡ equipment_refusal ports message room
  unfolding equipment_refusal answer_due
  equipment_refusal_lem =
      by_type (λ o. o.refusal ≡ equipment_refusal ports message room)
      (λ none. rw (eq-eqb (length message) 0 none))
      (λ some one. rw (ne_eqb (length message) 0 some, one) (replied_refusal ports (asked_by message) reference room))
      (λ some two.
      rw (ne_eqb (length message) 0 some, two)
      (connected_refusal ports (asked_by message) reference room
      ∙ split (otherwise ports (asked_by message) reference room) (λ t. rw t) (λ t. rw t)))
      (λ some three.
      rw (ne_eqb (length message) 0 some, three)
      (disconnected_refusal ports (asked_by message) reference room
      ∙ split (leb (port_count ports) (identified ports (asked_by message) false)) (λ t. rw t) (λ t. rw t)))
      (λ some one two three.
      rw (ne_eqb (length message) 0 some, ne_eqb type 1 one, ne_eqb type 2 two, ne_eqb type 3 three))

  -- what holds of a reply, of what the network is asked, and of nothing
  each_way : (P : Outcome → Type 0) → P (nothing ports 24) → P (replied ports (asked_by message) room)
      → ((ports₁ : List ℕ) (network port number : ℕ) → P (asks_network ports₁ network port number)) → P (nothing ports 0)
      → P (equipment_of ports message room)
  each_way P empty reply asks other =
      by_type P
      (λ none. empty)
      (λ some one. reply)
      (λ some two. connected_ways ports (asked_by message) reference room P reply asks)
      (λ some three. disconnected_ways ports (asked_by message) reference room P reply asks)
      (λ some one two three. other)

  pub refused_nothing : Nothing ports (equipment_of ports message room)
  refused_nothing =
      each_way (Nothing ports) (λ some. refl) (replied_nothing ports (asked_by message) room)
      (λ ports₁ network port number none. absurd (none refl))
      (λ none. absurd (none refl))

  pub written_status : Answers ports (asked_by message) (equipment_of ports message room)
  written_status =
      each_way (Answers ports (asked_by message)) (λ none. absurd (none refl)) (replied_answers ports (asked_by message) room)
      (λ ports₁ network port number none. absurd (none refl))
      (λ none. absurd (none refl))

  pub answered_nothing : Stays ports (equipment_of ports message room)
  answered_nothing =
      each_way (Stays ports) (λ some. refl) (replied_stays ports (asked_by message) room)
      (λ ports₁ network port number none. absurd (none refl))
      (λ some. refl)

-- what a call that meets the contract leaves, where its outcome is nothing
pub nothing_done : (c : EquipmentCall) → Equips c → (number : ℕ)
    → equipment_of c.ports c.message (length c.answer) ≡ nothing c.ports number → (c.refusal ≡ number) × NothingDone c
unfolding over
nothing_done c meets number none = (
  meets.refused ∙ ap (λ (o : Outcome). o.refusal) none,
  record {
    ports_stay = meets.leaves ∙ ap (λ (o : Outcome). o.ports) none;
    answer_stays = meets.writes ∙ ap (λ (o : Outcome). over o.answer c.answer) none;
    report_zeros = meets.reports ∙ ap report_of none;
  },
)
