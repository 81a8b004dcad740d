-- What was asked for of the management port, on one page: each statement beside the words that it stands for, each proof a citation.
-- Assumes nothing.
use mathlib.Core.Bool.{Bool, true, false, cond, ◌||◌}
use mathlib.Core.List.{List, [], ◌∷◌, ◌++◌}
use mathlib.Core.Path.{◌≡◌, sym, ◌∙◌}
use Prim.Native.Nat.{ℕ, ◌+◌, ◌*◌, ◌-◌, ◌≤◌, ◌<◌, zero-le}
use native.Mathlib.Nat.{zero-add}
use lib.Dec.{eqb}
use lib.ListN.{length, get_or, take, replicate}
use Rattle.runs.specs.Runs.{written}
use Rattle.formats.specs.Formats.{slots_of, times_of, settings_refusal}
use Rattle.cells.specs.Placement.{slot_of}
use Rattle.management.specs.declared.ports.Enquiry.{Enquiry}
use Rattle.management.specs.Demands.{
  EquipmentCall,
  Equips,
  ControllerCall,
  Controls,
  SettingsCall,
  Settles,
  PackingCall,
  Codes,
  record_refusal,
  asked_by,
  reference_in,
  equipment_refusal,
  controller_refusal,
  NothingDone,
  SameOutcome,
  answer_of,
  OnePort,
  equipment_length,
  controller_length,
  carried,
}
use Rattle.management.specs.Equipment.{Leaves, replied}
use Rattle.management.specs.Ports.{
  port_count,
  octets_from,
  status_of,
  first_reference,
  misfits,
  best_fit,
  serves,
  identified,
}
use Rattle.management.specs.Status.{configured, recognised, status_for}
use Rattle.management.proofs.Agree.{agree}
use Rattle.management.proofs.Best.{best_fewest, best_first, best_is, first_before, first_passes}
use Rattle.management.proofs.Brought.{brought_shorter, brought_longer}
use Rattle.management.proofs.Calls.{
  equipment_refuses,
  controller_refuses,
  equipment_alike,
  controller_alike,
  answer_written,
  answered_alone,
  ended_call,
  zero_alone,
}
use Rattle.management.proofs.Differ.{unsupported_noted, nowhere_noted, unsupported_said}
use Rattle.management.proofs.OnePort.{equipment_one, controller_one}
use Rattle.management.proofs.PackedCalls.{settings_refuses, packing_refuses, there_and_back, back_and_there, slots_the_same, two_octets}
use Rattle.management.proofs.Refused.{nothing_done}
use Rattle.management.proofs.Requests.{not_recognised}
use Rattle.management.proofs.Taken.{not_status, reserved, unknown_status}

-- Demand 1: "It refuses exactly where document 01's table says so, under that number; the state then comes back as it went in and nothing
-- lent changes." Here: "24 for a message of no octets, then 25 for an answer buffer too short, with no record changed".
pub demand_1_equipment : (c : EquipmentCall) → Equips c
    → (c.refusal ≡ equipment_refusal c.ports c.message (length c.answer)) × ((c.refusal ≡ 0 → ⊥) → NothingDone c)
demand_1_equipment = equipment_refuses

pub demand_1_controller : (c : ControllerCall) → Controls c
    → (c.refusal ≡ controller_refusal c.message) × ((c.refusal ≡ 0 → ⊥) → c.ports_after ≡ c.ports)
demand_1_controller = controller_refuses

-- Checks 1 to 3 of "an octet that is none of the fourteen", "C is 0 or above S", "order above 1"; zeros then.
pub demand_1_port_settings : (c : SettingsCall) → Settles c
    → (c.refusal ≡ record_refusal c.port) × ((c.refusal ≡ 0 → ⊥) → c.settings ≡ 0 ∷ 0 ∷ 0 ∷ [])
demand_1_port_settings = settings_refuses

pub demand_1_port_packing : (c : PackingCall) → Codes c
    → (c.refusal ≡ settings_refusal c.format c.channels c.order) × ((c.refusal ≡ 0 → ⊥) → c.packing ≡ 0)
demand_1_port_packing = packing_refuses

-- "Each recognised message .. changes one port's record ..; every other port stays": whatever the message, at most one does.
pub one_port_equipment : (c : EquipmentCall) → Equips c → OnePort c.ports c.ports_after
one_port_equipment c meets = rw meets.leaves (equipment_one c.ports c.message (length c.answer))

pub one_port_controller : (c : ControllerCall) → Controls c → OnePort c.ports c.ports_after
one_port_controller c meets = rw meets.leaves (controller_one c.ports c.message)

-- "or both, or neither where clause 8 says so": no message both changes a record and writes a status message.
pub answer_changes_nothing : (c : EquipmentCall) → Equips c → (get_or c.report 0 0 ≡ 0 → ⊥) → c.ports_after ≡ c.ports
answer_changes_nothing = answered_alone

-- 8.4.2.1.2: the first endpoint reference "shall be non-zero if the port is the source of an audio call on the ATM network": so it is after a
-- SETUP, and a disconnection request can name the call. The party of a SETUP is reported as 0, as 8.4.1.3.2 b drops it.
pub set_up_can_be_ended : (c : EquipmentCall) → Equips c → get_or c.report 1 0 ≡ 1
    → (get_or c.report 3 0 ≡ 0) × (first_reference c.ports_after (get_or c.report 2 0) ≡ 0 → ⊥)
set_up_can_be_ended = ended_call

-- A connection request with the endpoint reference 0 is step a's "otherwise": "send an input port status message in reply".
pub zero_answered : (c : EquipmentCall) → Equips c → get_or c.message 0 0 ≡ 2 → reference_in c.message ≡ 0
    → Leaves (replied c.ports (asked_by c.message) (length c.answer)) c.answer c.refusal c.ports_after c.answer_after c.report
zero_answered = zero_alone

-- "Any other type is ignored: no answer written, nothing in the port's records changed."
pub type_ignored_equipment : (c : EquipmentCall) → Equips c → (length c.message ≡ 0 → ⊥) → (get_or c.message 0 0 ≡ 1 → ⊥)
    → (get_or c.message 0 0 ≡ 2 → ⊥) → (get_or c.message 0 0 ≡ 3 → ⊥) → (c.refusal ≡ 0) × NothingDone c
type_ignored_equipment c meets some one two three =
    nothing_done c meets 0 (not_recognised c.ports c.message (length c.answer) some one two three)

pub type_ignored_controller : (c : ControllerCall) → Controls c → (get_or c.message 0 0 ≡ 129 → ⊥) → c.ports_after ≡ c.ports
type_ignored_controller c meets other = meets.leaves ∙ not_status c.ports c.message other

-- 8.4.2.3.2: "The recipient shall ignore a status message if it does not recognize the value in octet 1"; 8.4.2.1.1 and 8.4.2.2.2: "in which
-- it does not recognize the value in octet 3".
pub subsystem_ignored : (c : ControllerCall) → Controls c → 1 < get_or c.message 1 0 → c.ports_after ≡ c.ports
subsystem_ignored c meets more = meets.leaves ∙ reserved c.ports c.message more

pub status_ignored : (c : ControllerCall) → Controls c → recognised (get_or c.message 1 0) (get_or c.message 3 0) ≡ false
    → c.ports_after ≡ c.ports
status_ignored c meets unknown = meets.leaves ∙ unknown_status c.ports c.message unknown

-- 8.3.5: a shorter message acts as its padded one, and a longer one as its cut one.
module _ (a b : EquipmentCall) (one : Equips a) (two : Equips b) (ports : a.ports ≡ b.ports) (answer : a.answer ≡ b.answer)
    (some : length a.message ≡ 0 → ⊥) where
  abbrev specified : ℕ
  specified = equipment_length a.message

  pub shorter_equipment : length a.message ≤ specified → b.message ≡ a.message ++ replicate (specified - length a.message) 0 → SameOutcome a b
  shorter_equipment short is =
      equipment_alike a b one two ports answer some (is ∙ sym (brought_shorter specified a.message short))

  pub longer_equipment : specified ≤ length a.message → b.message ≡ take specified a.message → SameOutcome a b
  longer_equipment long is =
      equipment_alike a b one two ports answer some (is ∙ sym (brought_longer specified a.message long))

module _ (a b : ControllerCall) (one : Controls a) (two : Controls b) (ports : a.ports ≡ b.ports) where
  abbrev specified_status : ℕ
  specified_status = controller_length a.message

  pub shorter_controller : length a.message ≤ specified_status
      → b.message ≡ a.message ++ replicate (specified_status - length a.message) 0 → a.ports_after ≡ b.ports_after
  shorter_controller short is =
      controller_alike a b one two ports (is ∙ sym (brought_shorter specified_status a.message short))

  pub longer_controller : specified_status ≤ length a.message → b.message ≡ take specified_status a.message → a.ports_after ≡ b.ports_after
  longer_controller long is =
      controller_alike a b one two ports (is ∙ sym (brought_longer specified_status a.message long))

-- The two sides agree: "a status message that the equipment writes of a port in the format asked for, taken by a controlling entity that
-- has a record of that port, leaves there the octets of the equipment's record that the table carries". The port's status is one with which
-- octets 4 to 6 "indicate how the port is currently configured".
module _ (e : EquipmentCall) (c : ControllerCall) where
  abbrev asked : Enquiry
  asked = asked_by e.message

  abbrev status : ℕ
  status = status_of e.ports (best_fit e.ports asked).port

  pub sides_agree : Equips e → Controls c → (get_or e.report 0 0 ≡ 0 → ⊥) → c.message ≡ answer_of e → asked.subsystem_code ≤ 1
      → (best_fit e.ports asked).misfits ≡ 0
      → configured asked.subsystem_code status ≡ true
      → ((best_fit c.ports asked).misfits ≡ 4 → ⊥)
      → octets_from c.ports_after (best_fit c.ports asked).port 0 (carried asked.subsystem_code status)
      ≡ octets_from e.ports (best_fit e.ports asked).port 0 (carried asked.subsystem_code status)
  sides_agree equips controls written sent few fits set kept =
      rw (controls.leaves, sent, answer_written e equips written)
      (agree e.ports c.ports asked fits set kept few)

  -- Where it has no port in the format asked for: octet 3 of its message is 81 to 87, or 00. What is left then is the record with that
  -- status, its own format, and of an input port the first endpoint reference of the equipment's port, or 0; all else stays.
  abbrev said : ℕ
  said = status_for e.ports asked (best_fit e.ports asked)

  abbrev place : ℕ
  place = (best_fit c.ports asked).port

  abbrev noted : List ℕ → List ℕ
  noted first =
      written c.ports (place * 28 + 2)
      ((said ∷ octets_from c.ports place 3 3) ++ cond (eqb asked.subsystem_code 0) first [])

  pub sides_differ : Equips e → Controls c → (get_or e.report 0 0 ≡ 0 → ⊥) → c.message ≡ answer_of e → asked.subsystem_code ≤ 1
      → 0x81 ≤ said → said ≤ 0x87
      → ((best_fit c.ports asked).misfits ≡ 4 → ⊥)
      → c.ports_after ≡ noted (octets_from e.ports (best_fit e.ports asked).port 6 2)
  sides_differ equips controls written sent few from to kept =
      rw (controls.leaves, sent, answer_written e equips written)
      (unsupported_noted e.ports c.ports asked kept few from to)

  -- a port in another format says 81 to 87
  pub other_format_said : ((best_fit e.ports asked).misfits ≡ 4 → ⊥) → ((best_fit e.ports asked).misfits ≡ 0 → ⊥)
      → (0x81 ≤ said) × (said ≤ 0x87)
  other_format_said = unsupported_said e.ports asked

  pub sides_nowhere : Equips e → Controls c → (get_or e.report 0 0 ≡ 0 → ⊥) → c.message ≡ answer_of e → asked.subsystem_code ≤ 1
      → (best_fit e.ports asked).misfits ≡ 4
      → ((best_fit c.ports asked).misfits ≡ 4 → ⊥)
      → (said ≡ 0) × (c.ports_after ≡ noted (replicate 2 0))
  sides_nowhere equips controls written sent few none kept =
      let both = nowhere_noted e.ports c.ports asked kept few none in
      (both.0, rw (controls.leaves, sent, answer_written e equips written) both.1)

-- What a box is opened with, and the packing octet (6.2, 6.3).
module _ (s : SettingsCall) (p : PackingCall) (settles : Settles s) (codes : Codes p) where
  abbrev octet : ℕ
  octet = get_or s.port 4 0

  -- Packing, then settings: format and C come back, and so does the order but for C = 1 and C = S, where it is 0.
  pub packing_then_settings : p.refusal ≡ 0 → get_or s.port 3 0 ≡ p.format → octet ≡ p.packing
      → (s.refusal ≡ 0)
      × (s.settings
      ≡ p.format ∷ p.channels ∷ cond (eqb p.channels 1 || eqb p.channels (slots_of p.format)) 0 p.order ∷ [])
  packing_then_settings = there_and_back s p settles codes

  -- There the slots are the same: each channel at each time has the slot that it had.
  pub same_slots : p.refusal ≡ 0 → get_or s.port 3 0 ≡ p.format → octet ≡ p.packing
      → (channel time : ℕ) → channel < p.channels → time < times_of (slots_of p.format) p.channels
      → slot_of (eqb (get_or s.settings 2 0) 1) p.channels (times_of (slots_of p.format) p.channels) channel time
      ≡ slot_of (eqb p.order 1) p.channels (times_of (slots_of p.format) p.channels) channel time
  same_slots = slots_the_same s p settles codes

  -- Settings, then packing: the octet comes back but for 40 hex + 1 and 40 hex + S, which come back without the 40.
  pub settings_then_packing : s.refusal ≡ 0 → s.settings ≡ p.format ∷ p.channels ∷ p.order ∷ []
      → (p.refusal ≡ 0) × (p.packing ≡ cond (eqb octet (0x40 + 1) || eqb octet (0x40 + slots_of p.format)) (octet - 0x40) octet)
  settings_then_packing = back_and_there s p settles codes

-- Of a record only octets 3 and 4 are read.
pub only_two_octets : (a b : SettingsCall) → Settles a → Settles b → get_or a.port 3 0 ≡ get_or b.port 3 0
    → get_or a.port 4 0 ≡ get_or b.port 4 0 → (a.refusal ≡ b.refusal) × (a.settings ≡ b.settings)
only_two_octets = two_octets

-- The searches, in the words of the readings: of the ports of that subsystem and selector "the one with the fewest of F, P, R; of several the
-- first", and "the first such one".
module _ (ports : List ℕ) (asked : Enquiry) where
  pub fewest_misfits : (port : ℕ) → port < port_count ports → (best_fit ports asked).misfits ≤ misfits ports asked port
  fewest_misfits port inside = best_fewest ports asked (port_count ports) inside

  pub first_of_several : (port : ℕ) → port < (best_fit ports asked).port → (best_fit ports asked).misfits < misfits ports asked port
  first_of_several port before = best_first ports asked (port_count ports) before

  pub its_own : ((best_fit ports asked).misfits ≡ 4 → ⊥) → misfits ports asked (best_fit ports asked).port ≡ (best_fit ports asked).misfits
  its_own some = best_is ports asked (port_count ports) some

  pub none_before_serves : (can_be_of : Bool) (port : ℕ) → port < identified ports asked can_be_of → serves ports asked can_be_of port ≡ false
  none_before_serves can_be_of port before = first_before (serves ports asked can_be_of) (port_count ports) 0 zero-le before

  pub identified_serves : (can_be_of : Bool) → identified ports asked can_be_of < port_count ports
      → serves ports asked can_be_of (identified ports asked can_be_of) ≡ true
  identified_serves can_be_of inside =
      first_passes (serves ports asked can_be_of) (port_count ports) 0 (rw zero-add inside)
