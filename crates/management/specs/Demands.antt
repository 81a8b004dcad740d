-- What the theorems say of a call, in the request's words: what goes in and what comes out of it, which refusal, which port.
-- Assumes nothing.
use Rattle.std.specs.Prelude.{Bool, true, false, cond, not, ◌&&◌, ◌||◌, List, [], ◌∷◌, ◌≡◌, ℕ, ◌*◌, ◌%◌, eqb, leb, ltb, length, get_or, take, drop}
use Rattle.runs.specs.Runs.{number_of}
use Rattle.formats.specs.Formats.{is_listed, slots_of}
use Rattle.management.specs.declared.ports.Enquiry.{Enquiry}
use Rattle.management.specs.Controller.{Takes}
use Rattle.management.specs.Equipment.{Leaves, equipment_of, input_port}
use Rattle.management.specs.Packing.{Sets, Packs}
use Rattle.management.specs.Ports.{port_count, octets_from, identified}

-- a call of the equipment's: what is lent, the refusal, and what is left
pub record EquipmentCall : Type 0 where
  pub ports : List ℕ
  pub message : List ℕ
  pub answer : List ℕ
  pub refusal : ℕ
  pub ports_after : List ℕ
  pub answer_after : List ℕ
  pub report : List ℕ

-- it meets the contract of `rime_equipment`
abbrev pub Equips : EquipmentCall → Type 0
Equips c =
    Leaves (equipment_of c.ports c.message (length c.answer)) c.answer c.refusal c.ports_after c.answer_after c.report

-- a call of the controlling entity's
pub record ControllerCall : Type 0 where
  pub ports : List ℕ
  pub message : List ℕ
  pub refusal : ℕ
  pub ports_after : List ℕ

-- it meets the contract of `rime_controller`
abbrev pub Controls : ControllerCall → Type 0
Controls c = Takes c.ports c.message c.refusal c.ports_after

-- a call for what a record is set to, and that it meets the contract of `rime_port_settings`
pub record SettingsCall : Type 0 where
  pub port : List ℕ
  pub refusal : ℕ
  pub settings : List ℕ

abbrev pub Settles : SettingsCall → Type 0
Settles c = Sets c.port c.refusal c.settings

-- a call for a packing octet, and that it meets the contract of `rime_port_packing`
pub record PackingCall : Type 0 where
  pub format : ℕ
  pub channels : ℕ
  pub order : ℕ
  pub refusal : ℕ
  pub packing : ℕ

abbrev pub Codes : PackingCall → Type 0
Codes c = Packs c.format c.channels c.order c.refusal c.packing

-- checks 1 to 3 of octets 3 and 4 of a record: "none of the fourteen"; C, the low six bits, "is 0 or above S"; the two top bits are 10
-- or 11, which is no order
unfoldable pub record_refusal : List ℕ → ℕ
record_refusal port =
    cond (not (is_listed (get_or port 3 0))) 1
    (cond (eqb (get_or port 4 0 % 64) 0 || ltb (slots_of (get_or port 3 0)) (get_or port 4 0 % 64)) 2 (cond (leb 0x80 (get_or port 4 0)) 3 0))

-- what a message asks for, by its type: a status enquiry, or a request for an input port
unfoldable pub asked_by : List ℕ → Enquiry
asked_by message =
    cond (eqb (get_or message 0 0) 1)
    (record {
      subsystem_code = get_or message 1 0;
      selector = get_or message 2 0;
      subframe_format = get_or message 3 0;
      packing = get_or message 4 0;
      sampling_frequency = get_or message 5 0;
    })
    (input_port (get_or message 1 0) (get_or message 2 0) (get_or message 3 0) (get_or message 4 0))

-- the endpoint reference in octets 5 and 6 of a request
abbrev pub reference_in : List ℕ → ℕ
reference_in message = number_of (get_or message 5 0 ∷ get_or message 6 0 ∷ [])

-- an answer is due: to every status enquiry, to a request that identifies no port, and to a connection request with the endpoint
-- reference 0
unfoldable pub answer_due : List ℕ → List ℕ → Bool
answer_due ports message =
    eqb (get_or message 0 0) 1
    || ((eqb (get_or message 0 0) 2 && (eqb (reference_in message) 0 || leb (port_count ports) (identified ports (asked_by message) true)))
    || (eqb (get_or message 0 0) 3 && leb (port_count ports) (identified ports (asked_by message) false)))

-- its octets: Table 6 has 9, Table 7 has 29, and Table 8 defines 2
abbrev pub answer_octets : ℕ → ℕ
answer_octets subsystem_code_of = cond (eqb subsystem_code_of 0) 9 (cond (eqb subsystem_code_of 1) 29 2)

-- "24 for a message of no octets, then 25 for an answer buffer too short"
unfoldable pub equipment_refusal : List ℕ → List ℕ → ℕ → ℕ
equipment_refusal ports message room =
    cond (eqb (length message) 0) 24
    (cond (answer_due ports message && ltb room (answer_octets (asked_by message).subsystem_code)) 25 0)

unfoldable pub controller_refusal : List ℕ → ℕ
controller_refusal message = cond (eqb (length message) 0) 24 0

-- nothing that was lent is changed, and the report is zeros
pub record NothingDone (c : EquipmentCall) : Type 0 where
  pub ports_stay : c.ports_after ≡ c.ports
  pub answer_stays : c.answer_after ≡ c.answer
  pub report_zeros : c.report ≡ 0 ∷ 0 ∷ 0 ∷ 0 ∷ []

-- two calls with the same outcome
pub record SameOutcome (a b : EquipmentCall) : Type 0 where
  pub refusals : a.refusal ≡ b.refusal
  pub ports_same : a.ports_after ≡ b.ports_after
  pub answers_same : a.answer_after ≡ b.answer_after
  pub reports_same : a.report ≡ b.report

-- the octets of the answer that a call wrote
abbrev pub answer_of : EquipmentCall → List ℕ
answer_of c = take (get_or c.report 0 0) c.answer_after

-- at most one port's record changes: every other port's stays, and so does a rest that is no port. Of that one the subsystem code and the
-- selector stay too
pub record OnePort (before after : List ℕ) : Type 0 where
  pub port : ℕ
  pub others : (other : ℕ) → (other ≡ port → ⊥) → octets_from after other 0 28 ≡ octets_from before other 0 28
  pub rest : drop (port_count before * 28) after ≡ drop (port_count before * 28) before
  pub name : octets_from after port 0 2 ≡ octets_from before port 0 2

-- the specified length of a message (8.3.5): 6, 27 and 7 octets for Tables 3 to 5
unfoldable pub equipment_length : List ℕ → ℕ
equipment_length message =
    cond (eqb (get_or message 0 0) 1) 6 (cond (eqb (get_or message 0 0) 2) 27 (cond (eqb (get_or message 0 0) 3) 7 (length message)))

-- 9 and 29 for Tables 6 and 7; 2 for Table 8, which defines no more
unfoldable pub controller_length : List ℕ → ℕ
controller_length message =
    cond (eqb (get_or message 0 0) 129) (answer_octets (get_or message 1 0)) (length message)

-- the octets of a port's record that a status message carries: of an input port octets 0 to 7, of an output port 0 to 27 with E0, and else
-- 0 to 5
unfoldable pub carried : ℕ → ℕ → ℕ
carried subsystem_code_of status = cond (eqb subsystem_code_of 0) 8 (cond (eqb status 0xE0) 28 6)
