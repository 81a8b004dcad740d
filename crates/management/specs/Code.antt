-- Words that only the code needs.
-- Assumes nothing.
use Rattle.std.specs.Prelude.{cond, List, [], ◌∷◌, ◌≡◌, ℕ, ◌+◌, ◌<◌, ◌≤◌, eqb, ltb, length, get_or, replicate, Option, Some, None, Result, Ok, Err}
use Rattle.runs.specs.Runs.{over}
use Rattle.management.specs.declared.ports.Enquiry.{Enquiry}
use Rattle.management.specs.declared.ports.Fit.{Fit}
use Rattle.management.specs.Ports.{port_count}
use Rattle.management.specs.declared.equipment.Network.{Network}
use Rattle.management.specs.declared.equipment.Network.TheVariants as N
use Rattle.management.specs.declared.equipment.Refused.{Refused}
use Rattle.management.specs.declared.equipment.Refused.TheVariants as R
use Rattle.management.specs.declared.equipment.Report.{Report}
use Rattle.management.specs.Equipment.{Outcome, report_of, Leaves}

-- a status message written where the answer has room for it: how many octets were written, and what the answer holds
pub record Replies (status answer : List ℕ) (octets : ℕ) (answer₁ : List ℕ) : Type 0 where
  pub counted : octets ≡ cond (ltb (length answer) (length status)) 0 (length status)
  pub left : answer₁ ≡ cond (ltb (length answer) (length status)) answer (over status answer)

-- a request that the network is asked to serve: the ports' records, and the report
pub record Asks (o : Outcome) (ports₁ report₁ : List ℕ) : Type 0 where
  pub leaves : ports₁ ≡ o.ports
  pub reports : report₁ ≡ report_of o

-- "0 nothing, 1 SETUP, 2 ADD PARTY, 3 RELEASE, 4 DROP PARTY"
abbrev pub number_of_network : Network → ℕ
number_of_network N.Nothing = 0
number_of_network N.Setup = 1
number_of_network N.AddParty = 2
number_of_network N.Release = 3
number_of_network N.DropParty = 4

-- 24 "for a message of no octets"; 25 "for an answer buffer too short"
abbrev pub number_of_refused : Refused → ℕ
number_of_refused R.Empty = 24
number_of_refused R.Room = 25

-- `report`: octets of the answer, what the network is to be sent, for which port, with which endpoint reference
abbrev pub report_octets : Report → List ℕ
report_octets r = r.octets ∷ number_of_network r.network ∷ r.port ∷ r.reference ∷ []

-- the refusal of an answer, and its report
abbrev pub refusal_told : Result Report Refused → ℕ
refusal_told (Ok _) = 0
refusal_told (Err refused) = number_of_refused refused

abbrev pub report_told : Result Report Refused → List ℕ
report_told (Ok report) = report_octets report
report_told (Err _) = replicate 4 0

-- what a message comes to: the answer, and what is left of the ports' records and of the lent octets
abbrev pub Answers : Outcome → List ℕ → Result Report Refused → List ℕ → List ℕ → Type 0
Answers o answer told ports₁ answer₁ = Leaves o answer (refusal_told told) ports₁ answer₁ (report_told told)

-- the port that fits best; misfits 4 where there is none
abbrev pub found_fit : Option Fit → Fit
found_fit None = record { misfits = 4; port = 0 }
found_fit (Some fit) = fit

-- a port that fits is one of the ports, and has at most the three misfits
pub record Inside (ports : List ℕ) (fit : Fit) : Type 0 where
  pub few : fit.misfits ≤ 3
  pub there : fit.port < port_count ports

-- octets 0 to 6 of a status message
abbrev pub status_head : Enquiry → ℕ → List ℕ
status_head asked status =
    129 ∷ asked.subsystem_code ∷ asked.selector ∷ status ∷ asked.subframe_format ∷ asked.packing ∷ asked.sampling_frequency ∷ []

-- the octets of a status message, by its subsystem code
unfoldable pub status_length : ℕ → ℕ
status_length subsystem_code_of = cond (eqb subsystem_code_of 0) 9 (cond (eqb subsystem_code_of 1) 29 2)

-- a selector and a format that stand in a message from an octet on
unfoldable pub asked_at : List ℕ → ℕ → ℕ → Enquiry
asked_at message subsystem_code_of from =
    record {
      subsystem_code = subsystem_code_of;
      selector = get_or message from 0;
      subframe_format = get_or message (from + 1) 0;
      packing = get_or message (from + 2) 0;
      sampling_frequency = get_or message (from + 3) 0;
    }

-- the port that a status message is about
unfoldable pub told_by : List ℕ → Enquiry
told_by message =
    record {
      subsystem_code = get_or message 1 0;
      selector = get_or message 2 0;
      subframe_format = get_or message 4 0;
      packing = get_or message 5 0;
      sampling_frequency = get_or message 6 0;
    }

-- where the octets of a status message end that go to the record
unfoldable pub taken_to : ℕ → ℕ → ℕ
taken_to subsystem_code_of status = cond (eqb subsystem_code_of 0) 9 (cond (eqb status 0xE0) 29 7)
