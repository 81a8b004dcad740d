-- What the controlling entity does with a message (8.3.3, 8.4.2).
-- Assumes nothing.
use Rattle.std.specs.Prelude.{cond, List, [], ◌∷◌, ◌++◌, ◌≡◌, ℕ, ◌+◌, ◌*◌, eqb, length, get_or}
use Rattle.runs.specs.Runs.{written}
use Rattle.management.specs.declared.ports.Enquiry.{Enquiry}
use Rattle.management.specs.declared.ports.Fit.{Fit}
use Rattle.management.specs.Ports.{octets_from, best_fit}
use Rattle.management.specs.Status.{configured, recognised}
use Rattle.management.specs.Tables.{brought_to, InputPortStatus, input_port_status, OutputPortStatus, output_port_status}

-- octets 4 to 6 "indicate how the port is currently configured", and go to its record; else they are "copied from the status enquiry
-- message", and the record keeps its own
unfoldable pub configuration : List ℕ → Enquiry → ℕ → ℕ → List ℕ
configuration ports told status port =
    cond (configured told.subsystem_code status) (told.subframe_format ∷ told.packing ∷ told.sampling_frequency ∷ [])
    (octets_from ports port 3 3)

-- what a status message tells goes to the record of the port that it is about: octet 3, octets 4 to 6, and what is taken of the rest
unfoldable pub noted : List ℕ → Enquiry → ℕ → List ℕ → Fit → List ℕ
noted ports told status rest fit =
    cond (eqb fit.misfits 4) ports
    (written ports (fit.port * 28 + 2) ((status ∷ configuration ports told status fit.port) ++ rest))

-- "The recipient shall ignore an input port status message in which it does not recognize the value in octet 3"; "the port identified by
-- octets 2 and 4 to 6". Ours: the one that best fits them
unfoldable pub status_taken : List ℕ → Enquiry → ℕ → List ℕ → List ℕ
status_taken ports told status rest =
    cond (recognised told.subsystem_code status) (noted ports told status rest (best_fit ports told)) ports

-- the port that a status message is about
abbrev pub input_told : InputPortStatus → Enquiry
input_told t =
    record {
      subsystem_code = 0;
      selector = t.selector;
      subframe_format = t.subframe_format;
      packing = t.packing;
      sampling_frequency = t.sampling_frequency;
    }

abbrev pub output_told : OutputPortStatus → Enquiry
output_told t =
    record {
      subsystem_code = 1;
      selector = t.selector;
      subframe_format = t.subframe_format;
      packing = t.packing;
      sampling_frequency = t.sampling_frequency;
    }

abbrev pub input_taken : List ℕ → InputPortStatus → List ℕ
input_taken ports t = status_taken ports (input_told t) t.input_port_status t.first_endpoint_reference

-- "In the case of code point E0, octets 7 to 28 .. In all other cases, the recipient shall ignore octets 7 to 28"
abbrev pub output_taken : List ℕ → OutputPortStatus → List ℕ
output_taken ports t =
    status_taken ports (output_told t) t.output_port_status
    (cond (eqb t.output_port_status 0xE0) (t.source_atm_address ++ t.endpoint_reference) [])

-- 8.3.3: "shall recognize message type 129 .. It shall ignore any message whose type it does not recognize"; 8.4.2.3.2: "The recipient
-- shall ignore a status message if it does not recognize the value in octet 1"
unfoldable pub controller_of : List ℕ → List ℕ → List ℕ
controller_of ports message =
    cond (eqb (get_or message 0 0) 129)
    (cond (eqb (get_or message 1 0) 0) (input_taken ports (input_port_status (brought_to 9 message)))
    (cond (eqb (get_or message 1 0) 1) (output_taken ports (output_port_status (brought_to 29 message))) ports))
    ports

-- 24 "for a message of no octets"
pub record Takes (ports message : List ℕ) (refusal : ℕ) (ports₁ : List ℕ) : Type 0 where
  pub refused : refusal ≡ cond (eqb (length message) 0) 24 0
  pub leaves : ports₁ ≡ controller_of ports message
