-- The codes of a port's status, and the status message for what is asked (8.4.2).
-- Assumes nothing.
use Rattle.std.specs.Prelude.{Bool, cond, ◌&&◌, ◌||◌, List, ℕ, ◌+◌, ◌*◌, eqb, leb, replicate}
use Rattle.management.specs.declared.ports.Enquiry.{Enquiry}
use Rattle.management.specs.declared.ports.Fit.{Fit}
use Rattle.management.specs.Ports.{octets_from, status_of, aspect_f, aspect_p, aspect_r, best_fit}
use Rattle.management.specs.Tables.{
  InputPortStatus,
  input_port_status_octets,
  OutputPortStatus,
  output_port_status_octets,
  other_status_octets,
}

-- "In the case of code points 40, C0, and E0, octets 4 to 6 shall indicate how the port is currently configured", of an output port
-- 60 too
unfoldable pub configured : ℕ → ℕ → Bool
configured subsystem_code_of status =
    eqb status 0x40 || (eqb status 0xC0 || (eqb status 0xE0 || (eqb subsystem_code_of 1 && eqb status 0x60)))

-- the code points of 8.4.2.1.1 and 8.4.2.2.2: these, 00, and 81 to 87. "Other code points shall be reserved"
unfoldable pub recognised : ℕ → ℕ → Bool
recognised subsystem_code_of status = configured subsystem_code_of status || (eqb status 0 || (leb 0x81 status && leb status 0x87))

-- "1 0 0 0 0 F P R"
unfoldable pub unsupported : List ℕ → Enquiry → ℕ → ℕ
unsupported ports asked port = 0x80 + (aspect_f ports asked port * 4 + aspect_p ports asked port * 2 + aspect_r ports asked port)

-- octet 3: 00, "no port with the Selector value in octet 2 exists"; the port's own status; 81 to 87, "a port with the Selector value in octet
-- 2 exists but does not support the requested format"
unfoldable pub status_for : List ℕ → Enquiry → Fit → ℕ
status_for ports asked fit =
    cond (eqb fit.misfits 4) 0x00
    (cond (eqb fit.misfits 0) (status_of ports fit.port) (unsupported ports asked fit.port))

-- Table 6 for what is asked. Octets 4 to 6 are "copied from the status enquiry message"; where the port is in that format they are its
-- own. Octets 7 to 8: its first endpoint reference, "non-zero if the port is the source of an audio call .., and 0 otherwise"
unfoldable pub input_status : List ℕ → Enquiry → Fit → InputPortStatus
input_status ports asked fit =
    record {
      selector = asked.selector;
      input_port_status = status_for ports asked fit;
      subframe_format = asked.subframe_format;
      packing = asked.packing;
      sampling_frequency = asked.sampling_frequency;
      first_endpoint_reference = cond (eqb fit.misfits 4) (replicate 2 0) (octets_from ports fit.port 6 2);
    }

-- Table 7 for what is asked. "In the case of code point E0, octets 7 to 28 shall contain the calling-party address and endpoint reference".
-- Ours: "in all other cases" they are 0
unfoldable pub output_status : List ℕ → Enquiry → Fit → OutputPortStatus
output_status ports asked fit =
    record {
      selector = asked.selector;
      output_port_status = status_for ports asked fit;
      subframe_format = asked.subframe_format;
      packing = asked.packing;
      sampling_frequency = asked.sampling_frequency;
      source_atm_address = cond (eqb (status_for ports asked fit) 0xE0) (octets_from ports fit.port 6 20) (replicate 20 0);
      endpoint_reference = cond (eqb (status_for ports asked fit) 0xE0) (octets_from ports fit.port 26 2) (replicate 2 0);
    }

-- 8.4.1.1: "a status message for the data in octets 1 to 5"; 8.4.2.3.1: "Status messages with subsystem codes 0 and 1 shall be as specified
-- in 8.4.2.1 and 8.4.2.2, respectively"
unfoldable pub status_message : List ℕ → Enquiry → List ℕ
status_message ports asked =
    cond (eqb asked.subsystem_code 0) (input_port_status_octets (input_status ports asked (best_fit ports asked)))
    (cond (eqb asked.subsystem_code 1) (output_port_status_octets (output_status ports asked (best_fit ports asked)))
    (other_status_octets asked.subsystem_code))
