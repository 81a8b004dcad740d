-- Tables 3 to 9 of IEC 62365, clause 8.4: what each message is made of, "the octets being numbered from zero". A table's octets have
-- the table's names. Where it gives a group of octets one name, that is a list of them, as they came.
-- Assumes nothing.
use Rattle.std.specs.Prelude.{List, [], ◌∷◌, ◌++◌, ℕ, get_or, take, drop, replicate}
use Rattle.management.specs.declared.ports.Enquiry.{Enquiry}

-- 8.3.5: "If an AAL-SDU is shorter than the specified length for the message it contains, the recipient shall add sufficient octets
-- containing the value zero to the end of the message to bring it up to the required length. If an AAL-SDU is longer than the
-- specified length for the message it contains, the recipient shall ignore the excess octets."
unfoldable pub brought_to : ℕ → List ℕ → List ℕ
brought_to n message = take n (message ++ replicate n 0)

-- Table 3 – Status enquiry message (8.4.1.1): octet 0 is 1
unfoldable pub status_enquiry : List ℕ → Enquiry
status_enquiry message =
    record {
      subsystem_code = get_or message 1 0;
      selector = get_or message 2 0;
      subframe_format = get_or message 3 0;
      packing = get_or message 4 0;
      sampling_frequency = get_or message 5 0;
    }

-- Table 4 – Audio connection request message (8.4.1.2): octet 0 is 2
pub record AudioConnectionRequest : Type 0 where
  pub input_port_selector : ℕ
  pub subframe_format : ℕ
  pub packing : ℕ
  pub sampling_frequency : ℕ
  pub endpoint_reference : List ℕ
  pub destination_address : List ℕ

unfoldable pub audio_connection_request : List ℕ → AudioConnectionRequest
audio_connection_request message =
    record {
      input_port_selector = get_or message 1 0;
      subframe_format = get_or message 2 0;
      packing = get_or message 3 0;
      sampling_frequency = get_or message 4 0;
      endpoint_reference = take 2 (drop 5 message);
      destination_address = take 20 (drop 7 message);
    }

-- Table 5 – Audio disconnection request message (8.4.1.3): octet 0 is 3
pub record AudioDisconnectionRequest : Type 0 where
  pub input_port_selector : ℕ
  pub subframe_format : ℕ
  pub packing : ℕ
  pub sampling_frequency : ℕ
  pub endpoint_reference : List ℕ

unfoldable pub audio_disconnection_request : List ℕ → AudioDisconnectionRequest
audio_disconnection_request message =
    record {
      input_port_selector = get_or message 1 0;
      subframe_format = get_or message 2 0;
      packing = get_or message 3 0;
      sampling_frequency = get_or message 4 0;
      endpoint_reference = take 2 (drop 5 message);
    }

-- Table 6 – Input port status message (8.4.2.1)
pub record InputPortStatus : Type 0 where
  pub selector : ℕ
  pub input_port_status : ℕ
  pub subframe_format : ℕ
  pub packing : ℕ
  pub sampling_frequency : ℕ
  pub first_endpoint_reference : List ℕ

-- as it is sent: octet 0 is 129, octet 1 is 0
unfoldable pub input_port_status_octets : InputPortStatus → List ℕ
input_port_status_octets t =
    (129 ∷ 0 ∷ t.selector ∷ t.input_port_status ∷ t.subframe_format ∷ t.packing ∷ t.sampling_frequency ∷ []) ++ t.first_endpoint_reference

-- as it is taken
unfoldable pub input_port_status : List ℕ → InputPortStatus
input_port_status message =
    record {
      selector = get_or message 2 0;
      input_port_status = get_or message 3 0;
      subframe_format = get_or message 4 0;
      packing = get_or message 5 0;
      sampling_frequency = get_or message 6 0;
      first_endpoint_reference = take 2 (drop 7 message);
    }

-- Table 7 – Output port status message (8.4.2.2)
pub record OutputPortStatus : Type 0 where
  pub selector : ℕ
  pub output_port_status : ℕ
  pub subframe_format : ℕ
  pub packing : ℕ
  pub sampling_frequency : ℕ
  pub source_atm_address : List ℕ
  pub endpoint_reference : List ℕ

-- as it is sent: octet 0 is 129, octet 1 is 1
unfoldable pub output_port_status_octets : OutputPortStatus → List ℕ
output_port_status_octets t =
    (129 ∷ 1 ∷ t.selector ∷ t.output_port_status ∷ t.subframe_format ∷ t.packing ∷ t.sampling_frequency ∷ [])
    ++ (t.source_atm_address ++ t.endpoint_reference)

-- as it is taken
unfoldable pub output_port_status : List ℕ → OutputPortStatus
output_port_status message =
    record {
      selector = get_or message 2 0;
      output_port_status = get_or message 3 0;
      subframe_format = get_or message 4 0;
      packing = get_or message 5 0;
      sampling_frequency = get_or message 6 0;
      source_atm_address = take 20 (drop 7 message);
      endpoint_reference = take 2 (drop 27 message);
    }

-- Table 8 – Other status messages (8.4.2.3), as they are sent: octet 0 is 129. "The format of octets beyond the first two .. shall not be
-- defined by this standard"
abbrev pub other_status_octets : ℕ → List ℕ
other_status_octets subsystem_code_of = 129 ∷ subsystem_code_of ∷ []

-- Table 9 – Vendor-specific messages (8.4.3): octet 0 is 0. Neither side recognises them
pub record VendorSpecific : Type 0 where
  pub organizationally_unique_identifier : List ℕ
  pub defined_by_owner_of_oui : List ℕ

unfoldable pub vendor_specific : List ℕ → VendorSpecific
vendor_specific message =
    record { organizationally_unique_identifier = take 3 (drop 1 message); defined_by_owner_of_oui = drop 4 message }
