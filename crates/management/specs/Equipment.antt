-- What the equipment does with a message (8.3.2, 8.4.1).
-- Assumes nothing.
use Rattle.std.specs.Prelude.{true, false, cond, ◌||◌, List, [], ◌∷◌, ◌≡◌, ℕ, ◌+◌, ◌*◌, eqb, leb, ltb, length, get_or, replicate}
use Rattle.runs.specs.Runs.{over, written, number_of}
use Rattle.management.specs.declared.ports.Enquiry.{Enquiry}
use Rattle.management.specs.Ports.{port_count, first_reference, identified}
use Rattle.management.specs.Status.{status_message}
use Rattle.management.specs.Tables.{
  brought_to,
  status_enquiry,
  AudioConnectionRequest,
  audio_connection_request,
  AudioDisconnectionRequest,
  audio_disconnection_request,
}

-- what a call comes to: the refusal, the ports' records afterwards, the status message that is written (none: no octets), and what the
-- network is to be sent (0 nothing, 1 SETUP, 2 ADD PARTY, 3 RELEASE, 4 DROP PARTY), for which port, with which endpoint reference
pub record Outcome : Type 0 where
  pub refusal : ℕ
  pub ports : List ℕ
  pub answer : List ℕ
  pub network : ℕ
  pub port : ℕ
  pub reference : ℕ

-- nothing is changed, written or sent: a refusal, or with 0 a message that is ignored
abbrev pub nothing : List ℕ → ℕ → Outcome
nothing ports refusal = record { refusal = refusal; ports = ports; answer = []; network = 0; port = 0; reference = 0 }

-- "send, in reply, a status message"; 25 "for an answer buffer too short"
unfoldable pub replied : List ℕ → Enquiry → ℕ → Outcome
replied ports asked room =
    cond (ltb room (length (status_message ports asked))) (nothing ports 25)
    (record { refusal = 0; ports = ports; answer = status_message ports asked; network = 0; port = 0; reference = 0 })

abbrev pub asks_network : List ℕ → ℕ → ℕ → ℕ → Outcome
asks_network ports network port reference =
    record { refusal = 0; ports = ports; answer = []; network = network; port = port; reference = reference }

-- the port's first endpoint reference is stored, in octets 6 and 7 of its record
abbrev pub with_reference : List ℕ → ℕ → List ℕ → List ℕ
with_reference ports port octets = written ports (port * 28 + 6) octets

-- 8.4.1.2.3 b: "if the port is already the source of a call, send an ADD PARTY message to the network for that call, using the endpoint
-- reference value from octets 5 to 6"; c: "if the port is not the source of any call, send a SETUP message to the network, and store the
-- endpoint reference value from octets 5 to 6 as the port's first endpoint reference". It is stored, and not sent: in the network the first
-- party is 0, and step b of 8.4.1.3.2 drops it as 0
unfoldable pub connected_to : List ℕ → List ℕ → ℕ → Outcome
connected_to ports reference port =
    cond (eqb (first_reference ports port) 0) (asks_network (with_reference ports port reference) 1 port 0)
    (asks_network ports 2 port (number_of reference))

-- a: where octets 1 to 4 identify no such port, "send an input port status message in reply". Ours: so too with the endpoint reference 0,
-- since the first one "shall be non-zero if the port is the source of an audio call" (8.4.2.1.2), and of a port that is the source 0 "is
-- equivalent to the first endpoint reference" (8.4.1.3.1), whose party is there already
unfoldable pub connected : List ℕ → Enquiry → List ℕ → ℕ → Outcome
connected ports asked reference room =
    cond (eqb (number_of reference) 0 || leb (port_count ports) (identified ports asked true)) (replied ports asked room)
    (connected_to ports reference (identified ports asked true))

-- 8.4.1.3.2 b: "if the endpoint reference value in octets 5 and 6 is FFFF, send a RELEASE message to the network for that call, otherwise
-- send a DROP PARTY message .., using the endpoint reference value from octets 5 to 6 unless it is the same as the port's first endpoint
-- reference in which case the endpoint reference value, 0, shall be used". After a RELEASE the port is the source of no call, and its first
-- endpoint reference is 0 (8.4.2.1.2)
unfoldable pub disconnected_from : List ℕ → List ℕ → ℕ → Outcome
disconnected_from ports reference port =
    cond (eqb (number_of reference) 0xFFFF) (asks_network (with_reference ports port (replicate 2 0)) 3 port 0)
    (asks_network ports 4 port (cond (eqb (number_of reference) (first_reference ports port)) 0 (number_of reference)))

-- a: where octets 1 to 4 identify no such port, "send an input port status message in reply"
unfoldable pub disconnected : List ℕ → Enquiry → List ℕ → ℕ → Outcome
disconnected ports asked reference room =
    cond (leb (port_count ports) (identified ports asked false)) (replied ports asked room)
    (disconnected_from ports reference (identified ports asked false))

-- the input port that octets 1 to 4 of Tables 4 and 5 ask for
abbrev pub input_port : ℕ → ℕ → ℕ → ℕ → Enquiry
input_port selector format packing frequency =
    record {
      subsystem_code = 0;
      selector = selector;
      subframe_format = format;
      packing = packing;
      sampling_frequency = frequency;
    }

abbrev pub connection_asked : AudioConnectionRequest → Enquiry
connection_asked t = input_port t.input_port_selector t.subframe_format t.packing t.sampling_frequency

abbrev pub disconnection_asked : AudioDisconnectionRequest → Enquiry
disconnection_asked t = input_port t.input_port_selector t.subframe_format t.packing t.sampling_frequency

-- 8.3.2: "shall recognize message types 1 to 3 .. It shall ignore any message whose type it does not recognize". Ours: 24 "for a message of
-- no octets"
unfoldable pub equipment_of : List ℕ → List ℕ → ℕ → Outcome
equipment_of ports message room =
    cond (eqb (length message) 0) (nothing ports 24)
    (cond (eqb (get_or message 0 0) 1) (replied ports (status_enquiry (brought_to 6 message)) room)
    (cond (eqb (get_or message 0 0) 2)
    (connected ports (connection_asked (audio_connection_request (brought_to 27 message)))
    (audio_connection_request (brought_to 27 message)).endpoint_reference room)
    (cond (eqb (get_or message 0 0) 3)
    (disconnected ports (disconnection_asked (audio_disconnection_request (brought_to 7 message)))
    (audio_disconnection_request (brought_to 7 message)).endpoint_reference room)
    (nothing ports 0))))

-- `report`: octets of the answer, what the network is to be sent, for which port, with which endpoint reference
abbrev pub report_of : Outcome → List ℕ
report_of o = length o.answer ∷ o.network ∷ o.port ∷ o.reference ∷ []

-- what a call returns and leaves; what is past the answer stays
pub record Leaves (o : Outcome) (answer : List ℕ) (refusal : ℕ) (ports₁ answer₁ report₁ : List ℕ) : Type 0 where
  pub refused : refusal ≡ o.refusal
  pub leaves : ports₁ ≡ o.ports
  pub writes : answer₁ ≡ over o.answer answer
  pub reports : report₁ ≡ report_of o
