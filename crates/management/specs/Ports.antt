-- The records of the ports, and which port a message is about.
-- Assumes nothing.
use Rattle.std.specs.Prelude.{Bool, cond, not, ◌&&◌, ◌||◌, List, ℕ, zero, suc, ◌+◌, ◌*◌, ◌/◌, eqb, ltb, length, get_or, take, drop}
use Rattle.runs.specs.Runs.{number_of}
use Rattle.management.specs.declared.ports.Enquiry.{Enquiry}
use Rattle.management.specs.declared.ports.Fit.{Fit}

-- "28 octets a port, ports end to end .. A rest of fewer than 28 octets at the end is no port"
abbrev pub port_count : List ℕ → ℕ
port_count ports = length ports / 28

-- "a port's record is octets 1 to 28 of its status message": octet k of it, and octets from k on
abbrev pub octet_of : List ℕ → ℕ → ℕ → ℕ
octet_of ports port k = get_or ports (port * 28 + k) 0

abbrev pub octets_from : List ℕ → ℕ → ℕ → ℕ → List ℕ
octets_from ports port k count = take count (drop (port * 28 + k) ports)

abbrev pub status_of : List ℕ → ℕ → ℕ
status_of ports port = octet_of ports port 2

abbrev pub first_reference : List ℕ → ℕ → ℕ
first_reference ports port = number_of (octets_from ports port 6 2)

-- "F = 1 if the subframe format indicated by octet 4 is not supported, 0 else", and likewise P and R. Ours: a port supports the format
-- that it is set to, and no other
abbrev pub differs : ℕ → ℕ → ℕ
differs here asked = cond (eqb here asked) 0 1

abbrev pub aspect_f : List ℕ → Enquiry → ℕ → ℕ
aspect_f ports asked port = differs (octet_of ports port 3) asked.subframe_format

abbrev pub aspect_p : List ℕ → Enquiry → ℕ → ℕ
aspect_p ports asked port = differs (octet_of ports port 4) asked.packing

abbrev pub aspect_r : List ℕ → Enquiry → ℕ → ℕ
aspect_r ports asked port = differs (octet_of ports port 5) asked.sampling_frequency

-- how many of the three a port of that subsystem and selector doesn't support; 4 for any other port
unfoldable pub misfits : List ℕ → Enquiry → ℕ → ℕ
misfits ports asked port =
    cond (eqb (octet_of ports port 0) asked.subsystem_code)
    (cond (eqb (octet_of ports port 1) asked.selector) (aspect_f ports asked port + aspect_p ports asked port + aspect_r ports asked port) 4)
    4

-- 8.4.1.1: "the audio port which best fits the data". Ours: the one with the fewest, and of several the first; misfits 4 where there is
-- none of that subsystem and selector. Here of the first n ports
unfoldable pub fewest : List ℕ → Enquiry → ℕ → Fit
fewest ports asked zero = record { misfits = 4; port = 0 }
fewest ports asked (suc n) =
    cond (ltb (misfits ports asked n) (fewest ports asked n).misfits) (record { misfits = misfits ports asked n; port = n })
    (fewest ports asked n)

abbrev pub best_fit : List ℕ → Enquiry → Fit
best_fit ports asked = fewest ports asked (port_count ports)

-- 8.4.1.3.2 a: "an input port which is the source of a call with the parameters", where its first endpoint reference isn't 0 (8.4.2.1.2);
-- 8.4.1.2.3 a: one that "can be" too. Ours: it can be where its status is C0 or E0, "enabled"
unfoldable pub serves : List ℕ → Enquiry → Bool → ℕ → Bool
serves ports asked can_be_of port =
    eqb (misfits ports asked port) 0
    && (not (eqb (first_reference ports port) 0) || (can_be_of && (eqb (status_of ports port) 0xC0 || eqb (status_of ports port) 0xE0)))

-- the first number from k on, of so many, that passes a test; where none does, the one past them
unfoldable pub first_from : (ℕ → Bool) → ℕ → ℕ → ℕ
first_from test k zero = k
first_from test k (suc left) = cond (test k) k (first_from test (k + 1) left)

-- the port that a request identifies: the first that serves; as many as there are ports where none does
abbrev pub identified : List ℕ → Enquiry → Bool → ℕ
identified ports asked can_be_of = first_from (serves ports asked can_be_of) 0 (port_count ports)
