-- At most one port's record changes, by either call.
-- Assumes nothing.
use mathlib.Core.Bool.{true, false, ◌||◌}
use mathlib.Core.List.{List, [], ◌∷◌, ◌++◌}
use mathlib.Core.Path.{◌≡◌, refl}
use Prim.Native.Nat.{ℕ, ◌+◌, ◌*◌, ◌≤◌, ◌<◌}
use native.Mathlib.Omega.{arith}
use borrow.Author.Tests.{eqb-false, leb-false, ltb-true, ltb-false}
use lib.Dec.{eqb, leb, ltb}
use lib.ListN.{length, get_or, take, drop, replicate, length-append, length-take, length-drop}
use lib.Seq.{length-take-le}
use Rattle.runs.proofs.Laws.{split, neither}
use Rattle.runs.specs.Runs.{written, number_of}
use Rattle.management.specs.declared.ports.Enquiry.{Enquiry}
use Rattle.management.specs.Controller.{configuration, noted, status_taken, controller_of}
use Rattle.management.specs.Demands.{OnePort}
use Rattle.management.specs.Equipment.{replied, connected_to, connected, disconnected_from, disconnected, equipment_of}
use Rattle.management.specs.Ports.{port_count, first_reference, best_fit, identified}
use Rattle.management.specs.Status.{configured, recognised, status_message}
use Rattle.management.specs.Tables.{
  brought_to,
  status_enquiry,
  audio_connection_request,
  audio_disconnection_request,
  input_port_status,
  output_port_status,
}
use Rattle.management.proofs.Fits.{fit_inside}
use Rattle.management.proofs.Parts.{length_brought, length_written, get_or_before, get_or_behind, same_part, same_rest}

pub unchanged : (ports : List ℕ) → OnePort ports ports
unchanged ports = record { port = 0; others = λ other differs. refl; rest = refl; name = refl }

-- octets written into a record, behind its subsystem code and its selector
module _ (ports : List ℕ) (port k : ℕ) (vs : List ℕ) (inside : port < port_count ports) (behind : 2 ≤ k) (within : k + length vs ≤ 28) where
  room : port * 28 + k + length vs ≤ length ports
  room = omega arith

  abbrev after : List ℕ
  after = written ports (port * 28 + k) vs

  same_length : length after ≡ length ports
  same_length = length_written ports (port * 28 + k) vs room

  pub one_changed : OnePort ports after
  one_changed =
      record {
        port = port;
        others = λ other differs.
            same_part after ports (other * 28 + 0) 28 same_length (λ i less.
            split (ltb other port)
            (λ t.
            let before : other < port = ltb-true other port t in
            get_or_before ports (port * 28 + k) vs room (omega arith))
            (λ t.
            let past : port ≤ other = ltb-false other port t in
            let more : port < other = omega (arith, differs) in
            get_or_behind ports (port * 28 + k) vs room (omega arith)));
        rest = same_rest after ports (port_count ports * 28) same_length (λ i past. get_or_behind ports (port * 28 + k) vs room (omega arith));
        name = same_part after ports (port * 28 + 0) 2 same_length (λ i less. get_or_before ports (port * 28 + k) vs room (omega arith));
      }

-- the equipment stores a first endpoint reference, or nothing
module _ (ports : List ℕ) (asked : Enquiry) (reference : List ℕ) (two : length reference ≡ 2) (room : ℕ) where
  replied_one : OnePort ports (replied ports asked room).ports
  unfolding replied
  replied_one =
      split (ltb room (length (status_message ports asked))) (λ t. rw t (unchanged ports)) (λ t. rw t (unchanged ports))

  connected_one : OnePort ports (connected ports asked reference room).ports
  unfolding connected connected_to
  connected_one =
      split (eqb (number_of reference) 0 || leb (port_count ports) (identified ports asked true))
      (λ t. rw t replied_one)
      (λ t.
      let inside : identified ports asked true < port_count ports = leb-false _ _ (neither (eqb (number_of reference) 0) _ t).1 in
      rw t
      (split (eqb (first_reference ports (identified ports asked true)) 0)
      (λ u. rw u (one_changed ports (identified ports asked true) 6 reference inside (omega arith) (omega arith)))
      (λ u. rw u (unchanged ports))))

  disconnected_one : OnePort ports (disconnected ports asked reference room).ports
  unfolding disconnected disconnected_from
  disconnected_one =
      split (leb (port_count ports) (identified ports asked false))
      (λ t. rw t replied_one)
      (λ t.
      let inside : identified ports asked false < port_count ports = leb-false _ _ t in
      rw t
      (split (eqb (number_of reference) 0xFFFF)
      (λ u. rw u (one_changed ports (identified ports asked false) 6 (replicate 2 0) inside (omega arith) (omega arith)))
      (λ u. rw u (unchanged ports))))

two_octets : (n : ℕ) (message : List ℕ) → 7 ≤ n → length (take 2 (drop 5 (brought_to n message))) ≡ 2
two_octets n message long =
    length-take-le 2 (drop 5 (brought_to n message)) (omega (arith, length-drop 5 (brought_to n message), length_brought n message))

pub equipment_one : (ports message : List ℕ) (room : ℕ) → OnePort ports (equipment_of ports message room).ports
unfolding equipment_of audio_connection_request audio_disconnection_request
equipment_one ports message room =
    split (eqb (length message) 0)
    (λ t. rw t (unchanged ports))
    (λ t.
    split (eqb (get_or message 0 0) 1)
    (λ u. rw (t, u) (replied_one ports (status_enquiry (brought_to 6 message)) (replicate 2 0) refl room))
    (λ u.
    split (eqb (get_or message 0 0) 2)
    (λ v. rw (t, u, v) (connected_one ports _ (take 2 (drop 5 (brought_to 27 message))) (two_octets 27 message (omega arith)) room))
    (λ v.
    split (eqb (get_or message 0 0) 3)
    (λ w. rw (t, u, v, w) (disconnected_one ports _ (take 2 (drop 5 (brought_to 7 message))) (two_octets 7 message (omega arith)) room))
    (λ w. rw (t, u, v, w) (unchanged ports)))))

-- the controlling entity notes what a status message tells, or nothing
module _ (ports : List ℕ) (told : Enquiry) (status : ℕ) (rest : List ℕ) (few : length rest ≤ 22) where
  three : (port : ℕ) → port < port_count ports → length (configuration ports told status port) ≡ 3
  unfolding configuration
  three port inside =
      split (configured told.subsystem_code status)
      (λ t. rw t refl)
      (λ t. rw t (length-take-le 3 (drop (port * 28 + 3) ports) (omega (arith, length-drop (port * 28 + 3) ports))))

  taken_one_lem : OnePort ports (status_taken ports told status rest)
  unfolding status_taken noted
  taken_one_lem =
      split (recognised told.subsystem_code status)
      (λ t.
      rw t
      (split (eqb (best_fit ports told).misfits 4)
      (λ u. rw u (unchanged ports))
      (λ u.
      let inside = fit_inside ports told (port_count ports) (eqb-false _ _ u) in
      let long = three (best_fit ports told).port inside in
      rw u
      (one_changed ports (best_fit ports told).port 2 ((status ∷ configuration ports told status (best_fit ports told).port) ++ rest) inside
      (omega arith)
      (omega (arith, length-append (status ∷ configuration ports told status (best_fit ports told).port) rest))))))
      (λ t. rw t (unchanged ports))

part_short : (n : ℕ) (xs : List ℕ) → length (take n xs) ≤ n
part_short n xs = omega (arith, length-take n xs)

both_short : (m n : ℕ) (xs ys : List ℕ) → length (take m xs ++ take n ys) ≤ m + n
both_short m n xs ys = omega (arith, length-append (take m xs) (take n ys), part_short m xs, part_short n ys)

pub controller_one : (ports message : List ℕ) → OnePort ports (controller_of ports message)
unfolding controller_of input_port_status output_port_status
controller_one ports message =
    split (eqb (get_or message 0 0) 129)
    (λ t.
    split (eqb (get_or message 1 0) 0)
    (λ u. rw (t, u) (taken_one_lem ports _ _ (take 2 (drop 7 (brought_to 9 message))) (omega (arith, part_short 2 (drop 7 (brought_to 9 message))))))
    (λ u.
    split (eqb (get_or message 1 0) 1)
    (λ v.
    rw (t, u, v)
    (split (eqb (get_or (brought_to 29 message) 3 0) 0xE0)
    (λ w.
    rw w
    (taken_one_lem ports _ _ (take 20 (drop 7 (brought_to 29 message)) ++ take 2 (drop 27 (brought_to 29 message)))
    (both_short 20 2 (drop 7 (brought_to 29 message)) (drop 27 (brought_to 29 message)))))
    (λ w. rw w (taken_one_lem ports _ _ [] (omega arith)))))
    (λ v. rw (t, u, v) (unchanged ports))))
    (λ t. rw t (unchanged ports))
